use Rattle.serde_json.specs.View.{view}
use Rattle.etcd_requests.specs.Requests.{switch}
use Rattle.etcd_requests.specs.Texts.{transaction_data}
use Rattle.etcd_requests.proofs.Floats.{text_is, transaction_no_float}
use Rattle.etcd_requests.proofs.bodies.switch_body.Goals as goal

pub returns : goal.returns
returns c =
    let all = switch c.args.term.now c.args.going in
    text_is c.text_of.result (view c.in_ok-value.value) (transaction_data c.args.prefix.now all) c.in_ok-value.ensures (transaction_no_float c.args.prefix.now all) c.text_of.ensures.form
