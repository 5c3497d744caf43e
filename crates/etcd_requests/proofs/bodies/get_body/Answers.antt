use Rattle.std.proofs.Common.{refl}
use Rattle.serde_json.specs.View.{view}
use Rattle.etcd_requests.specs.Texts.{get_data}
use Rattle.etcd_requests.proofs.Floats.{text_is}
use Rattle.etcd_requests.proofs.bodies.get_body.Goals as goal

pub returns : goal.returns
returns c = text_is c.text_of.result (view c.in_ok-value.value) (get_data c.args.prefix.now c.args.key) c.in_ok-value.ensures refl c.text_of.ensures.form
