use Rattle.std.proofs.Common.{refl}
use Rattle.serde_json.specs.View.{view}
use Rattle.etcd_requests.specs.Texts.{term_data}
use Rattle.etcd_requests.proofs.Floats.{text_is}
use Rattle.etcd_requests.proofs.bodies.term_text.Goals as goal

pub returns : goal.returns
returns c = text_is c.text_of.result (view c.in_ok-value.value) (term_data c.args.advertise.now c.args.instance.now) c.in_ok-value.ensures refl c.text_of.ensures.form
