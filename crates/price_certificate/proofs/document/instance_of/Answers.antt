use Rattle.serde_json.specs.View.{view}
use Rattle.price_certificate.proofs.InstanceLemmas.{read_as}
use Rattle.price_certificate.proofs.document.instance_of.Goals as goal

pub returns : goal.returns
returns c = read_as (view c.args.value.now) c.instance_in.result c.instance_in.ensures.some c.instance_in.ensures.none
