use Rattle.std.proofs.Common.{codes}
use Rattle.etcd_settings.proofs.Prefixing.{stripped}
use Rattle.etcd_settings.proofs.place.behind_scheme.Goals as goal

pub returns : goal.returns
returns c = stripped (codes "etcd://") c.args.text.now c.strip_prefix.result c.strip_prefix.ensures.cases
