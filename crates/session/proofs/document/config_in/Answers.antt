use Rattle.std.proofs.Common.{codes}
use Rattle.serde_json.specs.View.{view}
use Rattle.session.proofs.Depths.{member_shallow}
use Rattle.session.proofs.document.config_in.Goals as goal

pub config_of-requires : goal.config_of-requires
config_of-requires c = member_shallow (codes "config") (view c.args.document.now) (view c.in-Some.config.now) c.in-Some.ensures c.requires
