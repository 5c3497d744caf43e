use Rattle.std.proofs.Common.{option_map, sym, ap, ◌∙◌}
use Rattle.serde_json.specs.View.{view}
use Rattle.session.proofs.Depths.{shallow}
use Rattle.session.proofs.document.read_session.Goals as goal

pub session_in-requires : goal.session_in-requires
session_in-requires c = shallow c.args.bytes.now (view c.in-Some.document) (sym c.in_ok-document.ensures ∙ ap (option_map view) c.in-Some.is)
