use Rattle.std.proofs.Common.{◌≡◌, ◌++◌, Ok}
use Rattle.serde_json.specs.View.{members_view}
use Rattle.sd_documents.specs.Reading.{◌>>=◌}
use Rattle.sd_documents.specs.Config.{params_from}
use Rattle.sd_documents.proofs.config.parts.each_param.Given as goal

abbrev pub invariant-loop-name : goal.invariant-loop-name
invariant-loop-name l = params_from l.index (members_view l.name-iterator) >>= (λ ps. Ok (l.params ++ ps)) ≡ params_from l.index (members_view l.members.entries)
