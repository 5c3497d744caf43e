-- Of what lies outside nothing is known: it may act in any way.
use Rattle.std.proofs.Common.{List, [], ◌∷◌, refl}
use Rattle.std.specs.Prelude.{⊤}
use Rattle.agent_core.specs.declared.report.Report.{Report}
use Rattle.agent_turns.specs.Acts.{Runs, posts}

pub all_run : {S : Type 0} (s : S) (reports : List Report) → Runs (λ _ _ _. ⊤) s (posts reports) s
all_run s [] = refl
all_run s (report ∷ reports) = (s, tt, all_run s reports)
