use Rattle.std.proofs.Common.{List, ap, arith, refl, sym, ◌∙◌}
use Rattle.std.proofs.lemmas.Grind.{common_steps}
use Rattle.fleet.specs.Reached.{reach_rows}
use Rattle.fleet.specs.declared.collector.Collector.{Collector}
use Rattle.fleet.proofs.KeptLemmas.{first_kept}
use Rattle.fleet.proofs.fleet.Fleet.open.Goals as goal

pub invariant_of-result : goal.invariant_of-result
invariant_of-result c =
    (first_kept _ (grind (arith, common_steps)) (grind (arith, common_steps)) c.new-2.ensures.items refl, c.open.ensures ∙ ap (λ (cs : List Collector). reach_rows cs c.new.result.keys) (sym c.new-2.ensures.items), grind (arith, common_steps))
