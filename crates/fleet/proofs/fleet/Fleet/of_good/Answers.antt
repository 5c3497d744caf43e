use Rattle.std.proofs.Common.{◌≡◌, List, None, true, sym, ap, ◌∙◌}
use Rattle.fleet.specs.Parts.{are_distinct, fleet_of, parts_fault}
use Rattle.fleet.specs.Reached.{reach_rows}
use Rattle.fleet.specs.declared.collector.Collector.{Collector}
use Rattle.fleet.specs.declared.known_target.KnownTarget.{KnownTarget}
use Rattle.fleet.proofs.FaultLemmas.{good_fleet, none_if}
use Rattle.fleet.proofs.fleet.Fleet.of_good.Goals as goal

pub invariant_of-result : goal.invariant_of-result
invariant_of-result c =
    let some = rw c.in-Some.is at c.in_ok-known.ensures.some in
    let distinct : are_distinct c.args.parts.known ≡ true = ap (λ (known : List KnownTarget). are_distinct known) (sym c.into_vec.ensures) ∙ some.1 in
    let none : parts_fault (fleet_of c.args.parts) ≡ None = none_if (are_distinct c.args.parts.known) _ _ distinct c.requires in
    let fleet = good_fleet c.args.parts c.into_vec-2.result.items c.in-Some.known.keys c.into_vec-3.result.items c.into_vec-2.ensures (some.0 ∙ c.into_vec.ensures) c.into_vec-3.ensures none in
    let rows = c.in_ok-table.ensures ∙ ap (λ (collectors : List Collector). reach_rows collectors c.as_slice-2.result.now) (c.as_slice.ensures ∙ sym c.into_vec-3.ensures) ∙ ap (λ (known : List KnownTarget). reach_rows c.into_vec-3.result.items known) c.as_slice-2.ensures.keys in
    (fleet.0, rows, fleet.1)
