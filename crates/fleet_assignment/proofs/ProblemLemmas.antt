-- The instance of a fleet and a preceding allocation is one.
use Rattle.std.proofs.Common.{◌≡◌, ℕ, ◌≤◌, List, [], Option, Some, None, length, get_or, refl, sym, ◌∙◌, inl, inr, arith}
use Rattle.std.specs.Prelude.{map}
use Rattle.std.proofs.lemmas.List.{length-map, get_or-map, get_or_past}
use Rattle.std.proofs.lemmas.Bool.{cases_lt}
use Rattle.price_certificate.specs.Problem.{IsProblem}
use Rattle.price_certificate.specs.Document.{marked_from}
use Rattle.price_certificate.specs.declared.version.Version.{Version}
use Rattle.price_certificate.specs.declared.version.Version.TheVariants.{One, Two}
use Rattle.fleet.specs.Fleet.{is_live, live_of}
use Rattle.fleet.specs.IsFleet.{IsFleet}
use Rattle.fleet.proofs.LiveLemmas.{length-chosen}
use Rattle.fleet_assignment.specs.Beside.{beside}
use Rattle.fleet_assignment.specs.Instance.{instance_of, limits_for, draining_for, row_in, bin_before_in}
use Rattle.fleet_assignment.proofs.Moment.{Moment}
use Rattle.fleet_assignment.proofs.Shapes.{parts_shaped, bin_below, length-draining, length-limits}

none_some : (b : ℕ) → ◌≡◌ {A = Option ℕ} None (Some b) → {X : Type 0} → X
none_some b e = cc

no_old : ◌≡◌ {A = Version} Two One → ⊥
no_old e = cc

-- the instance of a moment is one
pub problem_is : (m : Moment) → IsFleet m.fleet → IsProblem (instance_of m.fleet m.before)
unfolding instance_of
problem_is m kept =
    let j : ℕ = length m.fleet.jobs in
    let live : List ℕ = live_of m.fleet in
    let few : length live ≤ 16384 = omega (arith, length-chosen (is_live m.fleet) (length m.fleet.known), kept.few_live) in
    let shaped = parts_shaped m.fleet.jobs m.fleet.collectors m.fleet.known live [] (limits_for m.fleet.jobs m.fleet.collectors) (marked_from 0 (draining_for j m.fleet.collectors)) (map (row_in j m.fleet.collectors m.fleet.known) live) _ kept.homes kept.few_bins kept.few_collectors few refl refl refl refl in
    let bins = length-limits m.fleet.jobs m.fleet.collectors in
    record {
      reach = shaped.reach;
      bins = length-draining j m.fleet.collectors ∙ sym bins;
      old = λ e bin. absurd (no_old e);
      items = length-map live (bin_before_in j m.fleet.collectors m.fleet.known m.before) ∙ sym (length-map live (row_in j m.fleet.collectors m.fleet.known));
      before_in_range = λ item bin e. elim (cases_lt item (length live)) [
        | inl l ↦ bin_below j (length (limits_for m.fleet.jobs m.fleet.collectors)) bin (get_or live item 0) m.fleet.collectors m.fleet.known (beside m.before (get_or live item 0)) kept.homes (omega (arith, bins))
            (sym (get_or-map (bin_before_in j m.fleet.collectors m.fleet.known m.before) live item 0 None l) ∙ e)
        | inr past ↦ none_some bin (sym (get_or_past (map (bin_before_in j m.fleet.collectors m.fleet.known m.before) live) item None (omega (arith, length-map live (bin_before_in j m.fleet.collectors m.fleet.known m.before)))) ∙ e)
      ];
    }
