-- A history as it is written has no float and few levels, so its text is known and reads back.
use Rattle.std.proofs.Common.{◌≡◌, ◌≤◌, ℕ, List, Option, Some, None, false, refl, arith}
use Rattle.std.proofs.lemmas.Bool.{or_from}
use Rattle.serde_json.specs.Data.{depth}
use Rattle.serde_json.specs.Read.{max_depth}
use Rattle.serde_json.specs.Written.{has_float}
use Rattle.json_values.specs.Spelling.{number_data, pair_data, list_data}
use Rattle.json_values.proofs.Lists.{no_float, levels}
use Rattle.price_certificate.specs.Document.{shared_document_data}
use Rattle.price_certificate.proofs.DocumentForm.{has_float-shared_document_data, levels-shared_document_data}
use Rattle.fleet.specs.Fleet.{FleetState}
use Rattle.fleet.specs.declared.collector.Collector.{Collector}
use Rattle.fleet.specs.declared.known_target.KnownTarget.{KnownTarget}
use Rattle.fleet_events.proofs.Forms.{reach_no_float, limits_no_float, reach_levels, limits_levels}
use Rattle.allocation_core.specs.State.{State, current_pairs}
use Rattle.core_history.specs.Parts.{job_data, known_data, collector_data, fleet_data}
use Rattle.core_history.specs.History.{history_by, history_data, slots_said}

-- ---- no float

known_no_float : (known : KnownTarget) → has_float (known_data known) ≡ false
known_no_float known = refl

collector_no_float : (c : Collector) → has_float (collector_data c) ≡ false
collector_no_float c = or_from _ _ (limits_no_float c.limits) (or_from _ _ (reach_no_float c.reach) refl)

numbers_no_float : (numbers : List ℕ) → has_float (list_data number_data numbers) ≡ false
numbers_no_float = no_float number_data (λ n. refl)

fleet_no_float : (fleet : FleetState) → has_float (fleet_data fleet) ≡ false
fleet_no_float fleet =
    or_from _ _ (no_float collector_data collector_no_float fleet.collectors) (or_from _ _ (no_float job_data (λ job. refl) fleet.jobs)
    (or_from _ _ (no_float (list_data (list_data number_data)) (no_float (list_data number_data) numbers_no_float) fleet.listed) (or_from _ _ (no_float known_data known_no_float fleet.known) refl)))

rest_no_float : (m : State) (slots : Option (List ℕ)) → has_float (history_by (list_data pair_data (current_pairs m)) (shared_document_data m.problem m.plan.pairs m.plan.item_prices m.plan.bin_prices) (fleet_data m.fleet) (number_data m.round) slots) ≡ false
rest_no_float m None = or_from _ _ (no_float pair_data (λ q. refl) (current_pairs m)) (or_from _ _ (has_float-shared_document_data m.problem m.plan.pairs m.plan.item_prices m.plan.bin_prices) (or_from _ _ (fleet_no_float m.fleet) refl))
rest_no_float m (Some slots) =
    or_from _ _ (no_float pair_data (λ q. refl) (current_pairs m)) (or_from _ _ (has_float-shared_document_data m.problem m.plan.pairs m.plan.item_prices m.plan.bin_prices) (or_from _ _ (fleet_no_float m.fleet) (or_from _ _ (numbers_no_float slots) refl)))

pub history_no_float : (m : State) → has_float (history_data m) ≡ false
history_no_float m = rest_no_float m (slots_said m.served.slots)

-- ---- few levels

known_levels : (known : KnownTarget) → depth (known_data known) ≤ 1
known_levels known = omega arith

collector_levels : (c : Collector) → depth (collector_data c) ≤ 3
collector_levels c = omega (arith, limits_levels c.limits, reach_levels c.reach)

numbers_levels : (numbers : List ℕ) → depth (list_data number_data numbers) ≤ 1
numbers_levels numbers = omega (arith, levels number_data 0 (λ n. omega arith) numbers)

sources_levels : (sources : List (List ℕ)) → depth (list_data (list_data number_data) sources) ≤ 2
sources_levels sources = omega (arith, levels (list_data number_data) 1 numbers_levels sources)

fleet_levels : (fleet : FleetState) → depth (fleet_data fleet) ≤ 5
fleet_levels fleet =
    omega (arith, levels collector_data 3 collector_levels fleet.collectors, levels job_data 1 (λ job. omega arith) fleet.jobs, levels (list_data (list_data number_data)) 2 sources_levels fleet.listed, levels known_data 1 known_levels fleet.known)

rest_levels : (m : State) (slots : Option (List ℕ)) → depth (history_by (list_data pair_data (current_pairs m)) (shared_document_data m.problem m.plan.pairs m.plan.item_prices m.plan.bin_prices) (fleet_data m.fleet) (number_data m.round) slots) ≤ max_depth
rest_levels m None = omega (arith, levels pair_data 1 (λ q. omega arith) (current_pairs m), levels-shared_document_data m.problem m.plan.pairs m.plan.item_prices m.plan.bin_prices, fleet_levels m.fleet)
rest_levels m (Some slots) =
    omega (arith, levels pair_data 1 (λ q. omega arith) (current_pairs m), levels-shared_document_data m.problem m.plan.pairs m.plan.item_prices m.plan.bin_prices, fleet_levels m.fleet, numbers_levels slots)

pub history_levels : (m : State) → depth (history_data m) ≤ max_depth
history_levels m = rest_levels m (slots_said m.served.slots)
