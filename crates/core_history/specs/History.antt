-- A renewed core as JSON: `allocation`, pairs of a target and its collector, `certificate`, a certificate document in which items share their
-- lists of bins, `fleet`, `round`, and `served`, for each known target the collector of which a list that was served last has it, 0 for none;
-- left out where none has any. What a line says is a state, or the first fault in this order: the shape, the fleet's parts, the allocation,
-- the round, the lists served.
use Rattle.std.specs.Prelude.{◌≡◌, true, ℕ, ◌==◌, List, Bool, not, ◌&&◌, nat_le, nat_lt, if◌then◌else◌, [], length, map, Option, Some, None, option_map, option_and_then, Result, Ok, Err, codes}
use Rattle.std.specs.List.{list_all}
use Rattle.lists.specs.Rising.{rises}
use Rattle.serde_json.specs.Data.{Data, object, no_members, member}
use Rattle.serde_json.specs.Find.{get}
use Rattle.serde_json.specs.Written.{compact_text}
use Rattle.json_values.specs.Spelling.{number_in, pair_in, list_in, member_in, number_data, pair_data, list_data}
use Rattle.json_values.specs.Texts.{json_of}
use Rattle.price_certificate.specs.Document.{shared_document_data}
use Rattle.price_certificate.specs.Instances.{problem_in}
use Rattle.price_certificate.specs.Plan.{plan_in}
use Rattle.price_certificate.specs.Problem.{Problem}
use Rattle.price_certificate.specs.declared.plan.Plan.{Plan}
use Rattle.fleet.specs.Fleet.{FleetState, is_joined}
use Rattle.fleet.specs.Parts.{fleet_of, parts_fault}
use Rattle.fleet.specs.declared.error.PartsError.{PartsError}
use Rattle.fleet.specs.declared.error.PartsError.TheVariants as fleet
use Rattle.fleet.specs.declared.fleet_parts.FleetParts.{FleetParts}
use Rattle.served_lists.specs.Served.{slot_of, tabulated}
use Rattle.allocation_core.specs.State.{State, current_pairs, restored}
use Rattle.core_history.specs.Parts.{fleet_data, fleet_parts_in, parts_of}
use Rattle.core_history.specs.declared.error.HistoryError.{HistoryError}
use Rattle.core_history.specs.declared.error.HistoryError.TheVariants.{Shape, Fleet, BadAllocation, BadRound, BadServed, Memory}
use Rattle.core_history.specs.declared.history.Certificate.{Certificate}
use Rattle.core_history.specs.declared.history.History.{History}

-- ---- the shape

abbrev pub certificate_of : Problem → Plan → Certificate
certificate_of problem plan = record { instance = problem; plan = plan }

unfoldable pub certificate_in : Data → Option Certificate
certificate_in d = option_and_then (λ problem. option_map (certificate_of problem) (plan_in d)) (problem_in d)

abbrev pub history_of : List (ℕ × ℕ) → Certificate → FleetParts → ℕ → Option (List ℕ) → History
history_of allocation certificate fleet round served = record { allocation = allocation; certificate = certificate; fleet = fleet; round = round; served = served }

-- whose lists have which targets: nothing where the member is left out
abbrev pub served_or_none : Option Data → Option (Option (List ℕ))
served_or_none None = Some None
served_or_none (Some d) = option_map (λ (slots : List ℕ). Some slots) (list_in number_in d)

-- the members of a history; others don't matter
unfoldable pub parts_in : Data → Option History
parts_in d =
    option_and_then
    (λ allocation. option_and_then (λ certificate. option_and_then (λ fleet. option_and_then (λ round. option_map (history_of allocation certificate fleet round) (served_or_none (get (codes "served") d))) (member_in number_in (codes "round") d))
    (member_in fleet_parts_in (codes "fleet") d)) (member_in certificate_in (codes "certificate") d)) (member_in (list_in pair_in) (codes "allocation") d)

-- ---- the state

abbrev pub fleet_error : PartsError → HistoryError
fleet_error fleet.BadJobs = Fleet fleet.BadJobs
fleet_error fleet.BadTargets = Fleet fleet.BadTargets
fleet_error fleet.BadLists = Fleet fleet.BadLists
fleet_error fleet.BadCollectors = Fleet fleet.BadCollectors
fleet_error fleet.RepeatedTarget = Fleet fleet.RepeatedTarget
fleet_error fleet.Memory = Memory

-- the fleet's first fault has this name
abbrev pub IsFaultOf : FleetState → HistoryError → Type 0
IsFaultOf fleet error = (fault : PartsError) × (parts_fault fleet ≡ Some fault) × (error ≡ fleet_error fault)

-- the pairs name known targets, in ascending order, and live collectors
abbrev pub is_allocation : FleetState → List (ℕ × ℕ) → Bool
is_allocation fleet pairs = list_all (λ (q : ℕ × ℕ). nat_lt q.0 (length fleet.known) && is_joined fleet q.1) pairs && rises (map (λ (q : ℕ × ℕ). q.0) pairs)

-- not more slots than known targets, of collectors that joined once
abbrev pub are_slots : FleetState → Option (List ℕ) → Bool
are_slots fleet None = true
are_slots fleet (Some slots) = nat_le (length slots) (length fleet.known) && list_all (λ (collector : ℕ). nat_le collector fleet.last_collector) slots

-- what is said of slots: nothing where the member is left out
abbrev pub said_slots : Option (List ℕ) → List ℕ
said_slots None = []
said_slots (Some slots) = slots

-- a slot for each known target: where none is said no list has it
abbrev pub slots_of : FleetState → Option (List ℕ) → List ℕ
slots_of fleet served = tabulated (slot_of (said_slots served)) (length fleet.known)

abbrev pub state_of : History → State
state_of history = restored (fleet_of history.fleet) history.allocation (slots_of (fleet_of history.fleet) history.served) history.certificate.instance history.certificate.plan history.round 1

-- what a history comes to whose fleet has no fault
abbrev pub with_fleet : History → Result State HistoryError
with_fleet history =
    if not (is_allocation (fleet_of history.fleet) history.allocation) then Err BadAllocation
    else (if history.round == 0 then Err BadRound else (if not (are_slots (fleet_of history.fleet) history.served) then Err BadServed else Ok (state_of history)))

abbrev pub by_fault : Option PartsError → History → Result State HistoryError
by_fault None history = with_fleet history
by_fault (Some fault) history = Err (fleet_error fault)

unfoldable pub checked : History → Result State HistoryError
checked history = by_fault (parts_fault (fleet_of history.fleet)) history

abbrev pub checked_in : Option History → Result State HistoryError
checked_in None = Err Shape
checked_in (Some history) = checked history

-- what a value says
unfoldable pub history_in : Data → Result State HistoryError
history_in d = checked_in (parts_in d)

abbrev pub said_by : Option Data → Result State HistoryError
said_by None = Err Shape
said_by (Some d) = history_in d

-- what a line says
unfoldable pub history_said : List ℕ → Result State HistoryError
history_said line = said_by (json_of line)

-- ---- and the one form in which a state is written: members in order of their names

abbrev pub history_object : Data → Data → Data → Data → Data
history_object allocation certificate fleet round = object (member (codes "allocation") allocation (member (codes "certificate") certificate (member (codes "fleet") fleet (member (codes "round") round no_members))))

abbrev pub served_object : Data → Data → Data → Data → Data → Data
served_object allocation certificate fleet round served =
    object (member (codes "allocation") allocation
    (member (codes "certificate") certificate
    (member (codes "fleet") fleet
    (member (codes "round") round
    (member (codes "served") served no_members)))))

-- the slots, or nothing where no list has a target
abbrev pub slots_said : List ℕ → Option (List ℕ)
slots_said slots = if list_all (λ (collector : ℕ). collector == 0) slots then None else Some slots

abbrev pub history_by : Data → Data → Data → Data → Option (List ℕ) → Data
history_by allocation certificate fleet round None = history_object allocation certificate fleet round
history_by allocation certificate fleet round (Some slots) = served_object allocation certificate fleet round (list_data number_data slots)

abbrev pub history_data : State → Data
history_data m =
    history_by (list_data pair_data (current_pairs m)) (shared_document_data m.problem m.plan.pairs m.plan.item_prices m.plan.bin_prices) (fleet_data m.fleet) (number_data m.round) (slots_said m.served.slots)

abbrev pub history_text : State → List ℕ
history_text m = compact_text (history_data m)

-- what is written of a state
abbrev pub kept_of : State → History
kept_of m = history_of (current_pairs m) (certificate_of m.problem m.plan) (parts_of m.fleet) m.round (slots_said m.served.slots)

-- What is written of a state where its allocation names known targets and live collectors reads back as the state without its
-- earlier allocations, takes and reports, and with reports booked of one round: so a renewed state reads back whole but for that, which
-- another member of a first line says.
abbrev pub ReadsBack : State → Result State HistoryError → Type 0
ReadsBack m said = is_allocation m.fleet (current_pairs m) ≡ true → said ≡ Ok (restored m.fleet (current_pairs m) (slots_of m.fleet (slots_said m.served.slots)) m.problem m.plan m.round 1)
