-- Of a state that a first line opens a history leaves nothing out.
use Rattle.std.proofs.Common.{◌≡◌, ◌==◌, ℕ, Bool, true, false, not, cond, List, [], ◌∷◌, Option, Some, None, option_and_then, option_map, Result, Ok, Err, refl, sym, ap, ◌∙◌, subst}
use Rattle.std.specs.List.{onto_first}
use Rattle.std.specs.Option.{option_map_or}
use Rattle.serde_json.specs.Data.{Data}
use Rattle.price_certificate.specs.Problem.{Problem}
use Rattle.price_certificate.specs.declared.plan.Plan.{Plan}
use Rattle.handover.specs.Handover.{last_of, only}
use Rattle.fleet.specs.Fleet.{FleetState}
use Rattle.fleet.specs.Jobs.{are_jobs}
use Rattle.fleet.specs.Parts.{fleet_of, parts_fault}
use Rattle.fleet.specs.declared.error.PartsError.{PartsError}
use Rattle.fleet.specs.declared.job.JobSpec.{JobSpec}
use Rattle.allocation_core.specs.State.{State, first_state, restored, with_rounds}
use Rattle.core_history.specs.History.{are_slots, by_fault, checked, checked_in, history_in, is_allocation, parts_in, slots_of, slots_said}
use Rattle.core_history.proofs.Checking.{length-slots_of, whole_said}
use Rattle.core_history.specs.declared.error.HistoryError.{HistoryError}
use Rattle.core_history.specs.declared.error.HistoryError.TheVariants.{BadAllocation, BadRound, BadServed}
use Rattle.replay_lines.specs.AsRuns.{events_of}
use Rattle.replay_lines.specs.Configurations.{history_of, jobs_in, opened, opened_by as opening, opened_from, opened_in, resumed_with, rounds_of, same_jobs}
use Rattle.replay_lines.specs.Replays.{lines_in}
use Rattle.replay_lines.specs.Resumes.{damage_at, resumed, resumed_by, resumed_from, resumption_at, unread_from}
use Rattle.replay_lines.specs.declared.resuming.Resumption.{Resumption}
use Rattle.audit.specs.Checks.{first_line}
use Rattle.audit.specs.Laws.{IsWhole, OpenedAreWhole}
use Rattle.audit.proofs.Results.{no_err, no_none, ok_same, some_same}

-- ---- a state that a history says

last_only : (pairs : List (ℕ × ℕ)) → last_of (only pairs) ≡ pairs
last_only [] = refl
last_only (q ∷ pairs) = refl

restored_whole :
    (fleet : FleetState) (pairs : List (ℕ × ℕ)) (slots : List ℕ) (problem : Problem) (plan : Plan) (round : ℕ) → is_allocation fleet pairs ≡ true → slots_of fleet (slots_said slots) ≡ slots → IsWhole (restored fleet pairs slots problem plan round 1)
restored_whole fleet pairs slots problem plan round e said =
    record {
      allocation = ap (λ (ps : List (ℕ × ℕ)). is_allocation fleet ps) (last_only pairs) ∙ e;
      is = (λ i. restored fleet (last_only pairs i) (said i) problem plan round 1);
    }

-- what passes all checks
record Passes (b : Bool) (m n : State) : Type 0 where
  good : b ≡ true
  same : m ≡ n

passes : (b c d : Bool) (m n : State) → ◌≡◌ {A = Result State HistoryError} (cond (not b) (Err BadAllocation) (cond c (Err BadRound) (cond (not d) (Err BadServed) (Ok m)))) (Ok n) → Passes b m n
passes true true d m n e = absurd (no_err BadRound n e)
passes true false true m n e = record { good = refl; same = ok_same m n e }
passes true false false m n e = absurd (no_err BadServed n e)
passes false c d m n e = absurd (no_err BadAllocation n e)

-- of plain parts, whose fleet has no fault
passed :
    (fleet : FleetState) (pairs : List (ℕ × ℕ)) (slots : List ℕ) (problem : Problem) (plan : Plan) (round : ℕ) (fits : Bool) (n : State) → slots_of fleet (slots_said slots) ≡ slots
    → ◌≡◌ {A = Result State HistoryError} (cond (not (is_allocation fleet pairs)) (Err BadAllocation) (cond (round == 0) (Err BadRound) (cond (not fits) (Err BadServed) (Ok (restored fleet pairs slots problem plan round 1))))) (Ok n) → IsWhole n
passed fleet pairs slots problem plan round fits n said e =
    let p = passes (is_allocation fleet pairs) (round == 0) fits (restored fleet pairs slots problem plan round 1) n e in
    subst IsWhole p.same (restored_whole fleet pairs slots problem plan round p.good said)

whole_by : (fault : Option PartsError) (h : _) (n : State) → by_fault fault h ≡ Ok n → IsWhole n
whole_by (Some fault) h n e = absurd (no_err _ n e)
whole_by None h n e =
    passed (fleet_of h.fleet) h.allocation (slots_of (fleet_of h.fleet) h.served) h.certificate.instance h.certificate.plan h.round (are_slots (fleet_of h.fleet) h.served) n
    (whole_said (fleet_of h.fleet) (slots_of (fleet_of h.fleet) h.served) (length-slots_of (fleet_of h.fleet) h.served)) e

history_whole : (h : _) (n : State) → checked_in h ≡ Ok n → IsWhole n
unfolding checked
history_whole None n e = absurd (no_err _ n e)
history_whole (Some h) n e = whole_by (parts_fault (fleet_of h.fleet)) h n e

said_whole : (d : Data) (n : State) → history_in d ≡ Ok n → IsWhole n
unfolding history_in
said_whole d n e = history_whole (parts_in d) n e

-- ---- or the first one of its jobs

first_whole : (jobs : List JobSpec) → IsWhole (first_state jobs 1)
first_whole jobs = record { allocation = refl; is = refl }

some_by : (b : Bool) (m n : State) → cond b (Some m) None ≡ Some n → m ≡ n
some_by true m n e = some_same m n e
some_by false m n e = absurd (no_none n e)

resumed_whole : (jobs : List JobSpec) (said : Result State HistoryError) (n : State) → ((m : State) → said ≡ Ok m → IsWhole m) → resumed_with jobs said ≡ Some n → IsWhole n
resumed_whole jobs (Err fault) n whole e = absurd (no_none n e)
resumed_whole jobs (Ok m) n whole e = subst IsWhole (some_by (same_jobs m.fleet.jobs jobs) m n e) (whole m refl)

from_whole : (history : Option Data) (jobs : List JobSpec) (n : State) → opened_from history jobs ≡ Some n → IsWhole n
from_whole None jobs n e = subst IsWhole (some_by (are_jobs jobs) (first_state jobs 1) n e) (first_whole jobs)
from_whole (Some d) jobs n e = resumed_whole jobs (history_in d) n (said_whole d) e

-- of how many rounds reports are booked is of no matter
counted_whole : (report_rounds : ℕ) (n : State) → IsWhole n → IsWhole (with_rounds report_rounds n)
counted_whole report_rounds n whole = record { allocation = whole.allocation; is = ap (with_rounds report_rounds) whole.is }

booking_whole : (report_rounds : ℕ) (opened : Option State) (n : State) → ((m : State) → opened ≡ Some m → IsWhole m) → option_map (with_rounds report_rounds) opened ≡ Some n → IsWhole n
booking_whole report_rounds None n whole e = absurd (no_none n e)
booking_whole report_rounds (Some m) n whole e = subst IsWhole (some_same (with_rounds report_rounds m) n e) (counted_whole report_rounds m (whole m refl))

by_whole : (rounds : Option ℕ) (opened : Option State) (n : State) → ((m : State) → opened ≡ Some m → IsWhole m) → opening rounds opened ≡ Some n → IsWhole n
by_whole None opened n whole e = absurd (no_none n e)
by_whole (Some report_rounds) opened n whole e = booking_whole report_rounds opened n whole e

whole_in : (line : List ℕ) (jobs : Option (List JobSpec)) (n : State) → option_and_then (opened_in line) jobs ≡ Some n → IsWhole n
whole_in line None n e = absurd (no_none n e)
whole_in line (Some jobs) n e = by_whole (rounds_of line) (opened_from (history_of line) jobs) n (from_whole (history_of line) jobs) e

pub opened_whole : OpenedAreWhole
unfolding opened
opened_whole line n e = whole_in line (jobs_in line) n e

-- ---- a first line alone

one_by : (feed : Bool) (b : ℕ) (bs : List ℕ) → (b == 10) ≡ feed → lines_in bs ≡ bs ∷ [] → lines_in (cond feed [] (b ∷ bs)) ≡ cond feed [] (b ∷ bs) ∷ []
one_by true b bs e one = refl
one_by false b bs e one = ap (λ (t : Bool). cond t ([] ∷ lines_in bs) (onto_first b (lines_in bs))) e ∙ ap (onto_first b) one

one_line : (journal : List ℕ) → lines_in (first_line journal) ≡ first_line journal ∷ []
one_line [] = refl
one_line (b ∷ bs) = one_by (b == 10) b (first_line bs) refl (one_line bs)

opened_by : (m : Option State) (start : Resumption) → option_map_or (λ (m : State). resumed_from m []) m (Err (damage_at 1)) ≡ Ok start → m ≡ Some start.core
unfolding unread_from events_of
opened_by None start e = absurd (no_err _ start e)
opened_by (Some m) start e =
    let same : resumption_at m 0 ≡ start = ok_same (resumption_at m 0) start e in
    ap (λ (r : Resumption). (let o : Option State = Some r.core in o)) same

-- what it leads to is what it opens
pub start_opened : (journal : List ℕ) (start : Resumption) → resumed (first_line journal) ≡ Ok start → opened (first_line journal) ≡ Some start.core
unfolding resumed
start_opened journal start e = opened_by (opened (first_line journal)) start (ap resumed_by (sym (one_line journal)) ∙ e)
