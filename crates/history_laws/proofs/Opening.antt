-- What a first line opens starts a stretch.
use Rattle.std.proofs.Common.{◌≡◌, ◌==◌, ◌<◌, ◌≤◌, ℕ, zero, suc, Bool, true, false, not, cond, List, [], ◌∷◌, All, AllPairs, Option, Some, None, option_and_then, option_map, Result, Ok, Err, length, refl, subst, arith}
use Rattle.std.proofs.lemmas.Bool.{and_parts}
use Rattle.std.proofs.lemmas.List.Elements.{All-cons, All-nil}
use Rattle.serde_json.specs.Data.{Data}
use Rattle.price_certificate.specs.Problem.{Problem}
use Rattle.price_certificate.specs.declared.plan.Plan.{Plan}
use Rattle.handover.specs.Handover.{only}
use Rattle.fleet.specs.Fleet.{FleetState}
use Rattle.fleet.specs.IsFleet.{IsFleet}
use Rattle.fleet.specs.Jobs.{are_jobs}
use Rattle.fleet.specs.Parts.{fleet_of, parts_fault}
use Rattle.fleet.specs.declared.error.PartsError.{PartsError}
use Rattle.fleet.specs.declared.job.JobSpec.{JobSpec}
use Rattle.fleet.proofs.FaultLemmas.{is_fleet}
use Rattle.fleet_assignment.specs.Best.{IsOnce}
use Rattle.fleet_renewal.proofs.Gets.{none_some, some_same}
use Rattle.allocation_core.specs.State.{State, first_state, restored, with_rounds}
use Rattle.allocation_core.proofs.StepLemmas.{rounds_kept}
use Rattle.core_history.specs.History.{are_slots, by_fault, checked, checked_in, history_in, is_allocation, parts_in, slots_of, state_of}
use Rattle.core_history.specs.declared.error.HistoryError.{HistoryError}
use Rattle.core_history.specs.declared.error.HistoryError.TheVariants.{BadAllocation, BadRound, BadServed}
use Rattle.core_history.proofs.Checking.{ascending, length-slots_of, slots_given}
use Rattle.replay_lines.specs.Configurations.{history_of, jobs_in, opened, opened_by, opened_from, opened_in, resumed_with, rounds_of, same_jobs}
use Rattle.renewal.proofs.Apart.{once_from_apart}
use Rattle.renewal.proofs.HistoryLemmas.{Starts, first_starts}

-- ---- what a history says

few_only : (pairs : List (ℕ × ℕ)) → length (only pairs) ≤ 1
few_only [] = omega arith
few_only (q ∷ pairs) = omega arith

only_alone : (pairs : List (ℕ × ℕ)) → IsOnce pairs → All IsOnce (only pairs)
only_alone [] once = All-nil IsOnce
only_alone (q ∷ pairs) once = All-cons IsOnce (q ∷ pairs) [] once (All-nil IsOnce)

rising_once : (pairs : List (ℕ × ℕ)) → AllPairs (λ (a b : ℕ × ℕ). a.0 < b.0) pairs → IsOnce pairs
rising_once pairs rising = once_from_apart pairs (λ i j d less within same. absurd (omega (arith, rising i j d less within, same)))

restored_starts :
    (fleet : FleetState) (pairs : List (ℕ × ℕ)) (slots : List ℕ) (problem : Problem) (plan : Plan) (round : ℕ) → IsFleet fleet → are_jobs fleet.jobs ≡ true → AllPairs (λ (a b : ℕ × ℕ). a.0 < b.0) pairs → length slots ≡ length fleet.known
    → All (λ (c : ℕ). c ≤ fleet.last_collector) slots → 1 ≤ round → Starts (restored fleet pairs slots problem plan round 1)
restored_starts fleet pairs slots problem plan round kept named rising few given first =
    record {
      kept = record {
        fleet = kept;
        few_published = omega (arith, few_only pairs);
        few_slots = omega (arith, few);
        given_slots = given;
        opened = first;
        from_one = first;
        begun = omega arith;
        past_rounds = λ k d less. absurd (omega arith);
      };
      alone = only_alone pairs (rising_once pairs rising);
      unbooked = refl;
      named = named;
    }

-- what passes all checks
record Passes (pairs round slots : Bool) (m n : State) : Type 0 where
  pairs_good : pairs ≡ true
  round_good : round ≡ false
  slots_good : slots ≡ true
  same : m ≡ n

ok_same : {A E : Type 0} (a b : A) → ◌≡◌ {A = Result A E} (Ok a) (Ok b) → a ≡ b
ok_same a b e = cc

no_err : {A E : Type 0} (error : E) (a : A) → ◌≡◌ {A = Result A E} (Err error) (Ok a) → ⊥
no_err error a e = cc

passes :
    (pairs round slots : Bool) (m n : State) → ◌≡◌ {A = Result State HistoryError} (cond (not pairs) (Err BadAllocation) (cond round (Err BadRound) (cond (not slots) (Err BadServed) (Ok m)))) (Ok n) → Passes pairs round slots m n
passes true true slots m n e = absurd (no_err BadRound n e)
passes true false true m n e = record { pairs_good = refl; round_good = refl; slots_good = refl; same = ok_same m n e }
passes true false false m n e = absurd (no_err BadServed n e)
passes false round slots m n e = absurd (no_err BadAllocation n e)

not_zero : (n : ℕ) → (n == 0) ≡ false → 1 ≤ n
not_zero zero e = cc
not_zero (suc n) e = omega arith

checked_starts : (fault : Option PartsError) (h : _) (m : State) → by_fault fault h ≡ Ok m → parts_fault (fleet_of h.fleet) ≡ fault → Starts m
checked_starts (Some fault) h m e is = absurd (no_err _ m e)
checked_starts None h m e is =
    let fleet = fleet_of h.fleet in
    let good = is_fleet fleet is in
    let p = passes (is_allocation fleet h.allocation) (h.round == 0) (are_slots fleet h.served) (state_of h) m e in
    let rising = ascending h.allocation (and_parts _ _ p.pairs_good).1 in
    subst Starts p.same
    (restored_starts fleet h.allocation (slots_of fleet h.served) h.certificate.instance h.certificate.plan h.round good.0 good.1 rising (length-slots_of fleet h.served) (slots_given fleet h.served p.slots_good) (not_zero h.round p.round_good))

parts_start : (h : _) (m : State) → checked_in h ≡ Ok m → Starts m
unfolding checked
parts_start None m e = absurd (no_err _ m e)
parts_start (Some h) m e = checked_starts (parts_fault (fleet_of h.fleet)) h m e refl

said_starts : (d : Data) (m : State) → history_in d ≡ Ok m → Starts m
unfolding history_in
said_starts d m e = parts_start (parts_in d) m e

-- ---- what a first line opens: the state of its history, or the first one of its jobs

first_by : (named : Bool) (jobs : List JobSpec) (m : State) → are_jobs jobs ≡ named → cond named (Some (first_state jobs 1)) None ≡ Some m → Starts m
first_by true jobs m named e = subst Starts (some_same (first_state jobs 1) m e) (first_starts jobs 1 named)
first_by false jobs m named e = none_some m e

same_by : (same : Bool) (said m : State) → cond same (Some said) None ≡ Some m → said ≡ m
same_by true said m e = some_same said m e
same_by false said m e = none_some m e

resumed_starts : (jobs : List JobSpec) (said : Result State HistoryError) (m : State) → ((s : State) → said ≡ Ok s → Starts s) → resumed_with jobs said ≡ Some m → Starts m
resumed_starts jobs (Err fault) m starts e = none_some m e
resumed_starts jobs (Ok s) m starts e = subst Starts (same_by (same_jobs s.fleet.jobs jobs) s m e) (starts s refl)

from_starts : (history : Option Data) (jobs : List JobSpec) (m : State) → opened_from history jobs ≡ Some m → Starts m
from_starts None jobs m e = first_by (are_jobs jobs) jobs m refl e
from_starts (Some d) jobs m e = resumed_starts jobs (history_in d) m (said_starts d) e

-- of how many rounds reports are booked is of no matter
counted_starts : (report_rounds : ℕ) (m : State) → Starts m → Starts (with_rounds report_rounds m)
counted_starts report_rounds m starts = record { kept = rounds_kept m report_rounds starts.kept; alone = starts.alone; unbooked = starts.unbooked; named = starts.named }

booking_starts : (report_rounds : ℕ) (opened : Option State) (m : State) → ((s : State) → opened ≡ Some s → Starts s) → option_map (with_rounds report_rounds) opened ≡ Some m → Starts m
booking_starts report_rounds None m starts e = none_some m e
booking_starts report_rounds (Some s) m starts e = subst Starts (some_same (with_rounds report_rounds s) m e) (counted_starts report_rounds s (starts s refl))

by_starts : (rounds : Option ℕ) (opened : Option State) (m : State) → ((s : State) → opened ≡ Some s → Starts s) → opened_by rounds opened ≡ Some m → Starts m
by_starts None opened m starts e = none_some m e
by_starts (Some report_rounds) opened m starts e = booking_starts report_rounds opened m starts e

jobs_start : (line : List ℕ) (jobs : Option (List JobSpec)) (m : State) → option_and_then (opened_in line) jobs ≡ Some m → Starts m
jobs_start line None m e = none_some m e
jobs_start line (Some jobs) m e = by_starts (rounds_of line) (opened_from (history_of line) jobs) m (from_starts (history_of line) jobs) e

pub opened_starts : (line : List ℕ) (m : State) → opened line ≡ Some m → Starts m
unfolding opened
opened_starts line m e = jobs_start line (jobs_in line) m e
