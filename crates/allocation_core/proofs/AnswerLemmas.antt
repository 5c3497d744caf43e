-- Each event has only answers of its kind, and a report is booked only where nothing is against it.
use Rattle.std.proofs.Common.{ℕ, List, Bool, true, false, Option, Some, None, cond, refl, ◌≡◌, ◌+◌, ◌<◌, ◌≤◌, [], ◌∷◌, All, length, eqb, sym, ap, subst, ◌∙◌, inl, inr, arith}
use Rattle.std.specs.Prelude.{IsTrue, nat_lt, ◌==◌, nat_le, max, ◌||◌, ◌&&◌, map, filter}
use Rattle.std.specs.Option.{option_map}
use Rattle.price_certificate.specs.Faults.{fault_of}
use Rattle.price_certificate.specs.declared.plan.Plan.{Plan}
use Rattle.price_certificate.specs.declared.verdict.Fault.{Fault}
use Rattle.spread_certificate.specs.Judged.{spread_fault}
use Rattle.spread_certificate.specs.declared.spread.Spread.{Spread as SpreadPlan}
use Rattle.spread_certificate.specs.declared.verdict.SpreadFault.{SpreadFault}
use Rattle.handover.specs.Handover.{holder_in}
use Rattle.served_lists.specs.Served.{count_had, is_free, slot_of}
use Rattle.fleet.specs.Changes.{drain_refusal, join_refusal, limits_refusal, list_refusal}
use Rattle.fleet.specs.Fleet.{is_joined}
use Rattle.fleet.specs.declared.outcome.ListRefusal.{ListRefusal}
use Rattle.fleet.specs.declared.outcome.ListRefusal.TheVariants.{UnknownJob as NoJob, UnknownSource as NoSource, TooManyLive as CrowdLive, TooManyKnown as CrowdKnown}
use Rattle.fleet.specs.declared.outcome.JoinRefusal.{JoinRefusal}
use Rattle.fleet.specs.declared.outcome.JoinRefusal.TheVariants.{UnknownJob as NoJobOfName, AlreadyJoined as NameTaken, TooManyCollectors as NoRoom, IdsSpent as NoId}
use Rattle.fleet.specs.declared.outcome.DrainRefusal.{DrainRefusal}
use Rattle.fleet.specs.declared.outcome.DrainRefusal.TheVariants.{UnknownCollector as NobodyDrains, AlreadyDraining as DrainsAlready}
use Rattle.fleet.specs.declared.outcome.LimitsRefusal.{LimitsRefusal}
use Rattle.fleet.specs.declared.outcome.LimitsRefusal.TheVariants.{UnknownCollector as NobodyLimited, UnknownJob as NoJobLimited}
use Rattle.fleet_events.specs.declared.event.Event.{Event}
use Rattle.fleet_events.specs.declared.event.Event.TheVariants.{Discover, Join, Leave, Drain, SetLimits, Install, Spread, NextRound, Take, Serve, Release, Report}
use Rattle.fleet_events.specs.declared.answer.Answer.{Answer}
use Rattle.fleet_events.specs.declared.answer.Answer.TheVariants.{Discovered, Joined, Left, Draining, LimitsSet, Published, RoundOpen, Taken, Served, Released, Booked, Not}
use Rattle.fleet_events.specs.declared.refusal.Refusal.TheVariants.{UnknownCollector, Unchanged, NumbersSpent, RoundsSpent, NotTaken, UnknownTarget, NotHolder, StillServed, RoundClosed, RoundNotOpen, AlreadyBooked}
use Rattle.handover.specs.declared.holders.TheConstants.{LAST_NUMBER}
use Rattle.allocation_core.specs.declared.limits.TheConstants.{LAST_ROUND}
use Rattle.allocation_core.specs.State.{State, allocation_at, current_of, current_pairs, first_round, held_by, instance_at, left_out_at, list_at, was_given}
use Rattle.scrape_books.specs.Books.{is_booked, greatest_round, last_round_of}
use Rattle.allocation_core.specs.Steps.{answer_by, answer_of, is_holder, number_for, place_named, place_of, plan_refusal, same_pairs, spread_refusal, unless_released, unless_served, undrained, unjoined, unlimited, unlisted, entry_of, refusal_of, report_refusal, holder_refusal, slot_refusal, round_refusal}
use Rattle.allocation_core.specs.Answers.{IsAnswerTo, is_discover_answer, is_join_answer, is_leave_answer, is_drain_answer, is_limits_answer, is_install_answer, is_spread_answer, is_round_answer, is_take_answer, is_serve_answer, is_release_answer, is_report_answer}
use Rattle.std.proofs.lemmas.Bool.{ltb-false, leb-true, leb-false, le-leb, le-ltb, lt-leb, eqb-true, eq-eqb, ne_eqb, cases_eq, cases_lt, cond-false}
use Rattle.std.proofs.lemmas.List.Elements.{All-head, All-tail}
use Rattle.scrape_books.specs.declared.report.Entry.{Entry}
use Rattle.scrape_books.specs.declared.report.Outcome.{Outcome}
use Rattle.allocation_core.specs.Booked.{report_of}
use Rattle.fleet_events.specs.declared.refusal.Refusal.{Refusal}

discover_answer : (o : Option ListRefusal) (x y : ℕ) → IsTrue (is_discover_answer (answer_by (option_map unlisted o) (Discovered x y)))
discover_answer None x y = refl
discover_answer (Some NoJob) x y = refl
discover_answer (Some NoSource) x y = refl
discover_answer (Some CrowdLive) x y = refl
discover_answer (Some CrowdKnown) x y = refl

join_answer : (o : Option JoinRefusal) (x : ℕ) → IsTrue (is_join_answer (answer_by (option_map unjoined o) (Joined x)))
join_answer None x = refl
join_answer (Some NoJobOfName) x = refl
join_answer (Some (NameTaken id)) x = refl
join_answer (Some NoRoom) x = refl
join_answer (Some NoId) x = refl

leave_answer : (b : Bool) → IsTrue (is_leave_answer (answer_by (cond b None (Some UnknownCollector)) Left))
leave_answer true = refl
leave_answer false = refl

drain_answer : (o : Option DrainRefusal) → IsTrue (is_drain_answer (answer_by (option_map undrained o) Draining))
drain_answer None = refl
drain_answer (Some NobodyDrains) = refl
drain_answer (Some DrainsAlready) = refl

limits_answer : (o : Option LimitsRefusal) → IsTrue (is_limits_answer (answer_by (option_map unlimited o) LimitsSet))
limits_answer None = refl
limits_answer (Some NobodyLimited) = refl
limits_answer (Some NoJobLimited) = refl

number_answer : (a b : Bool) (n x : ℕ) → IsTrue (is_install_answer (answer_by (cond a (Some (Unchanged n)) (cond b None (Some NumbersSpent))) (Published x)))
number_answer true b n x = refl
number_answer false true n x = refl
number_answer false false n x = refl

install_answer : (m : State) (plan : Plan) (f : Option Fault) (x : ℕ) → IsTrue (is_install_answer (answer_by (plan_refusal m plan f) (Published x)))
install_answer m plan (Some fault) x = refl
install_answer m plan None x = number_answer (same_pairs (allocation_at m plan.pairs) (current_pairs m)) (nat_lt (current_of m) LAST_NUMBER) (current_of m) x

number_spread : (a b : Bool) (n x : ℕ) → IsTrue (is_spread_answer (answer_by (cond a (Some (Unchanged n)) (cond b None (Some NumbersSpent))) (Published x)))
number_spread true b n x = refl
number_spread false true n x = refl
number_spread false false n x = refl

spread_answer : (m : State) (spread : SpreadPlan) (f : Option SpreadFault) (x : ℕ) → IsTrue (is_spread_answer (answer_by (spread_refusal m spread f) (Published x)))
spread_answer m spread (Some fault) x = refl
spread_answer m spread None x = number_spread (same_pairs (allocation_at m spread.plan.pairs) (current_pairs m)) (nat_lt (current_of m) LAST_NUMBER) (current_of m) x

round_answer : (b : Bool) (r : ℕ) → IsTrue (is_round_answer (answer_by (cond b None (Some RoundsSpent)) (RoundOpen r)))
round_answer true r = refl
round_answer false r = refl

take_answer : (b : Bool) (number round : ℕ) (held : List ℕ) → IsTrue (is_take_answer (answer_by (cond b None (Some UnknownCollector)) (Taken number round held)))
take_answer true number round held = refl
take_answer false number round held = refl

given_by : (fits : Answer → Bool) (b : Bool) (answer : Answer) → IsTrue (fits answer) → IsTrue (fits (Not UnknownCollector)) → IsTrue (fits (answer_by (cond b None (Some UnknownCollector)) answer))
given_by fits true answer granted refused = granted
given_by fits false answer granted refused = refused

serve_answer : (m : State) (id : ℕ) (job : Option ℕ) (number round : ℕ) (listed left_out : List ℕ) → IsTrue (is_serve_answer (answer_by (unless_served m id job) (Served number round listed left_out)))
serve_answer m id None number round listed left_out = refl
serve_answer m id (Some job) number round listed left_out = given_by is_serve_answer (was_given m id) (Served number round listed left_out) refl refl

released_answer : (m : State) (id : ℕ) (job : Option ℕ) (count : ℕ) → IsTrue (is_release_answer (answer_by (unless_served m id job) (Released count)))
released_answer m id None count = refl
released_answer m id (Some job) count = given_by is_release_answer (was_given m id) (Released count) refl refl

release_answer : (m : State) (id : ℕ) (name : Option (List ℕ)) (count : ℕ) → IsTrue (is_release_answer (answer_by (unless_released m id name) (Released count)))
release_answer m id None count = given_by is_release_answer (was_given m id) (Released count) refl refl
release_answer m id (Some name) count = released_answer m id (place_of m name) count

report_answer :
    (joined took there holds free closed ahead twice : Bool) (number other first round : ℕ) (holder : Option ℕ)
    → IsTrue (is_report_answer (answer_by (cond joined (cond took (cond there (cond holds (cond free (cond closed (Some (RoundClosed first)) (cond ahead (Some (RoundNotOpen round)) (cond twice (Some AlreadyBooked) None))) (Some (StillServed other))) (Some (NotHolder holder))) (Some UnknownTarget)) (Some (NotTaken number))) (Some UnknownCollector)) Booked))
report_answer false took there holds free closed ahead twice number other first round holder = refl
report_answer true false there holds free closed ahead twice number other first round holder = refl
report_answer true true false holds free closed ahead twice number other first round holder = refl
report_answer true true true false free closed ahead twice number other first round holder = refl
report_answer true true true true false closed ahead twice number other first round holder = refl
report_answer true true true true true true ahead twice number other first round holder = refl
report_answer true true true true true false true twice number other first round holder = refl
report_answer true true true true true false false true number other first round holder = refl
report_answer true true true true true false false false number other first round holder = refl

pub answers_fit : (m : State) (e : Event) → IsAnswerTo e (answer_of m e)
unfolding answer_of
answers_fit m (Discover name source targets) = discover_answer (list_refusal m.fleet name source targets) _ _
answers_fit m (Join name reach limits) = join_answer (join_refusal m.fleet name limits) (m.fleet.last_collector + 1)
answers_fit m (Leave id) = leave_answer (is_joined m.fleet id)
answers_fit m (Drain id) = drain_answer (drain_refusal m.fleet id)
answers_fit m (SetLimits id limits) = limits_answer (limits_refusal m.fleet id limits)
answers_fit m (Install plan) = install_answer m plan (fault_of (instance_at m) plan.pairs plan.item_prices plan.bin_prices) (current_of m + 1)
answers_fit m (Spread spread) = spread_answer m spread (spread_fault (instance_at m) spread) (current_of m + 1)
answers_fit m NextRound = round_answer (nat_lt m.round LAST_ROUND) (m.round + 1)
answers_fit m (Take id) = take_answer (is_joined m.fleet id) (current_of m) m.round (held_by m id)
answers_fit m (Serve id name) = serve_answer m id (place_of m name) (current_of m) m.round (list_at m id (place_of m name)) (left_out_at m id (place_of m name))
answers_fit m (Release id name) = release_answer m id name (count_had m.fleet.known m.served id (place_named m name))
answers_fit m (Report report) =
    let holder : Option ℕ = holder_in m.published report.allocation report.target in
    let number : ℕ = number_for m report.collector report.target in
    report_answer (is_joined m.fleet report.collector) (number == report.allocation) (nat_lt report.target (length m.fleet.known)) (is_holder holder report.collector) (is_free m.served.slots report.collector report.target) (nat_lt report.round (first_round m)) (nat_lt m.round report.round) (is_booked m.booked report.target report.round)
    number (slot_of m.served.slots report.target) (first_round m) m.round holder

-- What holds where nothing is against a report.

pub record Admitted (m : State) (collector number target round : ℕ) : Type 0 where
  pub joined : is_joined m.fleet collector ≡ true
  pub taken : number_for m collector target ≡ number
  pub held : holder_in m.published number target ≡ Some collector
  pub free : is_free m.served.slots collector target ≡ true
  pub opened : first_round m ≤ round
  pub reached : round ≤ m.round
  pub fresh : is_booked m.booked target round ≡ false

guard_by : (b : Bool) (o : Option Refusal) (r : Refusal) → cond b o (Some r) ≡ None → (b ≡ true) × (o ≡ None)
guard_by true o r e = (refl, e)
guard_by false o r e = cc

ban_by : (b : Bool) (o : Option Refusal) (r : Refusal) → cond b (Some r) o ≡ None → (b ≡ false) × (o ≡ None)
ban_by true o r e = cc
ban_by false o r e = (refl, e)

holder_by : (o : Option ℕ) (collector : ℕ) → is_holder o collector ≡ true → o ≡ Some collector
holder_by None collector e = cc
holder_by (Some h) collector e = ap (λ (n : ℕ). (let s : Option ℕ = Some n in s)) (eqb-true h collector e)

pub admitted : (m : State) (collector number target round : ℕ) (outcome : Outcome) → refusal_of m (report_of (target, entry_of collector number round outcome)) ≡ None → Admitted m collector number target round
admitted m collector number target round outcome free =
    let known = guard_by (is_joined m.fleet collector) (report_refusal m collector number target round) UnknownCollector free in
    let took = guard_by (eqb (number_for m collector target) number) _ (NotTaken (number_for m collector target)) known.1 in
    let there = guard_by (nat_lt target (length m.fleet.known)) (holder_refusal m (holder_in m.published number target) collector target round) UnknownTarget took.1 in
    let holds = guard_by (is_holder (holder_in m.published number target) collector) (slot_refusal m collector target round) (NotHolder (holder_in m.published number target)) there.1 in
    let let_go = guard_by (is_free m.served.slots collector target) (round_refusal m target round) (StillServed (slot_of m.served.slots target)) holds.1 in
    let closed = ban_by (nat_lt round (first_round m)) _ (RoundClosed (first_round m)) let_go.1 in
    let ahead = ban_by (nat_lt m.round round) _ (RoundNotOpen m.round) closed.1 in
    let twice = ban_by (is_booked m.booked target round) None AlreadyBooked ahead.1 in
    record {
      joined = known.0;
      taken = eqb-true (number_for m collector target) number took.0;
      held = holder_by (holder_in m.published number target) collector holds.0;
      free = let_go.0;
      opened = ltb-false round (first_round m) closed.0;
      reached = ltb-false m.round round ahead.0;
      fresh = twice.0;
    }

last_by : (c : Bool) (b : ℕ × Entry) (bs : List (ℕ × Entry)) (r : ℕ) → b.1.round ≤ r → greatest_round (map (λ (q : ℕ × Entry). q.1) bs) ≤ r → greatest_round (map (λ (q : ℕ × Entry). q.1) (cond c (b ∷ bs) bs)) ≤ r
last_by true b bs r first rest = omega (arith, first, rest)
last_by false b bs r first rest = rest

-- where no later round is booked, none is booked for the target
last_at_most : (booked : List (ℕ × Entry)) (target r : ℕ) → All (λ (b : ℕ × Entry). b.1.round ≤ r) booked → last_round_of booked target ≤ r
last_at_most [] target r all = omega arith
last_at_most (b ∷ booked) target r all =
    last_by (eqb b.0 target) b (filter (λ (q : ℕ × Entry). eqb q.0 target) booked) r (All-head (λ (x : ℕ × Entry). x.1.round ≤ r) b booked all) (last_at_most booked target r (All-tail (λ (x : ℕ × Entry). x.1.round ≤ r) b booked all))

-- in a round that is open only a report that is booked is in the way, of which the books tell
pub in_open_round :
    (m s : State) (target round first : ℕ) (told b : Bool) → s ≡ m → All (λ (b : ℕ × Entry). b.1.round ≤ s.round) s.booked → first ≡ first_round m → m.round < first + 64 → first ≤ round → round ≤ s.round
    → (last_round_of s.booked target < round + 64 → told ≡ is_booked s.booked target round) → told ≡ b → round_refusal m target round ≡ cond b (Some AlreadyBooked) None
in_open_round m s target round first told b is past first_is near low high tells test =
    let round_is : s.round ≡ m.round = ap (λ (n : State). n.round) is in
    let last : last_round_of s.booked target < round + 64 = omega (arith, last_at_most s.booked target s.round past, near, low, round_is) in
    let booked : is_booked m.booked target round ≡ b = ap (λ (n : State). is_booked n.booked target round) (sym is) ∙ sym (tells last) ∙ test in
    cond-false (nat_lt round (first_round m)) _ _ (le-ltb round (first_round m) (omega (arith, first_is, low)))
    ∙ cond-false (nat_lt m.round round) _ _ (le-ltb m.round round (omega (arith, high, round_is)))
    ∙ ap (λ (t : Bool). (let o : Option Refusal = cond t (Some AlreadyBooked) None in o)) booked
