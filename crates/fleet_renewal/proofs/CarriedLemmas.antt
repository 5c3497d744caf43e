-- The pairs that are carried over stay in order of target; and what the code makes by its tables is the renewed fleet.
use Rattle.std.proofs.Common.{◌≡◌, ℕ, suc, ◌<◌, ◌≤◌, List, Bool, true, false, Option, Some, None, cond, length, map, refl, sym, ap, subst, ◌∙◌, inl, inr, arith}
use Rattle.std.specs.Prelude.{AllPairs}
use Rattle.std.specs.List.{filter_map}
use Rattle.std.specs.Option.{option_map}
use Rattle.std.proofs.lemmas.Bool.{cases_lt}
use Rattle.std.proofs.lemmas.List.{get_or_past}
use Rattle.fleet.specs.Fleet.{FleetState, is_joined}
use Rattle.fleet.specs.Live.{AreMarks, count_below, mark_at}
use Rattle.fleet.specs.declared.collector.Collector.{Collector}
use Rattle.fleet.specs.declared.job.JobSpec.{JobSpec}
use Rattle.fleet.specs.declared.known_target.KnownTarget.{KnownTarget}
use Rattle.fleet.proofs.Marks.{chosen_alike, count_alike}
use Rattle.fleet_renewal.specs.Renewed.{carried, carried_pair, moved_at, new_number, new_places, renewed_collector, renewed_fleet, renewed_known, renewed_lists, survives}
use Rattle.fleet_renewal.specs.Tables.{AreNumbers, number_in}
use Rattle.fleet_renewal.proofs.Counting.{count_within, numbered}
use Rattle.fleet_renewal.proofs.Gets.{kept_pairs, none_some, pairs_at, some_same}
use Rattle.fleet_renewal.proofs.Moving.{survivor_within}

-- a pair that is carried
pub record Carries (fleet : FleetState) (number : ℕ → Option ℕ) (q r : ℕ × ℕ) : Type 0 where
  pub joined : is_joined fleet q.1 ≡ true
  pub target : number q.0 ≡ Some r.0
  pub collector : q.1 ≡ r.1

number_by : (fleet : FleetState) (number : ℕ → Option ℕ) (q r : ℕ × ℕ) (o : Option ℕ) → is_joined fleet q.1 ≡ true → number q.0 ≡ o → option_map (λ (n : ℕ). (let p : ℕ × ℕ = (n, q.1) in p)) o ≡ Some r → Carries fleet number q r
number_by fleet number q r None joined was e = none_some r e
number_by fleet number q r (Some n) joined was e =
    let same : (let p : ℕ × ℕ = (n, q.1) in p) ≡ r = some_same _ r e in
    record { joined = joined; target = was ∙ ap (λ (p : ℕ × ℕ). (let o : Option ℕ = Some p.0 in o)) same; collector = ap (λ (p : ℕ × ℕ). p.1) same }

joined_by : (fleet : FleetState) (number : ℕ → Option ℕ) (q r : ℕ × ℕ) (b : Bool) → is_joined fleet q.1 ≡ b → cond b (option_map (λ (n : ℕ). (let p : ℕ × ℕ = (n, q.1) in p)) (number q.0)) None ≡ Some r → Carries fleet number q r
joined_by fleet number q r true was e = number_by fleet number q r (number q.0) was refl e
joined_by fleet number q r false was e = none_some r e

pub carries : (fleet : FleetState) (number : ℕ → Option ℕ) (q r : ℕ × ℕ) → carried_pair fleet number q ≡ Some r → Carries fleet number q r
carries fleet number q r e = joined_by fleet number q r (is_joined fleet q.1) refl e

pub carried_ascend : (fleet : FleetState) (pairs : List (ℕ × ℕ)) (slots : List ℕ) (jobs : List JobSpec) → AllPairs (λ (a b : ℕ × ℕ). a.0 < b.0) pairs → AllPairs (λ (a b : ℕ × ℕ). a.0 < b.0) (carried fleet pairs slots jobs)
unfolding carried
carried_ascend fleet pairs slots jobs ascending =
    let stays = survives fleet pairs slots jobs in
    kept_pairs (λ (a b : ℕ × ℕ). a.0 < b.0) (carried_pair fleet (new_number stays)) pairs
    (λ i j q r y z less here there is that.
    (let a = carries fleet (new_number stays) q y is in
    let b = carries fleet (new_number stays) r z that in
    let m = numbered stays q.0 y.0 a.target in
    let n = numbered stays r.0 z.0 b.target in
    let order = count_within stays q.0 r.0 (pairs_at (λ (a b : ℕ × ℕ). a.0 < b.0) pairs i j q r ascending less here there) m.passes in
    omega (arith, order, m.counts, n.counts)))

-- the same, of a list that is the carried one
pub ascends : (fleet : FleetState) (pairs others : List (ℕ × ℕ)) (slots : List ℕ) (jobs : List JobSpec) → others ≡ carried fleet pairs slots jobs → AllPairs (λ (a b : ℕ × ℕ). a.0 < b.0) pairs → AllPairs (λ (a b : ℕ × ℕ). a.0 < b.0) others
ascends fleet pairs others slots jobs is ascending = subst (λ (ps : List (ℕ × ℕ)). AllPairs (λ (a b : ℕ × ℕ). a.0 < b.0) ps) (sym is) (carried_ascend fleet pairs slots jobs ascending)

-- ---- tables

past_by : (fleet : FleetState) (pairs : List (ℕ × ℕ)) (slots : List ℕ) (jobs : List JobSpec) (n : ℕ) (b : Bool) → length fleet.known ≤ n → survives fleet pairs slots jobs n ≡ b → b ≡ false
past_by fleet pairs slots jobs n true past e = absurd (omega (arith, survivor_within fleet pairs slots jobs n e, past))
past_by fleet pairs slots jobs n false past e = refl

-- nothing past the known targets goes on
past_known : (fleet : FleetState) (pairs : List (ℕ × ℕ)) (slots : List ℕ) (jobs : List JobSpec) (n : ℕ) → length fleet.known ≤ n → survives fleet pairs slots jobs n ≡ false
past_known fleet pairs slots jobs n past = past_by fleet pairs slots jobs n (survives fleet pairs slots jobs n) past refl

number_alike : (p q : ℕ → Bool) (n : ℕ) → ((k : ℕ) → k < suc n → p k ≡ q k) → new_number p n ≡ new_number q n
number_alike p q n same = λ i. (let o : Option ℕ = cond (same n (omega arith) i) (Some (count_alike p q n (λ k l. same k (omega arith)) i)) None in o)

pub numbers_are :
    (fleet : FleetState) (pairs : List (ℕ × ℕ)) (slots : List ℕ) (jobs : List JobSpec) (marks : List Bool) (numbers : List (Option ℕ)) → length marks ≡ length fleet.known → AreMarks (survives fleet pairs slots jobs) marks → AreNumbers marks numbers
    → (n : ℕ) → number_in numbers n ≡ new_number (survives fleet pairs slots jobs) n
numbers_are fleet pairs slots jobs marks numbers each are table n = elim (cases_lt n (length marks)) [
  | inl l ↦ table.at n l ∙ number_alike (mark_at marks) (survives fleet pairs slots jobs) n (λ k less. are.at k (omega (arith, l, less)))
  | inr g ↦ get_or_past numbers n None (omega (arith, table.each, g)) ∙ ap (λ (b : Bool). (let o : Option ℕ = cond b (Some (count_below (survives fleet pairs slots jobs) n)) None in o)) (sym (past_known fleet pairs slots jobs n (omega (arith, each, g))))
]

pub known_are :
    (fleet : FleetState) (pairs : List (ℕ × ℕ)) (slots : List ℕ) (jobs : List JobSpec) (marks : List Bool) → length marks ≡ length fleet.known → AreMarks (survives fleet pairs slots jobs) marks
    → renewed_known fleet.known (new_places fleet.jobs jobs) (mark_at marks) ≡ renewed_known fleet.known (new_places fleet.jobs jobs) (survives fleet pairs slots jobs)
known_are fleet pairs slots jobs marks each are = ap (filter_map (moved_at fleet.known (new_places fleet.jobs jobs))) (chosen_alike (mark_at marks) (survives fleet pairs slots jobs) (length fleet.known) (λ k l. are.at k (omega (arith, each, l))))

pub renewed_is :
    (fleet : FleetState) (pairs : List (ℕ × ℕ)) (slots : List ℕ) (jobs : List JobSpec) (places numbers : List (Option ℕ)) (marks : List Bool) (listed : List (List (List ℕ))) (known : List KnownTarget) (collectors : List Collector) (last : ℕ)
    → places ≡ new_places fleet.jobs jobs → length marks ≡ length fleet.known → AreMarks (survives fleet pairs slots jobs) marks → AreNumbers marks numbers → listed ≡ renewed_lists fleet (number_in numbers) jobs
    → known ≡ renewed_known fleet.known places (mark_at marks) → collectors ≡ map (renewed_collector jobs) fleet.collectors → last ≡ fleet.last_collector
    → (let f : FleetState = record { jobs = jobs; listed = listed; known = known; collectors = collectors; last_collector = last } in f) ≡ renewed_fleet fleet pairs slots jobs
unfolding renewed_fleet
renewed_is fleet pairs slots jobs places numbers marks listed known collectors last are_places each are table lists targets who id =
    let new_lists = lists ∙ ap (λ (number : ℕ → Option ℕ). renewed_lists fleet number jobs) (λ i n. numbers_are fleet pairs slots jobs marks numbers each are table n i) in
    let new_known = targets ∙ ap (λ (ps : List (Option ℕ)). renewed_known fleet.known ps (mark_at marks)) are_places ∙ known_are fleet pairs slots jobs marks each are in
    λ i. record { jobs = jobs; listed = new_lists i; known = new_known i; collectors = who i; last_collector = id i }

pub carried_is :
    (fleet : FleetState) (pairs others : List (ℕ × ℕ)) (slots : List ℕ) (jobs : List JobSpec) (numbers : List (Option ℕ)) (marks : List Bool) → length marks ≡ length fleet.known → AreMarks (survives fleet pairs slots jobs) marks → AreNumbers marks numbers
    → others ≡ filter_map (carried_pair fleet (number_in numbers)) pairs → others ≡ carried fleet pairs slots jobs
unfolding carried
carried_is fleet pairs others slots jobs numbers marks each are table is =
    is ∙ ap (λ (number : ℕ → Option ℕ). filter_map (carried_pair fleet number) pairs) (λ i n. numbers_are fleet pairs slots jobs marks numbers each are table n i)
