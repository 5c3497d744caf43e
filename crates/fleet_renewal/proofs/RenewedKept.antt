-- What every fleet keeps holds of a renewed one.
use Rattle.std.proofs.Common.{◌≡◌, ℕ, zero, suc, ◌∷◌, ◌*◌, ◌<◌, ◌≤◌, List, [], true, false, Option, Some, None, All, eqb, length, map, refl, sym, ap, subst, ◌∙◌, inl, inr, arith}
use Rattle.std.specs.Prelude.{AllPairs, slice_get, slice_index_or}
use Rattle.std.specs.List.{filter_map}
use Rattle.std.specs.Option.{option_map_or}
use Rattle.std.specs.Str.{bytes_eq}
use Rattle.std.proofs.lemmas.Bool.{eq-eqb, eqb-true}
use Rattle.std.proofs.lemmas.List.{length-map}
use Rattle.std.proofs.lemmas.List.Elements.{All-map}
use Rattle.fleet.specs.Fleet.{FleetState, is_live}
use Rattle.fleet.specs.IsFleet.{IsFleet}
use Rattle.fleet.specs.Jobs.{are_jobs, sources_at}
use Rattle.fleet.specs.KnownTarget.{same_known}
use Rattle.fleet.specs.Live.{chosen_below, count_below, is_in, is_listed}
use Rattle.fleet.specs.Orderly.{is_of, listed_at}
use Rattle.fleet.specs.declared.collector.Collector.{Collector}
use Rattle.fleet.specs.declared.job.JobSpec.{JobSpec}
use Rattle.fleet.specs.declared.known_target.KnownTarget.{KnownTarget}
use Rattle.fleet.proofs.Chosen.{chosen_ascend}
use Rattle.fleet.proofs.OrderLemmas.{pairs_map}
use Rattle.fleet_renewal.specs.Renewed.{job_lists, lists_named, moved_at, new_number, new_places, renewed_collector, renewed_fleet, renewed_lists, survives}
use Rattle.fleet_renewal.proofs.Counting.{count_apart, count_few, count_fewer, count_within, numbered}
use Rattle.fleet_renewal.proofs.Gets.{all_from_gets, all_at, kept_all, kept_pairs, pairs_at, some_same, source_at}
use Rattle.fleet_renewal.proofs.JobLemmas.{place_back, place_within}
use Rattle.fleet_renewal.proofs.ListedLemmas.{ComesFrom, comes_from, in_found, in_here, listed_found, listed_here}
use Rattle.fleet_renewal.proofs.ListingLemmas.{length-fitted}
use Rattle.fleet_renewal.proofs.Moving.{known_after, known_at, known_count, moved_apart, moved_from, survivor_moved}

each_source : (fleet : FleetState) (number : ℕ → Option ℕ) (jobs : List JobSpec) (job : ℕ) → length (slice_index_or (renewed_lists fleet number jobs) job []) ≡ sources_at jobs job
each_source fleet number [] job = refl
each_source fleet number (x ∷ jobs) zero = length-fitted x.sources (map (filter_map number) (lists_named fleet x.name))
each_source fleet number (x ∷ jobs) (suc job) = each_source fleet number jobs job

homes : (fleet : FleetState) (pairs : List (ℕ × ℕ)) (slots : List ℕ) (jobs : List JobSpec) → All (λ (k : KnownTarget). k.job < length jobs) (known_after fleet pairs slots jobs)
homes fleet pairs slots jobs =
    kept_all (λ (k : KnownTarget). k.job < length jobs) (moved_at fleet.known (new_places fleet.jobs jobs)) (chosen_below (survives fleet pairs slots jobs) (length fleet.known))
    (λ i n y here is. (let m = moved_from fleet.known (new_places fleet.jobs jobs) n y is in place_within fleet.jobs jobs m.before.job y.job m.job))

-- ---- a target of the new lists was listed

no_number : (t : ℕ) (xs : List ℕ) → xs ≡ [] → is_in xs t ≡ true → ⊥
no_number t xs none e = (let h : is_in [] t ≡ true = sym (ap (λ (ys : List ℕ). is_in ys t) none) ∙ e in cc)

-- the target of a new number that a source lists, and where it was listed
pub record WasListed (fleet : FleetState) (pairs : List (ℕ × ℕ)) (slots : List ℕ) (jobs : List JobSpec) (j s number : ℕ) : Type 0 where
  pub from : ComesFrom fleet (new_number (survives fleet pairs slots jobs)) jobs j s
  pub target : ℕ
  pub place : ℕ
  pub here : slice_get (listed_at fleet.listed from.old s) place ≡ Some target
  pub survived : survives fleet pairs slots jobs target ≡ true
  pub counts : count_below (survives fleet pairs slots jobs) target ≡ number

pub was_listed : (fleet : FleetState) (pairs : List (ℕ × ℕ)) (slots : List ℕ) (jobs : List JobSpec) (j s number : ℕ) → is_in (listed_at (renewed_lists fleet (new_number (survives fleet pairs slots jobs)) jobs) j s) number ≡ true → WasListed fleet pairs slots jobs j s number
was_listed fleet pairs slots jobs j s number e = elim (comes_from fleet (new_number (survives fleet pairs slots jobs)) jobs j s) [
  | inl none ↦ absurd (no_number number _ none e)
  | inr from ↦
      let stays = survives fleet pairs slots jobs in
      let found = in_found (filter_map (new_number stays) (listed_at fleet.listed from.old s)) number (sym (ap (λ (ys : List ℕ). is_in ys number) from.lists) ∙ e) in
      let source = source_at (new_number stays) (listed_at fleet.listed from.old s) found.0 number found.1 in
      let n = numbered stays source.from number source.is in
      record { from = from; target = source.from; place = source.place; here = source.here; survived = n.passes; counts = n.counts }
]

pub live_was : (fleet : FleetState) (pairs : List (ℕ × ℕ)) (slots : List ℕ) (jobs : List JobSpec) (t : ℕ) → survives fleet pairs slots jobs t ≡ true → is_listed (renewed_lists fleet (new_number (survives fleet pairs slots jobs)) jobs) (count_below (survives fleet pairs slots jobs) t) ≡ true → is_live fleet t ≡ true
live_was fleet pairs slots jobs t survived e =
    let stays = survives fleet pairs slots jobs in
    let found = listed_found (renewed_lists fleet (new_number stays) jobs) (count_below stays t) e in
    let was = was_listed fleet pairs slots jobs found.0 found.1 (count_below stays t) found.2 in
    let same : was.target ≡ t = count_apart stays was.target t was.survived survived was.counts in
    listed_here fleet.listed was.from.old found.1 t (in_here (listed_at fleet.listed was.from.old found.1) was.place t (was.here ∙ ap (λ (n : ℕ). (let o : Option ℕ = Some n in o)) same))

few_live :
    (fleet : FleetState) (pairs : List (ℕ × ℕ)) (slots : List ℕ) (jobs : List JobSpec)
    → count_below (is_listed (renewed_lists fleet (new_number (survives fleet pairs slots jobs)) jobs)) (length (known_after fleet pairs slots jobs)) ≤ count_below (is_live fleet) (length fleet.known)
few_live fleet pairs slots jobs =
    let stays = survives fleet pairs slots jobs in
    let live = is_listed (renewed_lists fleet (new_number stays) jobs) in
    omega (arith, ap (count_below live) (known_count fleet pairs slots jobs), count_fewer stays live (is_live fleet) (length fleet.known) (λ k l here there. live_was fleet pairs slots jobs k here there))

-- ---- the lists are in order

of_job : (known : List KnownTarget) (n j : ℕ) (k : KnownTarget) → slice_get known n ≡ Some k → k.job ≡ j → is_of known j n ≡ true
of_job known n j k here is = ap (λ (o : Option KnownTarget). option_map_or (λ (x : KnownTarget). eqb x.job j) o false) here ∙ eq-eqb k.job j is

job_of_by : (j : ℕ) (o : Option KnownTarget) → option_map_or (λ (x : KnownTarget). eqb x.job j) o false ≡ true → (k : KnownTarget) × (o ≡ Some k) × (k.job ≡ j)
job_of_by j None e = cc
job_of_by j (Some k) e = (k, refl, eqb-true k.job j e)

pub job_of : (known : List KnownTarget) (n j : ℕ) → is_of known j n ≡ true → (k : KnownTarget) × (slice_get known n ≡ Some k) × (k.job ≡ j)
job_of known n j e = job_of_by j (slice_get known n) e

own : (fleet : FleetState) (pairs : List (ℕ × ℕ)) (slots : List ℕ) (jobs : List JobSpec) → IsFleet fleet → are_jobs jobs ≡ true → (j s : ℕ) → All (λ (t : ℕ). is_of (known_after fleet pairs slots jobs) j t ≡ true) (listed_at (renewed_lists fleet (new_number (survives fleet pairs slots jobs)) jobs) j s)
own fleet pairs slots jobs kept good j s =
    all_from_gets (λ (t : ℕ). is_of (known_after fleet pairs slots jobs) j t ≡ true) (listed_at (renewed_lists fleet (new_number (survives fleet pairs slots jobs)) jobs) j s)
    (λ i t here.
    (let was = was_listed fleet pairs slots jobs j s t (in_here _ i t here) in
    let before = job_of fleet.known was.target was.from.old (all_at (λ (n : ℕ). is_of fleet.known was.from.old n ≡ true) (listed_at fleet.listed was.from.old s) was.place was.target (kept.orderly.own was.from.old s) was.here) in
    let found = survivor_moved fleet pairs slots jobs was.target was.survived in
    let m = moved_from fleet.known (new_places fleet.jobs jobs) was.target found.0 found.1 in
    let same : m.before ≡ before.0 = some_same m.before before.0 (sym m.was ∙ before.1) in
    let home : m.before.job ≡ was.from.old = ap (λ (k : KnownTarget). k.job) same ∙ before.2 in
    let place = place_back fleet.jobs jobs was.from.old j was.from.job good was.from.here was.from.there in
    let job : found.0.job ≡ j = some_same found.0.job j (sym m.job ∙ ap (λ (n : ℕ). slice_index_or (new_places fleet.jobs jobs) n None) home ∙ place) in
    of_job (known_after fleet pairs slots jobs) t j found.0 (ap (slice_get (known_after fleet pairs slots jobs)) (sym was.counts) ∙ known_at fleet pairs slots jobs was.target was.survived ∙ found.1) job))

rising_by : (fleet : FleetState) (pairs : List (ℕ × ℕ)) (slots : List ℕ) (jobs : List JobSpec) (xs : List ℕ) → AllPairs (λ (a b : ℕ). a < b) xs → AllPairs (λ (a b : ℕ). a < b) (filter_map (new_number (survives fleet pairs slots jobs)) xs)
rising_by fleet pairs slots jobs xs rising =
    let stays = survives fleet pairs slots jobs in
    kept_pairs (λ (a b : ℕ). a < b) (new_number stays) xs
    (λ i j x w y z less here there is that.
    (let a = numbered stays x y is in
    let b = numbered stays w z that in
    let order = count_within stays x w (pairs_at (λ (a b : ℕ). a < b) xs i j x w rising less here there) a.passes in
    omega (arith, order, a.counts, b.counts)))

rising : (fleet : FleetState) (pairs : List (ℕ × ℕ)) (slots : List ℕ) (jobs : List JobSpec) → IsFleet fleet → (j s : ℕ) → AllPairs (λ (a b : ℕ). a < b) (listed_at (renewed_lists fleet (new_number (survives fleet pairs slots jobs)) jobs) j s)
rising fleet pairs slots jobs kept j s = elim (comes_from fleet (new_number (survives fleet pairs slots jobs)) jobs j s) [
  | inl none ↦ subst (λ (xs : List ℕ). AllPairs (λ (a b : ℕ). a < b) xs) (sym none) (λ i k d l less. absurd (omega arith))
  | inr from ↦ subst (λ (xs : List ℕ). AllPairs (λ (a b : ℕ). a < b) xs) (sym from.lists) (rising_by fleet pairs slots jobs (listed_at fleet.listed from.old s) (kept.orderly.rising from.old s))
]

once : (fleet : FleetState) (pairs : List (ℕ × ℕ)) (slots : List ℕ) (jobs : List JobSpec) → IsFleet fleet → are_jobs fleet.jobs ≡ true → AllPairs (λ (a b : KnownTarget). same_known b a ≡ false) (known_after fleet pairs slots jobs)
once fleet pairs slots jobs kept good =
    let chosen = chosen_below (survives fleet pairs slots jobs) (length fleet.known) in
    kept_pairs (λ (a b : KnownTarget). same_known b a ≡ false) (moved_at fleet.known (new_places fleet.jobs jobs)) chosen
    (λ i j n m y z less here there is that.
    moved_apart fleet.known fleet.jobs jobs n m y z good kept.orderly.once (pairs_at (λ (a b : ℕ). a < b) chosen i j n m (chosen_ascend (survives fleet pairs slots jobs) (length fleet.known)) less here there) is that)

pub renewed_kept : (fleet : FleetState) (pairs : List (ℕ × ℕ)) (slots : List ℕ) (jobs : List JobSpec) → IsFleet fleet → are_jobs fleet.jobs ≡ true → are_jobs jobs ≡ true → length jobs * length fleet.collectors ≤ 16384 → IsFleet (renewed_fleet fleet pairs slots jobs)
unfolding renewed_fleet
renewed_kept fleet pairs slots jobs kept good_old good few =
    let same : length (map (renewed_collector jobs) fleet.collectors) ≡ length fleet.collectors = length-map fleet.collectors (renewed_collector jobs) in
    record {
      each_job = length-map jobs (job_lists fleet (new_number (survives fleet pairs slots jobs)));
      each_source = λ job. each_source fleet (new_number (survives fleet pairs slots jobs)) jobs job;
      few_known = omega (arith, known_count fleet pairs slots jobs, count_few (survives fleet pairs slots jobs) (length fleet.known), kept.few_known);
      homes = homes fleet pairs slots jobs;
      few_live = omega (arith, few_live fleet pairs slots jobs, kept.few_live);
      few_collectors = rw same kept.few_collectors;
      few_bins = rw same few;
      orderly = record {
        own = own fleet pairs slots jobs kept good;
        rising = rising fleet pairs slots jobs kept;
        once = once fleet pairs slots jobs kept good_old;
        named = pairs_map (λ (a b : Collector). bytes_eq a.name b.name ≡ false) (renewed_collector jobs) fleet.collectors (λ a b e. e) kept.orderly.named;
      };
      ascending = pairs_map (λ (a b : Collector). a.id < b.id) (renewed_collector jobs) fleet.collectors (λ a b less. less) kept.ascending;
      were_given = All-map (λ (c : Collector). c.id ≤ fleet.last_collector) (renewed_collector jobs) fleet.collectors kept.were_given;
      numbered = kept.numbered;
    }
