-- What every fleet keeps holds in the beginning, and after each change.
use Rattle.std.proofs.Common.{◌≡◌, ℕ, zero, suc, ◌+◌, ◌*◌, ◌<◌, ◌≤◌, List, [], ◌∷◌, ◌++◌, Bool, true, false, None, All, drop, length, map, take, refl, sym, ap, subst, arith, cond, length-append}
use Rattle.std.specs.Prelude.{AllPairs, filter, replicate, slice_index_or}
use Rattle.std.proofs.Math.Seq.{take-append_seam}
use Rattle.std.proofs.lemmas.List.{length-map, length-replicate}
use Rattle.std.proofs.lemmas.List.Elements.{All-filter, All-map, All-push, All-weaker}
use Rattle.std.proofs.lemmas.List.Kept.{AllPairs-filter}
use Rattle.std.proofs.lemmas.List.Quantifiers.{all_pairs_push}
use Rattle.fleet.specs.Jobs.{sources_at, nothing_listed}
use Rattle.fleet.specs.Orderly.{IsOrderly}
use Rattle.fleet.specs.Fleet.{FleetState, id_named}
use Rattle.fleet.specs.IsFleet.{IsFleet}
use Rattle.fleet.proofs.OrderLemmas.{orderly_changed, orderly_first, orderly_joined, orderly_left, pairs_map}
use Rattle.fleet.specs.declared.job.JobSpec.{JobSpec}
use Rattle.fleet.specs.declared.collector.Collector.{Collector}

each_source_first : (jobs : List JobSpec) (job : ℕ) → length (slice_index_or (nothing_listed jobs) job []) ≡ sources_at jobs job
each_source_first [] job = refl
each_source_first (j ∷ jobs) zero = length-replicate j.sources []
each_source_first (j ∷ jobs) (suc job) = each_source_first jobs job

pub first_kept : (fleet : FleetState) → fleet.listed ≡ nothing_listed fleet.jobs → fleet.known ≡ [] → fleet.collectors ≡ [] → fleet.last_collector ≡ 0 → IsFleet fleet
first_kept fleet listed known collectors last =
    record {
      each_job = rw listed (length-map fleet.jobs (λ (job : JobSpec). replicate job.sources []));
      each_source = λ job. rw listed (each_source_first fleet.jobs job);
      few_known = rw known (omega arith);
      homes = rw known (λ k d less. absurd (omega arith));
      few_live = rw known (omega arith);
      few_collectors = rw collectors (omega arith);
      few_bins = rw collectors (omega arith);
      orderly = rw (listed, known, collectors) (orderly_first fleet.jobs);
      ascending = rw collectors (λ i j d less in_range. absurd (omega arith));
      were_given = rw collectors (λ k d less. absurd (omega arith));
      numbered = rw last (omega arith);
    }

filter_le : {X : Type 0} (p : X → Bool) (xs : List X) → length (filter p xs) ≤ length xs
filter_le p [] = omega arith
filter_le p (x ∷ xs) = filter_le_by (p x) x (filter p xs) xs (filter_le p xs)
  where
    filter_le_by : {X : Type 0} (b : Bool) (x : X) (ys xs : List X) → length ys ≤ length xs → length (cond b (x ∷ ys) ys) ≤ length (x ∷ xs)
    filter_le_by true x ys xs less = omega arith
    filter_le_by false x ys xs less = omega arith

pub leave_kept : (fleet : FleetState) (p : Collector → Bool) → IsFleet fleet → IsFleet (record fleet { collectors = filter p fleet.collectors })
leave_kept fleet p kept =
    let few = filter_le p fleet.collectors in
    record {
      each_job = kept.each_job;
      each_source = kept.each_source;
      few_known = kept.few_known;
      homes = kept.homes;
      few_live = kept.few_live;
      few_collectors = omega (arith, kept.few_collectors);
      few_bins = grind (arith, kept.few_bins, few);
      orderly = orderly_left fleet.listed fleet.known fleet.collectors p kept.orderly;
      ascending = AllPairs-filter (λ (a b : Collector). a.id < b.id) p fleet.collectors kept.ascending;
      were_given = All-filter p (λ (c : Collector). c.id ≤ fleet.last_collector) fleet.collectors kept.were_given;
      numbered = kept.numbered;
    }

-- one more collector joined
pub joined_kept :
    (fleet : FleetState) (c : Collector) (collectors : List Collector) → IsFleet fleet → id_named fleet.collectors c.name ≡ None → c.id ≡ fleet.last_collector + 1 → length fleet.collectors + 1 ≤ 256 → length fleet.jobs * (length fleet.collectors + 1) ≤ 16384 → fleet.last_collector < 4294967295 → collectors ≡ fleet.collectors ++ c ∷ []
    → IsFleet (record fleet { collectors = collectors; last_collector = fleet.last_collector + 1 })
joined_kept fleet c collectors kept none id few bins free is =
    let more : length collectors ≡ length fleet.collectors + 1 = omega (arith, ap (λ (cs : List Collector). length cs) is, length-append fleet.collectors (c ∷ [])) in
    record {
      each_job = kept.each_job;
      each_source = kept.each_source;
      few_known = kept.few_known;
      homes = kept.homes;
      few_live = kept.few_live;
      few_collectors = omega (arith, more, few);
      few_bins = omega (arith, ap (λ (n : ℕ). length fleet.jobs * n) more, bins);
      orderly = subst (λ (cs : List Collector). IsOrderly fleet.listed fleet.known cs) (sym is) (orderly_joined fleet.listed fleet.known fleet.collectors c none kept.orderly);
      ascending = subst (λ (cs : List Collector). AllPairs (λ (a b : Collector). a.id < b.id) cs) (sym is) (all_pairs_push (λ (a b : Collector). a.id < b.id) fleet.collectors c kept.ascending (λ k d l. omega (arith, kept.were_given k d l, id)));
      were_given = subst (λ (cs : List Collector). All (λ (x : Collector). x.id ≤ fleet.last_collector + 1) cs) (sym is) (All-push (λ (x : Collector). x.id ≤ fleet.last_collector + 1) fleet.collectors c (λ k d l. omega (arith, kept.were_given k d l)) (omega (arith, id)));
      numbered = omega (arith, free);
    }

-- some collectors changed, but for their numbers and names
pub changed_kept : (fleet : FleetState) (f : Collector → Collector) → ((c : Collector) → (f c).id ≡ c.id) → ((c : Collector) → (f c).name ≡ c.name) → IsFleet fleet → IsFleet (record fleet { collectors = map f fleet.collectors })
changed_kept fleet f id name kept =
    let same : length (map f fleet.collectors) ≡ length fleet.collectors = length-map fleet.collectors f in
    record {
      each_job = kept.each_job;
      each_source = kept.each_source;
      few_known = kept.few_known;
      homes = kept.homes;
      few_live = kept.few_live;
      few_collectors = rw same kept.few_collectors;
      few_bins = rw same kept.few_bins;
      orderly = orderly_changed fleet.listed fleet.known fleet.collectors f name kept.orderly;
      ascending = pairs_map (λ (a b : Collector). a.id < b.id) f fleet.collectors (λ a b less. rw (id a, id b) less) kept.ascending;
      were_given = All-map (λ (c : Collector). c.id ≤ fleet.last_collector) f fleet.collectors (All-weaker (λ (c : Collector). c.id ≤ fleet.last_collector) (λ (c : Collector). (f c).id ≤ fleet.last_collector) (λ c most. rw (id c) most) fleet.collectors kept.were_given);
      numbered = kept.numbered;
    }

-- the same, where a slice of all of them was written to
pub written_kept :
    (fleet : FleetState) (f : Collector → Collector) (count : ℕ) (lent written : List Collector) → lent ≡ fleet.collectors → length lent ≡ count → written ≡ map f lent → ((c : Collector) → (f c).id ≡ c.id) → ((c : Collector) → (f c).name ≡ c.name) → IsFleet fleet
    → IsFleet (record fleet { collectors = take count (written ++ drop (length written) fleet.collectors) })
written_kept fleet f count lent written all many is id name kept =
    let changed : written ≡ map f fleet.collectors = rw all at is in
    let whole : count ≡ length (map f fleet.collectors) = omega (arith, many, ap (λ (cs : List Collector). length cs) all, length-map fleet.collectors f) in
    rw (changed, whole, take-append_seam) (changed_kept fleet f id name kept)
