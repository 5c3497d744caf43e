-- There is no fault in the parts exactly if they are those of a fleet.
use Rattle.std.proofs.Common.{◌≡◌, ◌+◌, ◌<◌, ◌≤◌, ◌==◌, ◌||◌, ℕ, zero, suc, cond, not, Bool, true, false, List, [], ◌∷◌, ◌++◌, Option, Some, None, AllPairs, length, get_or, nat_lt, refl, sym, ap, subst, ◌∙◌, arith, append_assoc, append-nil, length-append}
use Rattle.std.specs.List.{list_all, list_any}
use Rattle.std.specs.Prelude.{slice_index_or}
use Rattle.std.specs.Str.{bytes_eq}
use Rattle.std.proofs.lemmas.Bool.{and_parts, and_from, or_from, ltb-true, lt-ltb, leb-true, le-leb, eqb-true, eq-eqb}
use Rattle.std.proofs.lemmas.List.Folds.{list_any_none}
use Rattle.std.proofs.lemmas.List.Quantifiers.{all_pairs_push}
use Rattle.std.proofs.lemmas.List.Kept.{AllPairs-from_increasing}
use Rattle.lists.specs.Rising.{rises}
use Rattle.lists.proofs.RisingLemmas.{rises_to, rises_from, all_to, all_from}
use Rattle.fleet.specs.Fleet.{FleetState}
use Rattle.fleet.specs.IsFleet.{IsFleet}
use Rattle.fleet.specs.Jobs.{are_jobs, sources_at}
use Rattle.fleet.specs.KnownTarget.{same_known}
use Rattle.fleet.specs.Orderly.{is_of, listed_at}
use Rattle.fleet.specs.Parts.{are_collectors, are_distinct, are_lists, are_lists_from, are_targets, clashes, fleet_of, have_sources, is_list, none_clash, parts_fault}
use Rattle.fleet.specs.declared.collector.Collector.{Collector}
use Rattle.fleet.specs.declared.error.PartsError.{PartsError}
use Rattle.fleet.specs.declared.fleet_parts.FleetParts.{FleetParts}
use Rattle.fleet.specs.declared.job.JobSpec.{JobSpec}
use Rattle.fleet.specs.declared.known_target.KnownTarget.{KnownTarget}
use Rattle.fleet.proofs.PartsLemmas.{at_front, at_seam, same_lengths}

-- ---- what clashes with nothing before it

abbrev pub Apart : {A : Type 0} → (A → A → Bool) → List A → Type 0
Apart {A} clash xs = AllPairs (λ (a b : A). clash b a ≡ false) xs

or_none : (x y : Bool) → (x || y) ≡ false → (x ≡ false) × (y ≡ false)
or_none true y e = cc
or_none false y e = (refl, e)

not_false : (b : Bool) → not b ≡ true → b ≡ false
not_false true e = cc
not_false false e = refl

not_true : (b : Bool) → b ≡ false → not b ≡ true
not_true true e = cc
not_true false e = refl

true_from_not : (b : Bool) → not b ≡ false → b ≡ true
true_from_not true e = refl
true_from_not false e = cc

false_from_true : (b : Bool) → b ≡ true → not b ≡ false
false_from_true true e = refl
false_from_true false e = cc

none_at : {A : Type 0} (p : A → Bool) (xs : List A) → list_any p xs ≡ false → (k : ℕ) (d : A) → k < length xs → p (get_or xs k d) ≡ false
none_at p [] e k d l = absurd (omega (arith, l))
none_at p (x ∷ xs) e zero d l = (or_none (p x) (list_any p xs) e).0
none_at p (x ∷ xs) e (suc k) d l = none_at p xs (or_none (p x) (list_any p xs) e).1 k d (omega (arith, l))

apart_none : {A : Type 0} (clash : A → A → Bool) → Apart clash []
apart_none clash i j d l m = absurd (omega (arith, m))

apart_by : {A : Type 0} (clash : A → A → Bool) (before xs : List A) → Apart clash before → none_clash clash before xs ≡ true → Apart clash (before ++ xs)
apart_by {A} clash before [] h e = subst (Apart clash) (sym (append-nil before)) h
apart_by {A} clash before (x ∷ xs) h e =
    let parts = and_parts (not (list_any (clash x) before)) (none_clash clash (before ++ x ∷ []) xs) e in
    let none = none_at (clash x) before (not_false (list_any (clash x) before) parts.0) in
    let more : Apart clash (before ++ x ∷ []) = all_pairs_push (λ (a b : A). clash b a ≡ false) before x h none in
    subst (Apart clash) (append_assoc before (x ∷ []) xs) (apart_by clash (before ++ x ∷ []) xs more parts.1)

pub apart_to : {A : Type 0} (clash : A → A → Bool) (xs : List A) → none_clash clash [] xs ≡ true → Apart clash xs
apart_to clash xs e = apart_by clash [] xs (apart_none clash) e

seam : {A : Type 0} (clash : A → A → Bool) (before xs : List A) (x : A) → Apart clash (before ++ x ∷ xs) → list_any (clash x) before ≡ false
seam clash before xs x h =
    list_any_none (clash x) before
    (λ k d l.
    let e = h k (length before) d l (omega (arith, length-append before (x ∷ xs))) in
    let this = at_front before (x ∷ xs) k d l in
    let that = at_seam before xs x d in
    ap (λ y. clash y (get_or before k d)) (sym that) ∙ ap (λ y. clash (get_or (before ++ x ∷ xs) (length before) d) y) (sym this) ∙ e)

apart_on : {A : Type 0} (clash : A → A → Bool) (before xs : List A) → Apart clash (before ++ xs) → none_clash clash before xs ≡ true
apart_on clash before [] h = refl
apart_on clash before (x ∷ xs) h =
    and_from (not (list_any (clash x) before)) (none_clash clash (before ++ x ∷ []) xs) (not_true (list_any (clash x) before) (seam clash before xs x h))
    (apart_on clash (before ++ x ∷ []) xs (subst (Apart clash) (sym (append_assoc before (x ∷ []) xs)) h))

pub apart_from : {A : Type 0} (clash : A → A → Bool) (xs : List A) → Apart clash xs → none_clash clash [] xs ≡ true
apart_from clash xs h = apart_on clash [] xs h

-- ---- lists

sources_to : (jobs : List JobSpec) (listed : List (List (List ℕ))) → have_sources jobs listed ≡ true → (job : ℕ) → length (slice_index_or listed job []) ≡ sources_at jobs job
sources_to [] [] e job = refl
sources_to [] (sources ∷ listed) e job = cc
sources_to (j ∷ jobs) [] e job = cc
sources_to (j ∷ jobs) (sources ∷ listed) e zero = eqb-true (length sources) j.sources (and_parts (length sources == j.sources) (have_sources jobs listed) e).0
sources_to (j ∷ jobs) (sources ∷ listed) e (suc job) = sources_to jobs listed (and_parts (length sources == j.sources) (have_sources jobs listed) e).1 job

sources_from : (jobs : List JobSpec) (listed : List (List (List ℕ))) → length listed ≡ length jobs → ((job : ℕ) → length (slice_index_or listed job []) ≡ sources_at jobs job) → have_sources jobs listed ≡ true
sources_from [] [] e h = refl
sources_from [] (sources ∷ listed) e h = absurd (omega (arith, e))
sources_from (j ∷ jobs) [] e h = absurd (omega (arith, e))
sources_from (j ∷ jobs) (sources ∷ listed) e h = and_from (length sources == j.sources) (have_sources jobs listed) (eq-eqb (length sources) j.sources (h 0)) (sources_from jobs listed (omega (arith, e)) (λ job. h (suc job)))

at_source : (p : List ℕ → Bool) → p [] ≡ true → (sources : List (List ℕ)) → list_all p sources ≡ true → (source : ℕ) → p (slice_index_or sources source []) ≡ true
at_source p none [] e source = none
at_source p none (numbers ∷ sources) e zero = (and_parts (p numbers) (list_all p sources) e).0
at_source p none (numbers ∷ sources) e (suc source) = at_source p none sources (and_parts (p numbers) (list_all p sources) e).1 source

each_source : (p : List ℕ → Bool) (sources : List (List ℕ)) → ((source : ℕ) → p (slice_index_or sources source []) ≡ true) → list_all p sources ≡ true
each_source p [] h = refl
each_source p (numbers ∷ sources) h = and_from (p numbers) (list_all p sources) (h 0) (each_source p sources (λ source. h (suc source)))

lists_to : (known : List KnownTarget) (n : ℕ) (listed : List (List (List ℕ))) → are_lists_from known n listed ≡ true → (job source place : ℕ) → place ≡ n + job → is_list known place (listed_at listed job source) ≡ true
lists_to known n [] e job source place at = refl
lists_to known n (sources ∷ listed) e zero source place at =
    let parts = and_parts (list_all (is_list known n) sources) (are_lists_from known (suc n) listed) e in
    let same : place ≡ n = omega (arith, at) in
    ap (λ (j : ℕ). is_list known j (slice_index_or sources source [])) same ∙ at_source (is_list known n) refl sources parts.0 source
lists_to known n (sources ∷ listed) e (suc job) source place at =
    let parts = and_parts (list_all (is_list known n) sources) (are_lists_from known (suc n) listed) e in
    lists_to known (suc n) listed parts.1 job source place (omega (arith, at))

lists_from : (known : List KnownTarget) (n : ℕ) (listed : List (List (List ℕ))) → ((job source place : ℕ) → place ≡ n + job → is_list known place (listed_at listed job source) ≡ true) → are_lists_from known n listed ≡ true
lists_from known n [] h = refl
lists_from known n (sources ∷ listed) h =
    and_from (list_all (is_list known n) sources) (are_lists_from known (suc n) listed) (each_source (is_list known n) sources (λ source. h 0 source n (omega arith)))
    (lists_from known (suc n) listed (λ job source place at. h (suc job) source place (omega (arith, at))))

rising_from : (numbers : List ℕ) → AllPairs (λ (a b : ℕ). a < b) numbers → rises numbers ≡ true
rising_from numbers h = rises_from numbers (λ k l. h k (k + 1) 0 (omega arith) l)

-- ---- all of it

found : (b : Bool) (e : PartsError) (o : Option PartsError) → cond (not b) (Some e) o ≡ None → (b ≡ true) × (o ≡ None)
found true e o h = (refl, h)
found false e o h = cc

passed : (b : Bool) (e : PartsError) (o : Option PartsError) → b ≡ true → o ≡ None → cond (not b) (Some e) o ≡ None
passed true e o h k = k
passed false e o h k = cc

if_not : (b : Bool) (e : PartsError) → cond (not b) (Some e) None ≡ None → b ≡ true
if_not true e h = refl
if_not false e h = cc

pub is_fleet : (f : FleetState) → parts_fault f ≡ None → IsFleet f × (are_jobs f.jobs ≡ true)
is_fleet f none =
    let a = found (are_jobs f.jobs) _ _ none in
    let b = found (are_targets (length f.jobs) f.known) _ _ a.1 in
    let c = found (are_lists f) _ _ b.1 in
    let d = found (are_collectors f) _ _ c.1 in
    let once = if_not (are_distinct f.known) _ d.1 in
    let targets = and_parts _ _ b.0 in
    let lists = and_parts _ _ c.0 in
    let shape = and_parts (have_sources f.jobs f.listed) (are_lists_from f.known 0 f.listed) lists.0 in
    let c4 = and_parts _ _ d.0 in
    let c3 = and_parts _ _ c4.0 in
    let c2 = and_parts _ _ c3.0 in
    let c1 = and_parts _ _ c2.0 in
    let each = λ (job source : ℕ). and_parts (list_all (is_of f.known job) (listed_at f.listed job source)) (rises (listed_at f.listed job source)) (lists_to f.known 0 f.listed shape.1 job source job (omega arith)) in
    let apart : Apart clashes f.collectors = apart_to clashes f.collectors c4.1 in
    let both = λ (i j : ℕ) (x : Collector) (l : i < j) (m : j < length f.collectors). or_none (bytes_eq (get_or f.collectors i x).name (get_or f.collectors j x).name) (not (nat_lt (get_or f.collectors i x).id (get_or f.collectors j x).id)) (apart i j x l m) in (
      record {
        each_job = sym (same_lengths f.jobs f.listed shape.0);
        each_source = sources_to f.jobs f.listed shape.0;
        few_known = leb-true _ _ targets.0;
        homes = all_to _ (λ (k : KnownTarget). k.job < length f.jobs) (λ k l. ltb-true k.job (length f.jobs) l) f.known targets.1;
        few_live = leb-true _ _ lists.1;
        few_collectors = leb-true _ _ c1.0;
        few_bins = leb-true _ _ c1.1;
        orderly = record {
          own = λ job source. all_to (is_of f.known job) (λ t. is_of f.known job t ≡ true) (λ t e. e) (listed_at f.listed job source) (each job source).0;
          rising = λ job source. AllPairs-from_increasing (listed_at f.listed job source) (rises_to (listed_at f.listed job source) (each job source).1);
          once = apart_to same_known f.known once;
          named = λ i j x l m. (both i j x l m).0;
        };
        ascending = λ i j x l m. ltb-true (get_or f.collectors i x).id (get_or f.collectors j x).id (true_from_not (nat_lt (get_or f.collectors i x).id (get_or f.collectors j x).id) (both i j x l m).1);
        were_given = all_to _ (λ (c : Collector). c.id ≤ f.last_collector) (λ c l. leb-true c.id f.last_collector l) f.collectors c3.1;
        numbered = leb-true _ _ c2.1;
      },
      a.0,
    )

pub no_fault : (f : FleetState) → IsFleet f → are_jobs f.jobs ≡ true → parts_fault f ≡ None
no_fault f h jobs =
    let targets : are_targets (length f.jobs) f.known ≡ true = and_from _ _ (le-leb _ _ h.few_known) (all_from _ (λ (k : KnownTarget). k.job < length f.jobs) (λ k l. lt-ltb k.job (length f.jobs) l) f.known h.homes) in
    let each : (job source place : ℕ) → place ≡ 0 + job → is_list f.known place (listed_at f.listed job source) ≡ true =
    λ job source place at.
    (let same : place ≡ job = omega (arith, at) in
    ap (λ (j : ℕ). is_list f.known j (listed_at f.listed job source)) same
    ∙ and_from (list_all (is_of f.known job) (listed_at f.listed job source)) (rises (listed_at f.listed job source)) (all_from (is_of f.known job) (λ t. is_of f.known job t ≡ true) (λ t e. e) (listed_at f.listed job source) (h.orderly.own job source)) (rising_from (listed_at f.listed job source) (h.orderly.rising job source)))
    in
    let lists : are_lists f ≡ true = and_from _ _ (and_from (have_sources f.jobs f.listed) (are_lists_from f.known 0 f.listed) (sources_from f.jobs f.listed h.each_job h.each_source) (lists_from f.known 0 f.listed each)) (le-leb _ _ h.few_live) in
    let apart : Apart clashes f.collectors = λ i j x l m. or_from (bytes_eq (get_or f.collectors i x).name (get_or f.collectors j x).name) (not (nat_lt (get_or f.collectors i x).id (get_or f.collectors j x).id)) (h.orderly.named i j x l m) (false_from_true (nat_lt (get_or f.collectors i x).id (get_or f.collectors j x).id) (lt-ltb (get_or f.collectors i x).id (get_or f.collectors j x).id (h.ascending i j x l m))) in
    let collectors : are_collectors f ≡ true =
    and_from _ _ (and_from _ _ (and_from _ _ (and_from _ _ (le-leb _ _ h.few_collectors) (le-leb _ _ h.few_bins)) (le-leb _ _ h.numbered)) (all_from _ (λ (c : Collector). c.id ≤ f.last_collector) (λ c l. le-leb c.id f.last_collector l) f.collectors h.were_given)) (apart_from clashes f.collectors apart) in
    let once : are_distinct f.known ≡ true = apart_from same_known f.known h.orderly.once in
    passed (are_jobs f.jobs) _ _ jobs (passed (are_targets (length f.jobs) f.known) _ _ targets (passed (are_lists f) _ _ lists (passed (are_collectors f) _ _ collectors (passed (are_distinct f.known) _ _ once refl))))

-- the parts of a fleet, as its fields have them
pub good_fleet : (parts : FleetParts) (listed : List (List (List ℕ))) (known : List KnownTarget) (collectors : List Collector) → listed ≡ parts.listed → known ≡ parts.known → collectors ≡ parts.collectors → parts_fault (fleet_of parts) ≡ None → IsFleet (record { jobs = parts.jobs; listed = listed; known = known; collectors = collectors; last_collector = parts.last_collector }) × (are_jobs parts.jobs ≡ true)
good_fleet parts listed known collectors l k c none = rw l (rw k (rw c (is_fleet (fleet_of parts) none)))

pub none_if : (b : Bool) (e : PartsError) (o : Option PartsError) → b ≡ true → o ≡ cond b None (Some e) → o ≡ None
none_if true e o t h = h
none_if false e o t h = cc
