-- Jobs by name and by place. In a list of good jobs each is found by its name.
use Rattle.std.proofs.Common.{◌≡◌, ℕ, zero, suc, ◌+◌, ◌<◌, ◌≤◌, ◌&&◌, ◌||◌, List, [], ◌∷◌, ◌++◌, Bool, true, false, Option, Some, None, cond, length, refl, sym, ap, subst, ◌∙◌, arith}
use Rattle.std.specs.Prelude.{not, option_and_then, slice_get}
use Rattle.std.specs.List.{position_from}
use Rattle.std.specs.Str.{bytes_eq}
use Rattle.std.proofs.lemmas.Bool.{and_parts, cond-false, cond-true, leb-true, or_parts}
use Rattle.std.proofs.lemmas.List.Folds.{list_any-append}
use Rattle.std.proofs.lemmas.Option.{slice_get_within}
use Rattle.std.proofs.lemmas.Slice.Eq.{bytes_eq-Decides}
use Rattle.fleet.specs.Jobs.{are_jobs, are_named, is_job, job_named}
use Rattle.fleet.specs.declared.job.JobSpec.{JobSpec}
use Rattle.fleet_renewal.specs.Renewed.{new_places, place_at}
use Rattle.fleet_renewal.proofs.Gets.{none_some, some_same}

pub name_is : (a b : List ℕ) → bytes_eq a b ≡ true → a ≡ b
name_is a b e = (bytes_eq-Decides a b).0 e

pub name_same : (a b : List ℕ) → a ≡ b → bytes_eq a b ≡ true
name_same a b e = (bytes_eq-Decides a b).1 e

-- what a search finds
pub record Found {X : Type 0} (p : X → Bool) (xs : List X) (i n : ℕ) : Type 0 where
  pub place : ℕ
  pub item : X
  pub is : i + place ≡ n
  pub here : slice_get xs place ≡ Some item
  pub passes : p item ≡ true

found_by : {X : Type 0} (p : X → Bool) (b : Bool) (x : X) (xs : List X) (i n : ℕ) → p x ≡ b → (position_from p (i + 1) xs ≡ Some n → Found p xs (i + 1) n) → cond b (Some i) (position_from p (i + 1) xs) ≡ Some n → Found p (x ∷ xs) i n
found_by p true x xs i n was rest e = record { place = 0; item = x; is = omega (arith, some_same i n e); here = refl; passes = was }
found_by p false x xs i n was rest e = (let f = rest e in record { place = suc f.place; item = f.item; is = omega (arith, f.is); here = f.here; passes = f.passes })

found : {X : Type 0} (p : X → Bool) (xs : List X) (i n : ℕ) → position_from p i xs ≡ Some n → Found p xs i n
found p [] i n e = none_some n e
found p (x ∷ xs) i n e = found_by p (p x) x xs i n refl (λ h. found p xs (i + 1) n h) e

-- the job that a name finds
pub record Named (jobs : List JobSpec) (name : List ℕ) (place : ℕ) : Type 0 where
  pub job : JobSpec
  pub here : slice_get jobs place ≡ Some job
  pub is : job.name ≡ name

pub job_found : (jobs : List JobSpec) (name : List ℕ) (n : ℕ) → job_named jobs name ≡ Some n → Named jobs name n
job_found jobs name n e =
    let f = found (λ (job : JobSpec). bytes_eq job.name name) jobs 0 n e in
    let place : f.place ≡ n = omega (arith, f.is) in
    record { job = f.item; here = ap (slice_get jobs) (sym place) ∙ f.here; is = name_is f.item.name name f.passes }

not_true : (b : Bool) → not b ≡ true → b ≡ false
not_true true e = cc
not_true false e = refl

record Apart (before jobs : List JobSpec) (i j : ℕ) (job : JobSpec) : Type 0 where
  new : is_job before job.name ≡ false
  at : position_from (λ (x : JobSpec). bytes_eq x.name job.name) i jobs ≡ Some (i + j)

apart : (before jobs : List JobSpec) (i j : ℕ) (job : JobSpec) → are_named before jobs ≡ true → slice_get jobs j ≡ Some job → Apart before jobs i j job
apart before [] i j job named here = none_some job here
apart before (x ∷ jobs) i zero job named here =
    let parts = and_parts (not (bytes_eq x.name []) && not (is_job before x.name)) (are_named (before ++ x ∷ []) jobs) named in
    let new = not_true (is_job before x.name) (and_parts (not (bytes_eq x.name [])) (not (is_job before x.name)) parts.0).1 in
    subst (λ (y : JobSpec). Apart before (x ∷ jobs) i 0 y) (some_same x job here)
    (record { new = new; at = cond-true (bytes_eq x.name x.name) _ _ (name_same x.name x.name refl) ∙ ap (λ (n : ℕ). (let o : Option ℕ = Some n in o)) (let r : i ≡ i + 0 = omega arith in r) })
apart before (x ∷ jobs) i (suc j) job named here =
    let parts = and_parts (not (bytes_eq x.name []) && not (is_job before x.name)) (are_named (before ++ x ∷ []) jobs) named in
    let rest = apart (before ++ x ∷ []) jobs (i + 1) j job parts.1 here in
    let split : is_job (before ++ x ∷ []) job.name ≡ (is_job before job.name || is_job (x ∷ []) job.name) = list_any-append (λ (y : JobSpec). bytes_eq y.name job.name) before (x ∷ []) in
    let both = or_parts (is_job before job.name) (is_job (x ∷ []) job.name) (sym split ∙ rest.new) in
    let other = or_parts (bytes_eq x.name job.name) (is_job [] job.name) both.1 in
    record {
      new = both.0;
      at = cond-false (bytes_eq x.name job.name) _ _ other.0 ∙ rest.at ∙ ap (λ (n : ℕ). (let o : Option ℕ = Some n in o)) (let r : i + 1 + j ≡ i + suc j = omega arith in r);
    }

pub job_here : (jobs : List JobSpec) (j : ℕ) (job : JobSpec) → are_jobs jobs ≡ true → slice_get jobs j ≡ Some job → job_named jobs job.name ≡ Some j
job_here jobs j job good here = (apart [] jobs 0 j job (and_parts _ _ good).1 here).at ∙ ap (λ (n : ℕ). (let o : Option ℕ = Some n in o)) (let r : 0 + j ≡ j = omega arith in r)

pub few_jobs : (jobs : List JobSpec) → are_jobs jobs ≡ true → length jobs ≤ 1024
few_jobs jobs good = leb-true (length jobs) 1024 (and_parts _ _ good).0

-- ---- the new places of jobs

pub places_get : (old new : List JobSpec) (j : ℕ) → place_at (new_places old new) j ≡ option_and_then (λ (job : JobSpec). job_named new job.name) (slice_get old j)
places_get [] new j = refl
places_get (x ∷ old) new zero = refl
places_get (x ∷ old) new (suc j) = places_get old new j

-- a job that stands in both lists
pub record Placed (old new : List JobSpec) (j p : ℕ) : Type 0 where
  pub before : JobSpec
  pub after : JobSpec
  pub was : slice_get old j ≡ Some before
  pub is : slice_get new p ≡ Some after
  pub name : after.name ≡ before.name

placed_by : (old new : List JobSpec) (j p : ℕ) (o : Option JobSpec) → slice_get old j ≡ o → option_and_then (λ (job : JobSpec). job_named new job.name) o ≡ Some p → Placed old new j p
placed_by old new j p None was e = none_some p e
placed_by old new j p (Some job) was e = (let f = job_found new job.name p e in record { before = job; after = f.job; was = was; is = f.here; name = f.is })

pub placed : (old new : List JobSpec) (j p : ℕ) → place_at (new_places old new) j ≡ Some p → Placed old new j p
placed old new j p e = placed_by old new j p (slice_get old j) refl (sym (places_get old new j) ∙ e)

-- no two old jobs have one new place
pub place_apart : (old new : List JobSpec) (i j p : ℕ) → are_jobs old ≡ true → place_at (new_places old new) i ≡ Some p → place_at (new_places old new) j ≡ Some p → i ≡ j
place_apart old new i j p good here there =
    let a = placed old new i p here in
    let b = placed old new j p there in
    let same : a.after ≡ b.after = some_same a.after b.after (sym a.is ∙ b.is) in
    let names : a.before.name ≡ b.before.name = sym a.name ∙ ap (λ (job : JobSpec). job.name) same ∙ b.name in
    some_same i j (sym (job_here old i a.before good a.was) ∙ ap (job_named old) names ∙ job_here old j b.before good b.was)

-- the old job of a new one's name has its place
pub place_back : (old new : List JobSpec) (j p : ℕ) (job : JobSpec) → are_jobs new ≡ true → slice_get new p ≡ Some job → job_named old job.name ≡ Some j → place_at (new_places old new) j ≡ Some p
place_back old new j p job good here there =
    let f = job_found old job.name j there in
    places_get old new j ∙ ap (option_and_then (λ (x : JobSpec). job_named new x.name)) f.here ∙ ap (job_named new) f.is ∙ job_here new p job good here

pub place_within : (old new : List JobSpec) (j p : ℕ) → place_at (new_places old new) j ≡ Some p → p < length new
place_within old new j p e = (let a = placed old new j p e in slice_get_within new p a.after a.is)
