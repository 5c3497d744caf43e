-- The known targets that go on: each stands at its new number, under the new place of its job.
use Rattle.std.proofs.Common.{◌≡◌, ℕ, ◌<◌, List, Bool, true, false, Option, Some, None, length, refl, sym, ap, ◌∙◌}
use Rattle.std.specs.Prelude.{AllPairs, is_some, option_and_then, slice_get}
use Rattle.std.specs.Option.{option_map, option_map_or}
use Rattle.std.proofs.lemmas.Bool.{and_from, and_parts, eq-eqb, eqb-true}
use Rattle.std.proofs.lemmas.Option.{slice_get_within}
use Rattle.label_sets.specs.Target.{target_text}
use Rattle.fleet.specs.Fleet.{FleetState}
use Rattle.fleet.specs.Jobs.{are_jobs}
use Rattle.fleet.specs.KnownTarget.{same_known}
use Rattle.fleet.specs.Live.{count_below}
use Rattle.fleet.specs.declared.job.JobSpec.{JobSpec}
use Rattle.fleet.specs.declared.known_target.KnownTarget.{KnownTarget}
use Rattle.fleet_renewal.specs.Renewed.{has_place, moved, moved_at, new_places, place_at, renewed_known, survives}
use Rattle.fleet_renewal.proofs.Counting.{made_at, made_count}
use Rattle.fleet_renewal.proofs.Gets.{none_some, pairs_at, some_same}
use Rattle.fleet_renewal.proofs.JobLemmas.{name_is, name_same, place_apart}

-- a known target that is moved
pub record Moved (known : List KnownTarget) (places : List (Option ℕ)) (n : ℕ) (y : KnownTarget) : Type 0 where
  pub before : KnownTarget
  pub was : slice_get known n ≡ Some before
  pub job : place_at places before.job ≡ Some y.job
  pub target : y.target ≡ before.target

job_by : (places : List (Option ℕ)) (k y : KnownTarget) (o : Option ℕ) → place_at places k.job ≡ o → option_map (λ (job : ℕ). (let x : KnownTarget = record { job = job; target = k.target } in x)) o ≡ Some y → (place_at places k.job ≡ Some y.job) × (y.target ≡ k.target)
job_by places k y None was e = none_some y e
job_by places k y (Some job) was e =
    let same : (let x : KnownTarget = record { job = job; target = k.target } in x) ≡ y = some_same _ y e in
    (was ∙ ap (λ (x : KnownTarget). (let o : Option ℕ = Some x.job in o)) same, ap (λ (x : KnownTarget). x.target) (sym same))

moved_by : (known : List KnownTarget) (places : List (Option ℕ)) (n : ℕ) (y : KnownTarget) (o : Option KnownTarget) → slice_get known n ≡ o → option_and_then (moved places) o ≡ Some y → Moved known places n y
moved_by known places n y None was e = none_some y e
moved_by known places n y (Some k) was e = (let parts = job_by places k y (place_at places k.job) refl e in record { before = k; was = was; job = parts.0; target = parts.1 })

pub moved_from : (known : List KnownTarget) (places : List (Option ℕ)) (n : ℕ) (y : KnownTarget) → moved_at known places n ≡ Some y → Moved known places n y
moved_from known places n y e = moved_by known places n y (slice_get known n) refl e

-- a target of a job that has a new place is moved
there_by : (places : List (Option ℕ)) (k : KnownTarget) (o : Option ℕ) → place_at places k.job ≡ o → is_some o ≡ true → (y : KnownTarget) × (moved places k ≡ Some y)
there_by places k None was e = cc
there_by places k (Some job) was e = (record { job = job; target = k.target }, ap (option_map (λ (j : ℕ). (let x : KnownTarget = record { job = j; target = k.target } in x))) was)

placed_by :
    (known : List KnownTarget) (places : List (Option ℕ)) (n : ℕ) (o : Option KnownTarget) → slice_get known n ≡ o → option_map_or (λ (k : KnownTarget). is_some (place_at places k.job)) o false ≡ true → (y : KnownTarget) × (moved_at known places n ≡ Some y)
placed_by known places n None was e = cc
placed_by known places n (Some k) was e = (let found = there_by places k (place_at places k.job) refl e in (found.0, ap (option_and_then (moved places)) was ∙ found.1))

pub moved_there : (known : List KnownTarget) (places : List (Option ℕ)) (n : ℕ) → has_place known places n ≡ true → (y : KnownTarget) × (moved_at known places n ≡ Some y)
moved_there known places n e = placed_by known places n (slice_get known n) refl e

pub survivor_moved : (fleet : FleetState) (pairs : List (ℕ × ℕ)) (slots : List ℕ) (jobs : List JobSpec) (n : ℕ) → survives fleet pairs slots jobs n ≡ true → (y : KnownTarget) × (moved_at fleet.known (new_places fleet.jobs jobs) n ≡ Some y)
survivor_moved fleet pairs slots jobs n e = moved_there fleet.known (new_places fleet.jobs jobs) n (and_parts _ _ e).0

pub survivor_within : (fleet : FleetState) (pairs : List (ℕ × ℕ)) (slots : List ℕ) (jobs : List JobSpec) (n : ℕ) → survives fleet pairs slots jobs n ≡ true → n < length fleet.known
survivor_within fleet pairs slots jobs n e =
    let found = survivor_moved fleet pairs slots jobs n e in
    let m = moved_from fleet.known (new_places fleet.jobs jobs) n found.0 found.1 in
    slice_get_within fleet.known n m.before m.was

abbrev pub known_after : FleetState → List (ℕ × ℕ) → List ℕ → List JobSpec → List KnownTarget
known_after fleet pairs slots jobs = renewed_known fleet.known (new_places fleet.jobs jobs) (survives fleet pairs slots jobs)

pub known_count : (fleet : FleetState) (pairs : List (ℕ × ℕ)) (slots : List ℕ) (jobs : List JobSpec) → length (known_after fleet pairs slots jobs) ≡ count_below (survives fleet pairs slots jobs) (length fleet.known)
known_count fleet pairs slots jobs = made_count (survives fleet pairs slots jobs) (moved_at fleet.known (new_places fleet.jobs jobs)) (length fleet.known) (λ k l e. survivor_moved fleet pairs slots jobs k e)

pub known_at :
    (fleet : FleetState) (pairs : List (ℕ × ℕ)) (slots : List ℕ) (jobs : List JobSpec) (n : ℕ) → survives fleet pairs slots jobs n ≡ true → slice_get (known_after fleet pairs slots jobs) (count_below (survives fleet pairs slots jobs) n) ≡ moved_at fleet.known (new_places fleet.jobs jobs) n
known_at fleet pairs slots jobs n e =
    made_at (survives fleet pairs slots jobs) (moved_at fleet.known (new_places fleet.jobs jobs)) (length fleet.known) (λ k l h. survivor_moved fleet pairs slots jobs k h) n (survivor_within fleet pairs slots jobs n e) e

-- ---- no two are the same

not_same : (a b : KnownTarget) (same : Bool) → same_known b a ≡ same → (b.job ≡ a.job → target_text b.target ≡ target_text a.target → ⊥) → same ≡ false
not_same a b true is apart = (let parts = and_parts _ _ is in absurd (apart (eqb-true b.job a.job parts.0) (name_is (target_text b.target) (target_text a.target) parts.1)))
not_same a b false is apart = refl

same_of : (a b : KnownTarget) → b.job ≡ a.job → target_text b.target ≡ target_text a.target → same_known b a ≡ true
same_of a b job text = and_from _ _ (eq-eqb b.job a.job job) (name_same (target_text b.target) (target_text a.target) text)

true_false : true ≡ false → ⊥
true_false e = cc

pub moved_apart :
    (known : List KnownTarget) (old new : List JobSpec) (i j : ℕ) (y z : KnownTarget) → are_jobs old ≡ true → AllPairs (λ (a b : KnownTarget). same_known b a ≡ false) known → i < j → moved_at known (new_places old new) i ≡ Some y → moved_at known (new_places old new) j ≡ Some z
    → same_known z y ≡ false
moved_apart known old new i j y z good once less here there =
    let a = moved_from known (new_places old new) i y here in
    let b = moved_from known (new_places old new) j z there in
    let apart = pairs_at (λ (a b : KnownTarget). same_known b a ≡ false) known i j a.before b.before once less a.was b.was in
    not_same y z (same_known z y) refl
    (λ job text.
    (let jobs : b.before.job ≡ a.before.job = place_apart old new b.before.job a.before.job y.job good (b.job ∙ ap (λ (n : ℕ). (let o : Option ℕ = Some n in o)) job) a.job in
    let texts : target_text b.before.target ≡ target_text a.before.target = ap target_text (sym b.target) ∙ text ∙ ap target_text a.target in
    true_false (sym (same_of a.before b.before jobs texts) ∙ apart)))
