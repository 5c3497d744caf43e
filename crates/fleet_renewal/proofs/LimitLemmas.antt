-- Limits of which some are left out stay in order of their names.
use Rattle.std.proofs.Common.{◌≡◌, ℕ, List, [], ◌∷◌, Bool, true, false, cond, refl}
use Rattle.std.specs.Prelude.{filter}
use Rattle.std.specs.FinMap.{is_sorted}
use Rattle.std.specs.FinMap.Entries.{below_all}
use Rattle.std.proofs.lemmas.Bool.{and_from, and_parts}
use Rattle.reach_rules.specs.Name.{byte_cmp}
use Rattle.reach_rules.specs.OwnLimits.{LimitList, limits_of}
use Rattle.reach_rules.proofs.Limits.{limits_of-sorted}
use Rattle.fleet.specs.declared.job.JobSpec.{JobSpec}
use Rattle.fleet_renewal.specs.Renewed.{limits_for}

below_by : (b : Bool) (name : List ℕ) (l : List ℕ × ℕ) (limits : LimitList) → below_all byte_cmp name (l ∷ limits) ≡ true → (below_all byte_cmp name limits ≡ true → below_all byte_cmp name (cond b (l ∷ limits) limits) ≡ true)
below_by true name l limits h rest = h
below_by false name l limits h rest = rest

below_first : (name : List ℕ) (l : List ℕ × ℕ) (limits kept : LimitList) → below_all byte_cmp name (l ∷ limits) ≡ true → below_all byte_cmp name kept ≡ true → below_all byte_cmp name (l ∷ kept) ≡ true
below_first name l limits kept h rest = and_from _ _ (and_parts _ _ h).0 rest

below_kept : (p : List ℕ × ℕ → Bool) (name : List ℕ) (limits : LimitList) → below_all byte_cmp name limits ≡ true → below_all byte_cmp name (filter p limits) ≡ true
below_kept p name [] h = refl
below_kept p name (l ∷ limits) h =
    let rest = below_kept p name limits (and_parts _ _ h).1 in
    below_by (p l) name l (filter p limits) (below_first name l limits (filter p limits) h rest) rest

sorted_by : (b : Bool) (l : List ℕ × ℕ) (limits : LimitList) → below_all byte_cmp l.0 limits ≡ true → is_sorted byte_cmp limits ≡ true → is_sorted byte_cmp (cond b (l ∷ limits) limits) ≡ true
sorted_by true l limits below sorted = and_from _ _ below sorted
sorted_by false l limits below sorted = sorted

pub sorted_kept : (p : List ℕ × ℕ → Bool) (limits : LimitList) → is_sorted byte_cmp limits ≡ true → is_sorted byte_cmp (filter p limits) ≡ true
sorted_kept p [] sorted = refl
sorted_kept p (l ∷ limits) sorted = (let parts = and_parts _ _ sorted in sorted_by (p l) l (filter p limits) (below_kept p l.0 limits parts.0) (sorted_kept p limits parts.1))

pub limits_kept : (jobs : List JobSpec) (limits : LimitList) → is_sorted byte_cmp limits ≡ true → limits_of (limits_for jobs limits) ≡ limits_for jobs limits
limits_kept jobs limits sorted = limits_of-sorted (limits_for jobs limits) (sorted_kept _ limits sorted)
