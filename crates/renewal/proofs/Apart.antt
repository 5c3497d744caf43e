-- Pairs of which no two have one target, by count and by place; and what is carried over of them.
use Rattle.std.proofs.Common.{◌≡◌, ℕ, zero, suc, ◌<◌, ◌≤◌, List, [], ◌∷◌, Bool, true, false, Some, cond, count_by, eqb, refl, sym, ap, ◌∙◌, inl, inr, arith}
use Rattle.std.specs.Prelude.{AllPairs, slice_get}
use Rattle.std.proofs.lemmas.Bool.{cases_eq, eq-eqb, ne_eqb}
use Rattle.std.proofs.lemmas.List.Sums.{sum_by-cons}
use Rattle.fleet.specs.Fleet.{FleetState}
use Rattle.fleet.specs.declared.job.JobSpec.{JobSpec}
use Rattle.fleet_assignment.specs.Best.{IsOnce}
use Rattle.fleet_renewal.specs.Renewed.{carried, carried_pair, new_number, survives}
use Rattle.fleet_renewal.proofs.CarriedLemmas.{carries}
use Rattle.fleet_renewal.proofs.Counting.{count_apart, numbered}
use Rattle.fleet_renewal.proofs.Gets.{kept_pairs, none_some, pairs_at, pairs_from_gets, some_same}

-- no two pairs have one target
abbrev pub AreApart : List (ℕ × ℕ) → Type 0
AreApart pairs = AllPairs (λ (a b : ℕ × ℕ). a.0 ≡ b.0 → ⊥) pairs

one : (b : Bool) → b ≡ true → (let n : ℕ = cond b 1 0 in n) ≡ 1
one b e = ap (λ (c : Bool). (let n : ℕ = cond c 1 0 in n)) e

nought : (b : Bool) → b ≡ false → (let n : ℕ = cond b 1 0 in n) ≡ 0
nought b e = ap (λ (c : Bool). (let n : ℕ = cond c 1 0 in n)) e

-- a pair of the target counts
counted : (pairs : List (ℕ × ℕ)) (j target : ℕ) (r : ℕ × ℕ) → slice_get pairs j ≡ Some r → r.0 ≡ target → 1 ≤ count_by (λ (q : ℕ × ℕ). eqb q.0 target) pairs
counted [] j target r here is = none_some r here
counted (q ∷ pairs) zero target r here is =
    let same : q.0 ≡ target = ap (λ (p : ℕ × ℕ). p.0) (some_same q r here) ∙ is in
    omega (arith, sum_by-cons (λ (p : ℕ × ℕ). cond (eqb p.0 target) 1 0) q pairs, one (eqb q.0 target) (eq-eqb q.0 target same))
counted (q ∷ pairs) (suc j) target r here is = omega (arith, sum_by-cons (λ (p : ℕ × ℕ). cond (eqb p.0 target) 1 0) q pairs, counted pairs j target r here is)

fewer : (q : ℕ × ℕ) (pairs : List (ℕ × ℕ)) → IsOnce (q ∷ pairs) → IsOnce pairs
fewer q pairs once target = omega (arith, once target, sum_by-cons (λ (p : ℕ × ℕ). cond (eqb p.0 target) 1 0) q pairs)

apart_at : (pairs : List (ℕ × ℕ)) (i j : ℕ) (a b : ℕ × ℕ) → IsOnce pairs → i < j → slice_get pairs i ≡ Some a → slice_get pairs j ≡ Some b → a.0 ≡ b.0 → ⊥
apart_at [] i j a b once less here there same = none_some a here
apart_at (q ∷ pairs) i zero a b once less here there same = absurd (omega arith)
apart_at (q ∷ pairs) zero (suc j) a b once less here there same =
    let head : q.0 ≡ b.0 = ap (λ (p : ℕ × ℕ). p.0) (some_same q a here) ∙ same in
    absurd (omega (arith, once b.0, sum_by-cons (λ (p : ℕ × ℕ). cond (eqb p.0 b.0) 1 0) q pairs, one (eqb q.0 b.0) (eq-eqb q.0 b.0 head), counted pairs j b.0 b there refl))
apart_at (q ∷ pairs) (suc i) (suc j) a b once less here there same = apart_at pairs i j a b (fewer q pairs once) (omega arith) here there same

pub apart_from_once : (pairs : List (ℕ × ℕ)) → IsOnce pairs → AreApart pairs
apart_from_once pairs once = pairs_from_gets (λ (a b : ℕ × ℕ). a.0 ≡ b.0 → ⊥) pairs (λ i j a b less here there same. apart_at pairs i j a b once less here there same)

pub apart_tail : (q : ℕ × ℕ) (pairs : List (ℕ × ℕ)) → AreApart (q ∷ pairs) → AreApart pairs
apart_tail q pairs apart i j d less within = apart (suc i) (suc j) d (omega arith) (omega arith)

pub apart_head : (q : ℕ × ℕ) (pairs : List (ℕ × ℕ)) (j : ℕ) (r : ℕ × ℕ) → AreApart (q ∷ pairs) → slice_get pairs j ≡ Some r → q.0 ≡ r.0 → ⊥
apart_head q pairs j r apart here = pairs_at (λ (a b : ℕ × ℕ). a.0 ≡ b.0 → ⊥) (q ∷ pairs) 0 (suc j) q r apart (omega arith) refl here

none_counted : (pairs : List (ℕ × ℕ)) (target : ℕ) → ((j : ℕ) (r : ℕ × ℕ) → slice_get pairs j ≡ Some r → target ≡ r.0 → ⊥) → count_by (λ (q : ℕ × ℕ). eqb q.0 target) pairs ≡ 0
none_counted [] target other = refl
none_counted (q ∷ pairs) target other =
    omega (arith, sum_by-cons (λ (p : ℕ × ℕ). cond (eqb p.0 target) 1 0) q pairs, nought (eqb q.0 target) (ne_eqb q.0 target (λ e. other 0 q refl (sym e))), none_counted pairs target (λ j r here. other (suc j) r here))

pub once_from_apart : (pairs : List (ℕ × ℕ)) → AreApart pairs → IsOnce pairs
once_from_apart [] apart target = omega arith
once_from_apart (q ∷ pairs) apart target =
    let more = sum_by-cons (λ (p : ℕ × ℕ). cond (eqb p.0 target) 1 0) q pairs in
    elim (cases_eq q.0 target) [
      | inl e ↦ omega (arith, more, one (eqb q.0 target) (eq-eqb q.0 target e), none_counted pairs target (λ j r here same. apart_head q pairs j r apart here (e ∙ same)))
      | inr d ↦ omega (arith, more, nought (eqb q.0 target) (ne_eqb q.0 target d), once_from_apart pairs (apart_tail q pairs apart) target)
    ]

pub carried_apart : (fleet : FleetState) (pairs : List (ℕ × ℕ)) (slots : List ℕ) (jobs : List JobSpec) → AreApart pairs → AreApart (carried fleet pairs slots jobs)
unfolding carried
carried_apart fleet pairs slots jobs apart =
    let stays = survives fleet pairs slots jobs in
    kept_pairs (λ (a b : ℕ × ℕ). a.0 ≡ b.0 → ⊥) (carried_pair fleet (new_number stays)) pairs
    (λ i j q r y z less here there is that same.
    (let a = carries fleet (new_number stays) q y is in
    let b = carries fleet (new_number stays) r z that in
    let m = numbered stays q.0 y.0 a.target in
    let n = numbered stays r.0 z.0 b.target in
    pairs_at (λ (a b : ℕ × ℕ). a.0 ≡ b.0 → ⊥) pairs i j q r apart less here there (count_apart stays q.0 r.0 m.passes n.passes (m.counts ∙ same ∙ sym n.counts))))

pub carried_once : (fleet : FleetState) (pairs : List (ℕ × ℕ)) (slots : List ℕ) (jobs : List JobSpec) → IsOnce pairs → IsOnce (carried fleet pairs slots jobs)
carried_once fleet pairs slots jobs once = once_from_apart (carried fleet pairs slots jobs) (carried_apart fleet pairs slots jobs (apart_from_once pairs once))
