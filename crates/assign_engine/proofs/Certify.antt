-- Complementary slackness: a sound matching in which nobody waits is certified by its prices.
use Rattle.std.proofs.Common.{◌≡◌, ◌+◌, ◌*◌, ◌<◌, ◌≤◌, ◌≢◌, ℕ, zero, suc, cond, eqb, List, [], ◌∷◌, All, Option, Some, None, inl, inr, length, get_or, sum, refl, sym, subst, arith}
use Rattle.std.proofs.lemmas.List.Sums.{sum_by-cons}
use Rattle.std.proofs.lemmas.List.Elements.{All-nil, All-cons, All-weaker}
use Rattle.std.proofs.lemmas.Bool.{cases_eq, cases_lt}
use Rattle.std.proofs.lemmas.Option.{none-some}
use Rattle.std.proofs.Math.Nat.{mul_comm}
use Rattle.std.proofs.lemmas.Bool.Decides.{nat_tests}
use Rattle.price_certificate.specs.Problem.{Problem, IsProblem, items_of, bins_of, capacity_of, weight_of, IsAllowed}
use Rattle.price_certificate.specs.Assignment.{uses_of_item, uses_of_bin}
use Rattle.price_certificate.specs.Certificate.{sum_below, worth_of, IsCertified}
use Rattle.assign_engine.specs.Seats.{sits, seat, used, pairs_from, pairs_of, IsSound, IsWaiting}
use Rattle.price_certificate.proofs.Sums.{sum_below-same, sum_is_below, sum_by_key, sum_by-same, sum_by-add}
use Rattle.price_certificate.proofs.Duality.{allowed_item}
use Rattle.price_certificate.proofs.InstanceRows.{allowed_bin}

pub pairs_all : (P : ℕ → ℕ → Type 0) (t : ℕ) (ats : List (Option ℕ)) → ((k b : ℕ) → seat ats k ≡ Some b → P (t + k) b) → All (λ (q : ℕ × ℕ). P q.0 q.1) (pairs_from t ats)
pairs_all P t [] h = All-nil (λ (q : ℕ × ℕ). P q.0 q.1)
pairs_all P t (None ∷ ats) h = pairs_all P (t + 1) ats (λ k b e. let s : t + 1 + k ≡ t + suc k = omega arith in subst (λ (m : ℕ). P m b) (sym s) (h (suc k) b e))
pairs_all P t (Some c ∷ ats) h =
    let rest = pairs_all P (t + 1) ats (λ k b e. let s : t + 1 + k ≡ t + suc k = omega arith in subst (λ (m : ℕ). P m b) (sym s) (h (suc k) b e)) in
    let z : t + 0 ≡ t = omega arith in
    All-cons (λ (q : ℕ × ℕ). P q.0 q.1) (t, c) (pairs_from (t + 1) ats) (subst (λ (m : ℕ). P m c) z (h 0 c refl)) rest

pub bin_uses : (t b : ℕ) (ats : List (Option ℕ)) → uses_of_bin (pairs_from t ats) b ≡ used ats b
bin_uses t b [] = refl
bin_uses t b (None ∷ ats) = omega (arith, bin_uses (t + 1) b ats, sum_by-cons (λ (o : Option ℕ). cond (sits b o) 1 0) None ats)
bin_uses t b (Some c ∷ ats) = omega (arith, bin_uses (t + 1) b ats, sum_by-cons (λ (o : Option ℕ). cond (sits b o) 1 0) (Some c) ats, sum_by-cons (λ (q : ℕ × ℕ). cond (eqb q.1 b) 1 0) (t, c) (pairs_from (t + 1) ats))

-- an item before the first is not in the list
pub item_before : (t i : ℕ) (ats : List (Option ℕ)) → i < t → uses_of_item (pairs_from t ats) i ≡ 0
item_before t i [] h = refl
item_before t i (None ∷ ats) h = item_before (t + 1) i ats (omega arith)
item_before t i (Some c ∷ ats) h =
    let rest = item_before (t + 1) i ats (omega arith) in
    let step = sum_by-cons (λ (q : ℕ × ℕ). cond (eqb q.0 i) 1 0) (t, c) (pairs_from (t + 1) ats) in
    let d : t ≢ i = omega arith in
    grind (arith, nat_tests, rest, step, d)

once_here : (t i n m : ℕ) → n ≡ 0 → m ≡ cond (eqb t i) 1 0 + n → m ≤ 1
once_here t i n m e s = grind (arith, nat_tests)

once_there : (t i n m : ℕ) → t ≢ i → n ≤ 1 → m ≡ cond (eqb t i) 1 0 + n → m ≤ 1
once_there t i n m d e s = grind (arith, nat_tests)

pub item_once : (t i : ℕ) (ats : List (Option ℕ)) → uses_of_item (pairs_from t ats) i ≤ 1
item_once t i [] = omega arith
item_once t i (None ∷ ats) = item_once (t + 1) i ats
item_once t i (Some c ∷ ats) =
    let rest = item_once (t + 1) i ats in
    let step = sum_by-cons (λ (q : ℕ × ℕ). cond (eqb q.0 i) 1 0) (t, c) (pairs_from (t + 1) ats) in
    elim (cases_eq t i) [ inl e ↦ once_here t i _ _ (item_before (t + 1) i ats (omega arith)) step | inr d ↦ once_there t i _ _ d rest step ]

uses_first : (t i n m : ℕ) → t ≡ i → n ≡ 0 → m ≡ cond (eqb t i) 1 0 + n → m ≡ 1
uses_first t i n m e z s = grind (arith, nat_tests)

uses_later : (t i n m : ℕ) → t < i → n ≡ 1 → m ≡ cond (eqb t i) 1 0 + n → m ≡ 1
uses_later t i n m e z s = let d : t ≢ i = omega arith in grind (arith, nat_tests)

pub item_uses : (t k b : ℕ) (ats : List (Option ℕ)) → seat ats k ≡ Some b → uses_of_item (pairs_from t ats) (t + k) ≡ 1
item_uses t k b [] e = absurd (none-some b e)
item_uses t zero b (None ∷ ats) e = absurd (none-some b e)
item_uses t (suc k) b (None ∷ ats) e = let s : t + 1 + k ≡ t + suc k = omega arith in subst (λ (m : ℕ). uses_of_item (pairs_from (t + 1) ats) m ≡ 1) s (item_uses (t + 1) k b ats e)
item_uses t zero b (Some c ∷ ats) e =
    let rest = item_before (t + 1) (t + 0) ats (omega arith) in
    let step = sum_by-cons (λ (q : ℕ × ℕ). cond (eqb q.0 (t + 0)) 1 0) (t, c) (pairs_from (t + 1) ats) in
    uses_first t (t + 0) _ _ (omega arith) rest step
item_uses t (suc k) b (Some c ∷ ats) e =
    let s : t + 1 + k ≡ t + suc k = omega arith in
    let rest = subst (λ (m : ℕ). uses_of_item (pairs_from (t + 1) ats) m ≡ 1) s (item_uses (t + 1) k b ats e) in
    let step = sum_by-cons (λ (q : ℕ × ℕ). cond (eqb q.0 (t + suc k)) 1 0) (t, c) (pairs_from (t + 1) ats) in
    uses_later t (t + suc k) _ _ (omega arith) rest step

-- what a list of pairs is worth, where its pairs are priced exactly
sums_tight : (p : Problem) (pairs : List (ℕ × ℕ)) (us vs : List ℕ) → length us ≡ items_of p → length vs ≡ bins_of p
    → All (λ (q : ℕ × ℕ). q.0 < items_of p) pairs → All (λ (q : ℕ × ℕ). q.1 < bins_of p) pairs
    → All (λ (q : ℕ × ℕ). weight_of p q.0 q.1 ≡ get_or us q.0 0 + get_or vs q.1 0) pairs
    → ((t : ℕ) → t < items_of p → get_or us t 0 ≡ get_or us t 0 * uses_of_item pairs t)
    → ((b : ℕ) → b < bins_of p → capacity_of p b * get_or vs b 0 ≡ get_or vs b 0 * uses_of_bin pairs b)
    → sum us + sum_below (λ b. capacity_of p b * get_or vs b 0) (bins_of p) ≡ worth_of p pairs
sums_tight p pairs us vs lu lv it bn w hu hv =
    let weights = sum_by-same (λ (q : ℕ × ℕ). weight_of p q.0 q.1) (λ (q : ℕ × ℕ). get_or us q.0 0 + get_or vs q.1 0) pairs w in
    let parts = sum_by-add (λ (q : ℕ × ℕ). get_or us q.0 0) (λ (q : ℕ × ℕ). get_or vs q.1 0) pairs in
    let ui = sum_by_key (λ (q : ℕ × ℕ). q.0) (λ t. get_or us t 0) (items_of p) pairs it in
    let vi = sum_by_key (λ (q : ℕ × ℕ). q.1) (λ b. get_or vs b 0) (bins_of p) pairs bn in
    let u : sum us ≡ sum_below (λ t. get_or us t 0) (items_of p) = subst (λ (n : ℕ). sum us ≡ sum_below (λ t. get_or us t 0) n) lu (sum_is_below us) in
    let us_ = sum_below-same (λ t. get_or us t 0) (λ t. get_or us t 0 * uses_of_item pairs t) (items_of p) hu in
    let vs_ = sum_below-same (λ b. capacity_of p b * get_or vs b 0) (λ b. get_or vs b 0 * uses_of_bin pairs b) (bins_of p) hv in
    omega (arith, weights, parts, ui, vi, u, us_, vs_)

-- what holds of none of the items with a price and without a bin
item_slack : (p : Problem) (ats : List (Option ℕ)) (us : List ℕ) (t : ℕ) → (IsWaiting ats us t → ⊥) → (o : Option ℕ) → seat ats t ≡ o → get_or us t 0 ≡ get_or us t 0 * uses_of_item (pairs_of ats) t
item_slack p ats us t w None e =
    let z : get_or us t 0 ≡ 0 = elim (cases_lt 0 (get_or us t 0)) [ inl l ↦ absurd (w (e, l)) | inr g ↦ omega arith ] in
    rw z (omega arith)
item_slack p ats us t w (Some b) e =
    let n : uses_of_item (pairs_of ats) (0 + t) ≡ 1 = item_uses 0 t b ats e in
    let s : 0 + t ≡ t = omega arith in
    let m : uses_of_item (pairs_of ats) t ≡ 1 = subst (λ (i : ℕ). uses_of_item (pairs_of ats) i ≡ 1) s n in
    rw m (omega arith)

bin_slack : (p : Problem) (ats : List (Option ℕ)) (us vs : List ℕ) → IsSound p ats us vs → (b : ℕ) → capacity_of p b * get_or vs b 0 ≡ get_or vs b 0 * uses_of_bin (pairs_of ats) b
bin_slack p ats us vs h b =
    let e = bin_uses 0 b ats in
    elim (cases_lt 0 (get_or vs b 0)) [
      | inl l ↦ let c : capacity_of p b ≡ uses_of_bin (pairs_of ats) b = omega (arith, e, h.full b l, h.within b) in rw c (mul_comm _ _)
      | inr g ↦ let z : get_or vs b 0 ≡ 0 = omega arith in rw z (omega arith)
    ]

-- A sound matching in which nobody waits is certified.
pub certified : (p : Problem) (ats : List (Option ℕ)) (us vs : List ℕ) → IsProblem p → IsSound p ats us vs → ((t : ℕ) → IsWaiting ats us t → ⊥) → IsCertified p (pairs_of ats) us vs
certified p ats us vs valid h none =
    let reach = pairs_all (λ t b. IsAllowed p t b) 0 ats (λ k b e. let s : k ≡ 0 + k = omega arith in subst (λ (m : ℕ). IsAllowed p m b) s (h.allowed k b e)) in
    let tight = pairs_all (λ t b. weight_of p t b ≡ get_or us t 0 + get_or vs b 0) 0 ats (λ k b e. let s : k ≡ 0 + k = omega arith in subst (λ (m : ℕ). weight_of p m b ≡ get_or us m 0 + get_or vs b 0) s (sym (h.tight k b e))) in
    record {
      feasible = record {
        allowed = reach;
        once = λ t. item_once 0 t ats;
        within = λ b. omega (arith, bin_uses 0 b ats, h.within b);
      };
      priced = record { items = h.items; bins = h.bins; pairs = h.priced };
      sums = sums_tight p (pairs_of ats) us vs h.items h.bins
          (All-weaker (λ (q : ℕ × ℕ). IsAllowed p q.0 q.1) (λ (q : ℕ × ℕ). q.0 < items_of p) (λ q a. allowed_item p q.0 q.1 a) _ reach)
          (All-weaker (λ (q : ℕ × ℕ). IsAllowed p q.0 q.1) (λ (q : ℕ × ℕ). q.1 < bins_of p) (λ q a. allowed_bin p valid q.0 q.1 a) _ reach)
          tight
          (λ t l. item_slack p ats us t (none t) (seat ats t) refl)
          (λ b l. bin_slack p ats us vs h b);
    }
