-- The price step, bin by bin, and that no price grows past the greatest weight.
use Rattle.std.proofs.Common.{◌≡◌, ◌+◌, ◌-◌, ◌*◌, ◌^◌, ◌<◌, ◌≤◌, ◌≢◌, eqb, cond, ℕ, suc, List, [], ◌∷◌, Option, Some, None, inl, inr, length, get_or, set, take, refl, sym, ap, ◌∙◌, subst, arith}
use Rattle.std.proofs.lemmas.Bool.{cases_eq, cases_lt}
use Rattle.std.proofs.lemmas.Bool.Decides.{nat_tests}
use Rattle.std.proofs.lemmas.Option.{none-some}
use Rattle.std.proofs.lemmas.List.{get_or-set_same, get_or-set_other, length-set}
use Rattle.std.proofs.lemmas.List.Sums.{sum_by-cons, sum_by_more, sum_by-take-le}
use Rattle.std.proofs.Math.Nat.{mul-le-mul_left}
use Rattle.price_certificate.specs.Problem.{Problem, IsProblem, items_of, bins_of}
use Rattle.price_certificate.proofs.InstanceRows.{allowed_bin}
use Rattle.price_certificate.proofs.Weights.{capacity-positive, weight-small}
use Rattle.assign_engine.specs.Usable.{one_if}
use Rattle.assign_engine.specs.Seats.{sits, seat, used, IsSound}
use Rattle.assign_engine.specs.Roll.{times_in}
use Rattle.assign_engine.specs.Repriced.{IsRepricing}
use Rattle.assign_engine.specs.Searched.{IsSearched, IsListed, IsRepriced}
use Rattle.assign_engine.specs.Searching.{EndsAt, EndFree}
use Rattle.assign_engine.specs.declared.ends.End.{End}
use Rattle.assign_engine.specs.declared.ends.End.TheVariants.{Leave, Room, Uncover}

one_later : (b c : ℕ) (ats : List (Option ℕ)) → c ≢ b → 0 < used (Some c ∷ ats) b → 0 < used ats b
one_later b c ats d l =
    let s = sum_by-cons (λ (o : Option ℕ). (let n : ℕ = cond (sits b o) 1 0 in n)) (Some c) ats in
    grind (arith, nat_tests, s, d, l)

-- a bin with items has an item
pub one_of : (b : ℕ) (ats : List (Option ℕ)) → 0 < used ats b → (t : ℕ) × (seat ats t ≡ Some b)
one_of b [] l = absurd (omega arith)
one_of b (None ∷ ats) l = let r = one_of b ats (omega (arith, sum_by-cons (λ (o : Option ℕ). (let n : ℕ = cond (sits b o) 1 0 in n)) None ats)) in (suc r.0, r.1)
one_of b (Some c ∷ ats) l = elim (cases_eq c b) [
  | inl e ↦ (0, ap Some e)
  | inr d ↦ let r = one_of b ats (one_later b c ats d l) in (suc r.0, r.1)
]

sits_here : (b : ℕ) (o : Option ℕ) → o ≡ Some b → one_if (sits b o) ≡ 1
sits_here b o e = subst (λ (x : Option ℕ). one_if (sits b x) ≡ 1) (sym e) (grind (arith, nat_tests))

sits_there : (b y : ℕ) (o : Option ℕ) → y ≢ b → o ≡ Some y → one_if (sits b o) ≡ 0
sits_there b y o d e = subst (λ (x : Option ℕ). one_if (sits b x) ≡ 0) (sym e) (grind (arith, nat_tests))

sits_out : (b : ℕ) (o : Option ℕ) → o ≡ None → one_if (sits b o) ≡ 0
sits_out b o e = subst (λ (x : Option ℕ). one_if (sits b x) ≡ 0) (sym e) refl

-- what the items of a bin lose at most
pub falls_once : (b by u : ℕ) (o : Option ℕ) → (o ≡ Some b → by ≤ u) → one_if (sits b o) * by ≤ u
falls_once b by u None h = omega arith
falls_once b by u (Some c) h = elim (cases_eq c b) [
  | inl q ↦ (let e = ap (λ (m : ℕ). m * by) (sits_here b (Some c) (ap Some q)) in omega (arith, e, h (ap Some q)))
  | inr q ↦ (let e = ap (λ (m : ℕ). m * by) (sits_there b c (Some c) q refl) in omega (arith, e))
]

-- how often an item stands in a longer front of a list
times_more : (items : List ℕ) (n t : ℕ) → n < length items → times_in (take (n + 1) items) t ≡ times_in (take n items) t + cond (eqb (get_or items n 0) t) 1 0
times_more items n t l = sum_by_more (λ (x : ℕ). (let k : ℕ = cond (eqb x t) 1 0 in k)) items n 0 l

times_most : (items : List ℕ) (n t : ℕ) → times_in (take n items) t ≤ times_in items t
times_most items n t = sum_by-take-le (λ (x : ℕ). (let k : ℕ = cond (eqb x t) 1 0 in k)) items n

one_more : (a by m : ℕ) → m ≡ 1 → (a + m) * by ≡ a * by + by
one_more a by m e = rw e (omega arith)

no_more : (a by m : ℕ) → m ≡ 0 → (a + m) * by ≡ a * by
no_more a by m e = rw e (omega arith)

pub same_test : (x t : ℕ) → x ≡ t → ◌≡◌ {A = ℕ} (cond (eqb x t) 1 0) 1
same_test x t e = grind (arith, nat_tests)

pub other_test : (x t : ℕ) → x ≢ t → ◌≡◌ {A = ℕ} (cond (eqb x t) 1 0) 0
other_test x t e = grind (arith, nat_tests)

-- one more item of the list falls
module _ (items old now : List ℕ) (by n : ℕ) (l : n < length items) (falls : (t : ℕ) → times_in items t * by ≤ get_or old t 0) (h : (t : ℕ) → get_or now t 0 + times_in (take n items) t * by ≡ get_or old t 0) where
  pub may_fall : by ≤ get_or now (get_or items n 0) 0
  may_fall =
      let t = get_or items n 0 in
      let e : times_in (take (n + 1) items) t * by ≡ times_in (take n items) t * by + by = ap (λ (m : ℕ). m * by) (times_more items n t l) ∙ one_more (times_in (take n items) t) by _ (same_test t t refl) in
      let m = mul-le-mul_left by (times_most items (n + 1) t) in
      omega (arith, e, m, falls t, h t)

  pub fallen_more : (x : ℕ) → get_or items n 0 < length now → x ≡ get_or now (get_or items n 0) 0 → (t : ℕ) → get_or (set now (get_or items n 0) (x - by)) t 0 + times_in (take (n + 1) items) t * by ≡ get_or old t 0
  fallen_more x r e t =
      let i = get_or items n 0 in
      elim (cases_eq t i) [
        | inl q ↦ (let s = ap (λ (m : ℕ). get_or (set now i (x - by)) m 0) q ∙ get_or-set_same now i (x - by) 0 r in
            let w = ap (λ (m : ℕ). get_or now m 0) q in
            let k = ap (λ (m : ℕ). m * by) (times_more items n t l) ∙ one_more (times_in (take n items) t) by _ (same_test i t (sym q)) in
            omega (arith, s, w, k, h t, may_fall))
        | inr q ↦ (let s = get_or-set_other now i t (x - by) 0 q in
            let k = ap (λ (m : ℕ). m * by) (times_more items n t l) ∙ no_more (times_in (take n items) t) by _ (other_test i t (λ z. q (sym z))) in
            omega (arith, s, k, h t))
      ]

-- the next bin of the list
module _ (p : Problem) (d : List ℕ) (cost : ℕ) (bins : List ℕ) (h : IsListed p d cost bins) (k : ℕ) (l : k < length bins) where
  pub turn_here : 0 < times_in (take (k + 1) bins) (get_or bins k 0)
  turn_here = omega (arith, times_more bins k (get_or bins k 0) l, same_test (get_or bins k 0) (get_or bins k 0) refl)

  pub turn_fresh : times_in (take k bins) (get_or bins k 0) ≡ 0
  turn_fresh = omega (arith, times_more bins k (get_or bins k 0) l, same_test (get_or bins k 0) (get_or bins k 0) refl, times_most bins (k + 1) (get_or bins k 0), h.once (get_or bins k 0))

  pub turn_there : (y : ℕ) → y ≢ get_or bins k 0 → times_in (take (k + 1) bins) y ≡ times_in (take k bins) y
  turn_there y q = omega (arith, times_more bins k y l, other_test (get_or bins k 0) y (λ z. q (sym z)))

  pub turn_range : get_or bins k 0 < bins_of p
  turn_range = h.in_range (get_or bins k 0) (omega (arith, turn_here, times_most bins (k + 1) (get_or bins k 0)))

module _ (ats : List (Option ℕ)) (us vs d : List ℕ) (cost : ℕ) where
  module _ (done done2 : List ℕ) (n : ℕ) (lower higher : List ℕ) (h : IsRepricing ats us vs d cost done lower higher) (fresh : times_in done n ≡ 0) (here : 0 < times_in done2 n) (there : (y : ℕ) → y ≢ n → times_in done2 y ≡ times_in done y) where
    left_apart : (y : ℕ) → times_in done2 y ≡ 0 → y ≢ n
    left_apart y k q = let e = ap (times_in done2) q in absurd (omega arith)

    -- the bin is no nearer than the cost
    pub repricing_far : cost ≤ get_or d n 0 → IsRepricing ats us vs d cost done2 lower higher
    repricing_far l = record {
      items = h.items;
      bins = h.bins;
      near = λ t y e k m. elim (cases_eq y n) [ inl q ↦ absurd (let i = ap (λ (j : ℕ). get_or d j 0) q in omega arith) | inr q ↦ h.near t y e (omega (arith, there y q)) m ];
      far = h.far;
      left = λ t y e k. h.left t y e (omega (arith, there y (left_apart y k)));
      out = h.out;
      near_bin = λ b k m. elim (cases_eq b n) [ inl q ↦ absurd (let i = ap (λ (j : ℕ). get_or d j 0) q in omega arith) | inr q ↦ h.near_bin b (omega (arith, there b q)) m ];
      far_bin = h.far_bin;
      left_bin = λ b k. h.left_bin b (omega (arith, there b (left_apart b k)));
    }

    module _ (by : ℕ) (lower2 higher2 : List ℕ) (lt : get_or d n 0 < cost) (in_range : n < length vs) (is : by ≡ cost - get_or d n 0) (lc : length lower2 ≡ length lower) (hs : higher2 ≡ set higher n (get_or higher n 0 + by)) (ls : (t : ℕ) → get_or lower2 t 0 + one_if (sits n (seat ats t)) * by ≡ get_or lower t 0) where
      fall_here : (t : ℕ) → seat ats t ≡ Some n → get_or lower2 t 0 + by ≡ get_or lower t 0
      fall_here t e = let q = ap (λ (m : ℕ). m * by) (sits_here n (seat ats t) e) in omega (arith, ls t, q)

      fall_there : (t y : ℕ) → seat ats t ≡ Some y → y ≢ n → get_or lower2 t 0 ≡ get_or lower t 0
      fall_there t y e m = let q = ap (λ (i : ℕ). i * by) (sits_there n y (seat ats t) m e) in omega (arith, ls t, q)

      fall_out : (t : ℕ) → seat ats t ≡ None → get_or lower2 t 0 ≡ get_or lower t 0
      fall_out t e = let q = ap (λ (i : ℕ). i * by) (sits_out n (seat ats t) e) in omega (arith, ls t, q)

      rise_here : get_or higher2 n 0 ≡ get_or higher n 0 + by
      rise_here = ap (λ (m : List ℕ). get_or m n 0) hs ∙ get_or-set_same higher n (get_or higher n 0 + by) 0 (omega (arith, h.bins))

      rise_there : (b : ℕ) → b ≢ n → get_or higher2 b 0 ≡ get_or higher b 0
      rise_there b q = ap (λ (m : List ℕ). get_or m b 0) hs ∙ get_or-set_other higher n b (get_or higher n 0 + by) 0 q

      near2 : (t y : ℕ) → seat ats t ≡ Some y → 0 < times_in done2 y → get_or d y 0 < cost → get_or lower2 t 0 + cost ≡ get_or us t 0 + get_or d y 0
      near2 t y e k m = elim (cases_eq y n) [
        | inl q ↦ (let i = ap (λ (j : ℕ). get_or d j 0) q in omega (arith, fall_here t (e ∙ ap Some q), h.left t y e (omega (arith, fresh, ap (times_in done) q)), i))
        | inr q ↦ omega (arith, fall_there t y e q, h.near t y e (omega (arith, there y q)) m)
      ]

      -- the bin and its items get their new prices
      pub repricing_near : IsRepricing ats us vs d cost done2 lower2 higher2
      repricing_near = record {
        items = lc ∙ h.items;
        bins = ap length hs ∙ length-set higher n (get_or higher n 0 + by) ∙ h.bins;
        near = near2;
        far = λ t y e m. elim (cases_eq y n) [ inl q ↦ absurd (let i = ap (λ (j : ℕ). get_or d j 0) q in omega arith) | inr q ↦ fall_there t y e q ∙ h.far t y e m ];
        left = λ t y e k. fall_there t y e (left_apart y k) ∙ h.left t y e (omega (arith, there y (left_apart y k)));
        out = λ t e. fall_out t e ∙ h.out t e;
        near_bin = λ b k m. elim (cases_eq b n) [
          | inl q ↦ (let i = ap (λ (j : ℕ). get_or d j 0) q in let j = ap (λ (x : ℕ). get_or higher2 x 0) q in let w = ap (λ (x : ℕ). get_or higher x 0) q in omega (arith, rise_here, h.left_bin b (omega (arith, fresh, ap (times_in done) q)), i, j, w))
          | inr q ↦ omega (arith, rise_there b q, h.near_bin b (omega (arith, there b q)) m)
        ];
        far_bin = λ b m. elim (cases_eq b n) [ inl q ↦ absurd (let i = ap (λ (j : ℕ). get_or d j 0) q in omega arith) | inr q ↦ rise_there b q ∙ h.far_bin b m ];
        left_bin = λ b k. rise_there b (left_apart b k) ∙ h.left_bin b (omega (arith, there b (left_apart b k)));
      }

module _ (p : Problem) (ats : List (Option ℕ)) (us vs : List ℕ) (s : ℕ) (d : List ℕ) (cost : ℕ) (valid : IsProblem p) (h : IsSound p ats us vs) (new : seat ats s ≡ None) (is_item : s < items_of p) (f : IsSearched p ats us vs s d cost) where
  -- a near bin is full, so it has an item, whose pair bounds the new price
  pub may_raise : (b : ℕ) → b < bins_of p → get_or d b 0 < cost → get_or vs b 0 + (cost - get_or d b 0) < 2 ^ 32
  may_raise b l n =
      let one = one_of b ats (omega (arith, f.full b l n, capacity-positive p b (omega arith))) in
      omega (arith, f.kept one.0 b one.1 n, h.tight one.0 b one.1, weight-small p valid one.0 b)

  -- the end of the price step
  pub repricing_ends : (done lower higher last : List ℕ) → ((b : ℕ) → b < bins_of p → get_or d b 0 < cost → 0 < times_in done b) → IsRepricing ats us vs d cost done lower higher → last ≡ set lower s (get_or lower s 0 - cost) → IsRepriced p ats us vs s d cost last higher
  repricing_ends done lower higher last l r e =
      let there = λ (t : ℕ) (q : t ≢ s). (let w : get_or last t 0 ≡ get_or lower t 0 = ap (λ (m : List ℕ). get_or m t 0) e ∙ get_or-set_other lower s t (get_or lower s 0 - cost) 0 q in w) in
      let here : get_or last s 0 ≡ get_or lower s 0 - cost = ap (λ (m : List ℕ). get_or m s 0) e ∙ get_or-set_same lower s (get_or lower s 0 - cost) 0 (omega (arith, r.items, h.items)) in
      let apart = λ (t y : ℕ) (k : seat ats t ≡ Some y). (let w : t ≢ s = λ q. none-some y (sym new ∙ ap (seat ats) (sym q) ∙ k) in w) in
      record {
        items = ap length e ∙ length-set lower s (get_or lower s 0 - cost) ∙ r.items ∙ h.items;
        bins = r.bins ∙ h.bins;
        new = omega (arith, here, r.out s new, f.least);
        near = λ t y k m. omega (arith, there t (apart t y k), r.near t y k (l y (allowed_bin p valid t y (h.allowed t y k)) m) m);
        far = λ t y k m. there t (apart t y k) ∙ r.far t y k m;
        out = λ t q k. there t q ∙ r.out t k;
        near_bin = λ b k m. r.near_bin b (l b k m) m;
        far_bin = λ b k m. r.far_bin b m;
      }

  -- the item that is left out has no price
  pub end_free : (lower higher : List ℕ) → IsRepriced p ats us vs s d cost lower higher → (end : End) → EndsAt p ats us s d cost end → EndFree lower s end
  end_free lower higher r Leave e = omega (arith, r.new)
  end_free lower higher r (Room y) e = tt
  end_free lower higher r (Uncover i y) e = elim (cases_lt (get_or d y 0) cost) [ inl n ↦ omega (arith, r.near i y e.0 n, e.1) | inr n ↦ omega (arith, r.far i y e.0 n, e.1) ]
