-- What the loops count and add up.
use Rattle.std.proofs.Common.{◌≡◌, ◌≢◌, ◌+◌, ◌*◌, ◌<◌, ◌≤◌, ℕ, suc, cond, eqb, Bool, List, [], ◌∷◌, inl, inr, length, get_or, map, count_by, refl, sym, ap, subst, ◌∙◌, arith}
use Rattle.std.specs.Prelude.{replicate}
use Rattle.std.proofs.Math.ListN.{set, length-set}
use Rattle.std.proofs.lemmas.List.{get_or-set_same, get_or-set_other, get_or-replicate, get_or_default, length-replicate}
use Rattle.std.proofs.lemmas.List.Sums.{sum_by-cons}
use Rattle.std.proofs.lemmas.Bool.{cases_eq, eq-eqb, ne_eqb}
use Rattle.price_certificate.specs.Problem.{Problem, bins_of}
use Rattle.price_certificate.specs.Assignment.{uses_of_bin}
use Rattle.price_certificate.specs.Certificate.{sum_below}
use Rattle.price_certificate.specs.Faults.{IsCounted}
use Rattle.spread_certificate.specs.Loads.{group_of}
use Rattle.spread_certificate.specs.Even.{owner_of, owners_of}
use Rattle.spread_certificate.specs.EvenFaults.{AreLoads, AreRooms}
use Rattle.spread_certificate.proofs.Evenest.{group_below}
use Rattle.spread_certificate.proofs.EvenLemmas.{owner_in}

-- ---- loads

abbrev grouped : (ℕ → ℕ) → List (ℕ × ℕ) → List (ℕ × ℕ)
grouped f pairs = map (λ (q : ℕ × ℕ). (q.0, f q.1)) pairs

grouped_uses : (f : ℕ → ℕ) (pairs : List (ℕ × ℕ)) (group : ℕ) → uses_of_bin (grouped f pairs) group ≡ count_by (λ (q : ℕ × ℕ). eqb (f q.1) group) pairs
grouped_uses f [] group = refl
grouped_uses f (q ∷ pairs) group = omega (
  arith,
  grouped_uses f pairs group,
  sum_by-cons (λ (r : ℕ × ℕ). (let n : ℕ = cond (eqb r.1 group) 1 0 in n)) (q.0, f q.1) (grouped f pairs),
  sum_by-cons (λ (r : ℕ × ℕ). (let n : ℕ = cond (eqb (f r.1) group) 1 0 in n)) q pairs,
)

abbrev group_in : Problem → ℕ → ℕ → ℕ
group_in p jobs bin = group_of p (owner_of jobs) (owners_of p jobs) bin

pub loads_counted : (p : Problem) (jobs groups : ℕ) (pairs with_groups : List (ℕ × ℕ)) (counts : List ℕ) → groups ≡ owners_of p jobs + 1 → with_groups ≡ grouped (group_in p jobs) pairs → IsCounted groups with_groups counts → AreLoads p jobs pairs counts
loads_counted p jobs groups pairs with_groups counts g w h = record {
  each = h.each ∙ g;
  items = λ group l. h.uses group (omega arith) ∙ ap (λ (qs : List (ℕ × ℕ)). uses_of_bin qs group) w ∙ grouped_uses (group_in p jobs) pairs group;
}

-- ---- sums of caps

-- the sums over the bins below this one
pub record IsSummed (p : Problem) (jobs : ℕ) (caps sums : List ℕ) (bin : ℕ) : Type 0 where
  pub each : length sums ≡ owners_of p jobs + 1
  pub items : (group : ℕ) → group ≤ owners_of p jobs → get_or sums group 0 ≡ sum_below (λ b. cond (eqb (group_in p jobs b) group) (get_or caps b 0) 0) bin
  pub small : (group : ℕ) → group ≤ owners_of p jobs → get_or sums group 0 ≤ bin * 4294967295

pub sums_none : (p : Problem) (jobs groups : ℕ) (caps sums : List ℕ) → groups ≡ owners_of p jobs + 1 → sums ≡ replicate groups 0 → IsSummed p jobs caps sums 0
sums_none p jobs groups caps sums g e = record {
  each = ap (λ (xs : List ℕ). length xs) e ∙ length-replicate groups 0 ∙ g;
  items = λ group l. ap (λ (xs : List ℕ). get_or xs group 0) e ∙ get_or-replicate groups group 0 0 (omega arith);
  small = λ group l. (let zero_here : get_or sums group 0 ≡ 0 = ap (λ (xs : List ℕ). get_or xs group 0) e ∙ get_or-replicate groups group 0 0 (omega arith) in omega arith);
}

pub group_low : (p : Problem) (jobs bin : ℕ) → 0 < jobs → bin < bins_of p → group_in p jobs bin ≤ owners_of p jobs
group_low p jobs bin pos l = omega (arith, group_below p (owner_of jobs) (owners_of p jobs) bin (owner_in p jobs bin pos l))

yes_here : (k g cap : ℕ) → k ≡ g → cond (eqb k g) cap 0 ≡ cap
yes_here k g cap e = ap (λ (b : Bool). (let n : ℕ = cond b cap 0 in n)) (eq-eqb k g e)

not_here : (k g cap : ℕ) → k ≢ g → cond (eqb k g) cap 0 ≡ 0
not_here k g cap d = ap (λ (b : Bool). (let n : ℕ = cond b cap 0 in n)) (ne_eqb k g d)

set_sum : (sums : List ℕ) (k g n : ℕ) → k < length sums → g ≡ k → get_or (set sums k n) g 0 ≡ n
set_sum sums k g n l e = subst (λ (j : ℕ). get_or (set sums k n) j 0 ≡ n) (sym e) (get_or-set_same sums k n 0 l)

pub sums_more : (p : Problem) (jobs : ℕ) (caps sums more : List ℕ) (bin group old : ℕ) → IsSummed p jobs caps sums bin → group ≡ group_in p jobs bin → group ≤ owners_of p jobs → old ≡ get_or sums group old → more ≡ set sums group (old + get_or caps bin 0) → get_or caps bin 0 ≤ 4294967295
    → IsSummed p jobs caps more (bin + 1)
sums_more p jobs caps sums more bin group old h is_group low read is_more few =
    let before : old ≡ get_or sums group 0 = read ∙ get_or_default sums group old 0 (omega (arith, h.each)) in
    let part = λ (g k : ℕ). (let n : ℕ = sum_below (λ b. cond (eqb (group_in p jobs b) g) (get_or caps b 0) 0) k in n) in
    let at : (g : ℕ) → get_or more g 0 ≡ get_or (set sums group (old + get_or caps bin 0)) g 0 = λ g. ap (λ (xs : List ℕ). get_or xs g 0) is_more in
    let next : suc bin ≡ bin + 1 = omega arith in
    let P : ℕ → ℕ → Type 0 = λ (g k : ℕ). get_or more g 0 ≡ part g k in
    record {
      each = ap (λ (xs : List ℕ). length xs) is_more ∙ length-set sums group (old + get_or caps bin 0) ∙ h.each;
      items = λ g l. subst (λ (k : ℕ). P g k) next (elim (cases_eq g group) [
        | inl e ↦ omega (arith, at g, set_sum sums group g (old + get_or caps bin 0) (omega (arith, h.each)) e, before, h.items group low, ap (λ (k : ℕ). part k bin) e, yes_here (group_in p jobs bin) g (get_or caps bin 0) (sym is_group ∙ sym e))
        | inr d ↦ omega (arith, at g, get_or-set_other sums group g (old + get_or caps bin 0) 0 d, h.items g l, not_here (group_in p jobs bin) g (get_or caps bin 0) (λ e. d (sym e ∙ sym is_group)))
      ]);
      small = λ g l. elim (cases_eq g group) [
        | inl e ↦ omega (arith, at g, set_sum sums group g (old + get_or caps bin 0) (omega (arith, h.each)) e, before, h.small group low, few)
        | inr d ↦ omega (arith, at g, get_or-set_other sums group g (old + get_or caps bin 0) 0 d, h.small g l)
      ];
    }

pub rooms_summed : (p : Problem) (jobs bins : ℕ) (caps sums : List ℕ) → bins ≡ bins_of p → IsSummed p jobs caps sums bins → AreRooms p jobs caps sums
rooms_summed p jobs bins caps sums e h = record {
  each = h.each;
  items = λ group l. h.items group l ∙ ap (λ (n : ℕ). sum_below (λ b. cond (eqb (group_in p jobs b) group) (get_or caps b 0) 0) n) e;
}
