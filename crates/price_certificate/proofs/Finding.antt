-- What the loops that look for faults find.
use Rattle.std.proofs.Common.{◌≡◌, ◌+◌, ◌*◌, ◌<◌, ◌≤◌, ◌^◌, ◌&&◌, ℕ, suc, eqb, ltb, Bool, true, false, List, [], Some, None, inl, inr, length, get_or, take, refl, sym, ap, subst, ◌∙◌, arith}
use Rattle.std.proofs.Math.ListN.{set, length-set}
use Rattle.std.specs.Prelude.{replicate, not}
use Rattle.std.proofs.lemmas.List.{get_or-set_same, get_or-set_other, get_or-replicate, get_or_default, length-replicate}
use Rattle.std.specs.List.{list_any}
use Rattle.std.proofs.lemmas.List.Sums.{count_by-le-length, count_by_more_yes, count_by_more_no}
use Rattle.std.proofs.lemmas.Bool.{cases_eq, eq-eqb, ne_eqb, lt-leb, le-ltb}
use Rattle.std.proofs.Math.Nat.{mul-le-mul_left, mul_comm}
use Rattle.price_certificate.specs.Problem.{Problem, items_of, bins_of, row_of, capacity_of, weight_of}
use Rattle.price_certificate.specs.Assignment.{uses_of_bin}
use Rattle.price_certificate.specs.Certificate.{sum_below}
use Rattle.price_certificate.specs.Faults.{first_below, pair_at, is_allowed, stands_in, bin_at, repeat_fault, repeat_fault_at, number_fault, number_fault_at, reach_fault, reach_fault_at, limit_fault, limit_fault_at, row_fault, price_fault_at, IsCounted}
use Rattle.price_certificate.specs.declared.verdict.Fault.TheVariants.{BadNumber, ItemTwice, OutOfReach, OverLimit, PriceTooLow}
use Rattle.price_certificate.proofs.First.{first_found, unless_false}

and_false : (a b : Bool) → b ≡ false → (a && b) ≡ false
and_false true b e = e
and_false false b e = refl

pub found_bad_item : (p : Problem) (pairs : List (ℕ × ℕ)) (i : ℕ) → i < length pairs → first_below (number_fault_at p pairs) i ≡ None → items_of p ≤ (pair_at pairs i).0 → number_fault p pairs ≡ Some (BadNumber i)
unfolding number_fault
found_bad_item p pairs i l none h = first_found (number_fault_at p pairs) (length pairs) i (BadNumber i) l none
    (unless_false _ (BadNumber i) (ap (λ (b : Bool). b && ltb (pair_at pairs i).1 (bins_of p)) (le-ltb _ _ h)))

pub found_bad_bin : (p : Problem) (pairs : List (ℕ × ℕ)) (i : ℕ) → i < length pairs → first_below (number_fault_at p pairs) i ≡ None → bins_of p ≤ (pair_at pairs i).1 → number_fault p pairs ≡ Some (BadNumber i)
unfolding number_fault
found_bad_bin p pairs i l none h = first_found (number_fault_at p pairs) (length pairs) i (BadNumber i) l none
    (unless_false _ (BadNumber i) (and_false (ltb (pair_at pairs i).0 (items_of p)) _ (le-ltb _ _ h)))

pub found_out_of_reach : (p : Problem) (pairs : List (ℕ × ℕ)) (i : ℕ) → i < length pairs → first_below (reach_fault_at p pairs) i ≡ None → is_allowed p (pair_at pairs i).0 (pair_at pairs i).1 ≡ false → reach_fault p pairs ≡ Some (OutOfReach (pair_at pairs i).0 (pair_at pairs i).1)
unfolding reach_fault
found_out_of_reach p pairs i l none h = first_found (reach_fault_at p pairs) (length pairs) i _ l none (unless_false _ _ h)

pub found_over_limit : (p : Problem) (pairs : List (ℕ × ℕ)) (bin : ℕ) → bin < bins_of p → first_below (limit_fault_at p pairs) bin ≡ None → capacity_of p bin < uses_of_bin pairs bin → limit_fault p pairs ≡ Some (OverLimit bin)
unfolding limit_fault
found_over_limit p pairs bin l none h = first_found (limit_fault_at p pairs) (bins_of p) bin _ l none (unless_false _ _ (lt-leb _ _ h))

pub found_low_price : (p : Problem) (us vs : List ℕ) (item place : ℕ) → place < length (row_of p item) → first_below (price_fault_at p us vs item) place ≡ None → get_or us item 0 + get_or vs (bin_at p item place) 0 < weight_of p item (bin_at p item place) → row_fault p us vs item ≡ Some (PriceTooLow item (bin_at p item place))
unfolding row_fault
found_low_price p us vs item place l none h = first_found (price_fault_at p us vs item) (length (row_of p item)) place _ l none (unless_false _ _ (lt-leb _ _ h))

-- counting the pairs of each bin
pub counting_none : (bins : ℕ) (counts : List ℕ) → counts ≡ replicate bins 0 → IsCounted bins [] counts
counting_none bins counts e = record {
  each = ap (λ (xs : List ℕ). length xs) e ∙ length-replicate bins 0;
  uses = λ bin l. ap (λ (xs : List ℕ). get_or xs bin 0) e ∙ get_or-replicate bins bin 0 0 l;
}

counting_set : (bins : ℕ) (pairs : List (ℕ × ℕ)) (i : ℕ) (counts : List ℕ) (q : ℕ × ℕ) (n : ℕ) → IsCounted bins (take i pairs) counts → i < length pairs → get_or pairs i (0, 0) ≡ q → q.1 < bins → n ≡ get_or counts q.1 0 + 1 → IsCounted bins (take (i + 1) pairs) (set counts q.1 n)
counting_set bins pairs i counts q n h l e b n_is = record {
  each = length-set counts q.1 n ∙ h.each;
  uses = λ bin m. elim (cases_eq q.1 bin) [
    | inl s ↦ subst (λ (k : ℕ). get_or (set counts q.1 n) k 0 ≡ uses_of_bin (take (i + 1) pairs) k) s
        (get_or-set_same counts q.1 n 0 (omega (arith, h.each)) ∙ n_is ∙ ap (λ (k : ℕ). k + 1) (h.uses q.1 b) ∙ sym (count_by_more_yes (λ (r : ℕ × ℕ). eqb r.1 q.1) pairs i (0, 0) l (ap (λ (r : ℕ × ℕ). eqb r.1 q.1) e ∙ eq-eqb q.1 q.1 refl)))
    | inr d ↦ get_or-set_other counts q.1 bin n 0 (λ s. d (sym s)) ∙ h.uses bin m ∙ sym (count_by_more_no (λ (r : ℕ × ℕ). eqb r.1 bin) pairs i (0, 0) l (ap (λ (r : ℕ × ℕ). eqb r.1 bin) e ∙ ne_eqb q.1 bin d))
  ];
}

pub counting_more : (bins : ℕ) (pairs : List (ℕ × ℕ)) (i : ℕ) (counts more : List ℕ) (q : ℕ × ℕ) (n : ℕ) → IsCounted bins (take i pairs) counts → i < length pairs → get_or pairs i (0, 0) ≡ q → q.1 < bins → n ≡ get_or counts q.1 n → more ≡ set counts q.1 (n + 1) → IsCounted bins (take (i + 1) pairs) more
counting_more bins pairs i counts more q m h l e b read more_is =
    let n_is : m + 1 ≡ get_or counts q.1 0 + 1 = omega (arith, read, get_or_default counts q.1 m 0 (omega (arith, h.each))) in
    subst (λ (xs : List ℕ). IsCounted bins (take (i + 1) pairs) xs) (sym more_is) (counting_set bins pairs i counts q (m + 1) h l e b n_is)

pub counting_skip : (bins : ℕ) (pairs : List (ℕ × ℕ)) (i : ℕ) (counts more : List ℕ) (q : ℕ × ℕ) → IsCounted bins (take i pairs) counts → i < length pairs → get_or pairs i (0, 0) ≡ q → bins ≤ q.1 → more ≡ counts → IsCounted bins (take (i + 1) pairs) more
counting_skip bins pairs i counts more q h l e b more_is = record {
  each = ap (λ (xs : List ℕ). length xs) more_is ∙ h.each;
  uses = λ bin m. ap (λ (xs : List ℕ). get_or xs bin 0) more_is ∙ h.uses bin m ∙ sym (count_by_more_no (λ (r : ℕ × ℕ). eqb r.1 bin) pairs i (0, 0) l (ap (λ (r : ℕ × ℕ). eqb r.1 bin) e ∙ ne_eqb q.1 bin (omega arith)));
}

-- a count is at most the number of pairs so far
pub count_small : (bins : ℕ) (pairs : List (ℕ × ℕ)) (counts : List ℕ) (bin : ℕ) → IsCounted bins pairs counts → bin < bins → get_or counts bin 0 ≤ length pairs
count_small bins pairs counts bin h l = omega (arith, h.uses bin l, count_by-le-length (λ (r : ℕ × ℕ). eqb r.1 bin) pairs)

-- a bin's part of the value of the prices
pub part_small : (capacity price : ℕ) → capacity ≤ 16384 → price < 2 ^ 32 → capacity * price ≤ 70368744161280
part_small capacity price c q =
    let most : price ≤ 4294967295 = omega arith in
    let a = mul-le-mul_left capacity most in
    let b = mul-le-mul_left 4294967295 c in
    omega (arith, a, b, mul_comm capacity 4294967295)

pub found_item_twice : (pairs : List (ℕ × ℕ)) (i : ℕ) → i < length pairs → first_below (repeat_fault_at pairs) i ≡ None → stands_in (take i pairs) (pair_at pairs i).0 ≡ true → repeat_fault pairs ≡ Some (ItemTwice (pair_at pairs i).0)
unfolding repeat_fault
found_item_twice pairs i l none h = first_found (repeat_fault_at pairs) (length pairs) i _ l none (unless_false _ _ (ap (λ (b : Bool). not b) h))

-- what the mark of an item says
pub marked : (seen : List Bool) (items : ℕ) (pairs : List (ℕ × ℕ)) (item : ℕ) (mark : Bool) → length seen ≡ items → item < items → ((k : ℕ) → k < items → get_or seen k false ≡ stands_in pairs k) → mark ≡ get_or seen item mark → stands_in pairs item ≡ mark
marked seen items pairs item mark each l marks read = sym (marks item l) ∙ get_or_default seen item false mark (omega arith) ∙ sym read

-- whether the pair is allowed, as its row was read
pub allowed_as : (p : Problem) (row : List ℕ) (item bin : ℕ) (r : Bool) → row ≡ row_of p item → r ≡ list_any (λ (b : ℕ). eqb b bin) row → is_allowed p item bin ≡ r
allowed_as p row item bin r row_is r_is = ap (λ (xs : List ℕ). list_any (λ (b : ℕ). eqb b bin) xs) (sym row_is) ∙ sym r_is

-- the pair that is priced too low, as its row was read
pub low_as : (p : Problem) (us vs : List ℕ) (item place : ℕ) (row : List ℕ) → row ≡ row_of p item → place < length row → first_below (price_fault_at p us vs item) place ≡ None → get_or us item 0 + get_or vs (get_or row place 0) 0 < weight_of p item (get_or row place 0) → Some (PriceTooLow item (get_or row place 0)) ≡ row_fault p us vs item
low_as p us vs item place row row_is l none low =
    let read : get_or row place 0 ≡ bin_at p item place = ap (λ (xs : List ℕ). get_or xs place 0) row_is in
    ap (λ (b : ℕ). Some (PriceTooLow item b)) read ∙ sym (found_low_price p us vs item place (omega (arith, ap (λ (xs : List ℕ). length xs) row_is)) none
    (omega (arith, low, ap (λ (b : ℕ). get_or vs b 0) read, ap (λ (b : ℕ). weight_of p item b) read)))

pub value_more : (p : Problem) (vs : List ℕ) (bin value capacity : ℕ) → capacity ≡ capacity_of p bin → value ≡ sum_below (λ b. capacity_of p b * get_or vs b 0) bin → value + capacity * get_or vs bin 0 ≡ sum_below (λ b. capacity_of p b * get_or vs b 0) (bin + 1)
value_more p vs bin value capacity c_is v_is =
    let s : suc bin ≡ bin + 1 = omega arith in
    subst (λ (k : ℕ). value + capacity * get_or vs bin 0 ≡ sum_below (λ b. capacity_of p b * get_or vs b 0) k) s
    (ap (λ (v : ℕ). v + capacity * get_or vs bin 0) v_is ∙ ap (λ (c : ℕ). sum_below (λ b. capacity_of p b * get_or vs b 0) bin + c * get_or vs bin 0) c_is)
