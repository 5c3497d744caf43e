-- The lists of the bins' items, as one item moves.
use Rattle.std.proofs.Common.{◌≡◌, ◌+◌, ◌<◌, ◌≢◌, eqb, cond, ℕ, List, [], ◌∷◌, ◌++◌, Option, Some, None, inl, inr, count_by, length, get_or, set, zero, suc, replicate, refl, sym, ap, ◌∙◌, subst, arith}
use Rattle.std.specs.Option.{is_none}
use Rattle.std.proofs.lemmas.Bool.{cases_eq, cases_lt}
use Rattle.std.proofs.lemmas.Bool.Decides.{nat_tests}
use Rattle.std.proofs.lemmas.List.{get_or_past, get_or-set_same, get_or-set_other, length_push, get_or-replicate, length-replicate}
use Rattle.std.proofs.lemmas.List.Sums.{sum_by_push, sum_by-cons}
use Rattle.assign_engine.specs.Usable.{one_if}
use Rattle.assign_engine.specs.Seats.{sits, seat, used}
use Rattle.assign_engine.specs.Roll.{times_in, roll_of, share_of, IsRoll}
use Rattle.assign_engine.proofs.Walking.{used-set}

share-same : (o : Option ℕ) (item b t : ℕ) → item ≡ t → share_of o item b t ≡ one_if (sits b o)
share-same o item b t e = grind (arith, nat_tests)

share-other : (o : Option ℕ) (item b t : ℕ) → item ≢ t → share_of o item b t ≡ 0
share-other o item b t e = grind (arith, nat_tests)

share-there : (item b t : ℕ) → share_of (Some b) item b t ≡ cond (eqb item t) 1 0
share-there item b t = grind (arith, nat_tests)

share-elsewhere : (c item b t : ℕ) → c ≢ b → share_of (Some c) item b t ≡ 0
share-elsewhere c item b t d = grind (arith, nat_tests)

pub one-there : (b : ℕ) → one_if (sits b (Some b)) ≡ 1
one-there b = grind (arith, nat_tests)

one-elsewhere : (c b : ℕ) → c ≢ b → one_if (sits b (Some c)) ≡ 0
one-elsewhere c b d = grind (arith, nat_tests)

-- the times in the list of one bin that changed
pub times-set : (rolls : List (List ℕ)) (bin : ℕ) (roll : List ℕ) (item : ℕ) → bin < length rolls → (gain loss : Option ℕ)
    → ((t : ℕ) → times_in roll t + share_of loss item bin t ≡ times_in (roll_of rolls bin) t + share_of gain item bin t)
    → ((b t : ℕ) → b ≢ bin → share_of loss item b t ≡ share_of gain item b t)
    → (b t : ℕ) → times_in (roll_of (set rolls bin roll) b) t + share_of loss item b t ≡ times_in (roll_of rolls b) t + share_of gain item b t
times-set rolls bin roll item l gain loss here there b t = elim (cases_eq b bin) [
  | inl q ↦ subst (λ (m : ℕ). times_in (roll_of (set rolls bin roll) m) t + share_of loss item m t ≡ times_in (roll_of rolls m) t + share_of gain item m t) (sym q)
      (let e = ap (λ (r : List ℕ). times_in r t) (get_or-set_same rolls bin roll [] l) in omega (arith, e, here t))
  | inr d ↦ (let e = ap (λ (r : List ℕ). times_in r t) (get_or-set_other rolls bin b roll [] d) in omega (arith, e, there b t d))
]

none_there : (b t item : ℕ) → share_of None item b t ≡ 0
none_there b t item = grind (arith, nat_tests)

turned : (a b : ℕ) → a ≢ b → b ≢ a
turned a b d = λ q. d (sym q)

pub times-add : (rolls : List (List ℕ)) (bin item : ℕ) → bin < length rolls → (b t : ℕ) → times_in (roll_of (set rolls bin (roll_of rolls bin ++ item ∷ [])) b) t ≡ times_in (roll_of rolls b) t + share_of (Some bin) item b t
times-add rolls bin item l b t =
    let r = times-set rolls bin (roll_of rolls bin ++ item ∷ []) item l (Some bin) None
    (λ u. (let p = sum_by_push (λ (x : ℕ). (let n : ℕ = cond (eqb x u) 1 0 in n)) (roll_of rolls bin) item in omega (arith, p, share-there item bin u, none_there bin u item)))
    (λ c u d. omega (arith, none_there c u item, share-elsewhere bin item c u (turned c bin d))) b t in
    omega (arith, r, none_there b t item)

pub sizes-add : (rolls : List (List ℕ)) (bin item : ℕ) → bin < length rolls → (b : ℕ) → length (roll_of (set rolls bin (roll_of rolls bin ++ item ∷ [])) b) ≡ length (roll_of rolls b) + one_if (sits b (Some bin))
sizes-add rolls bin item l b = elim (cases_eq b bin) [
  | inl q ↦ subst (λ (m : ℕ). length (roll_of (set rolls bin (roll_of rolls bin ++ item ∷ [])) m) ≡ length (roll_of rolls m) + one_if (sits m (Some bin))) (sym q)
      (let e = ap length (get_or-set_same rolls bin (roll_of rolls bin ++ item ∷ []) [] l) in omega (arith, e, length_push (roll_of rolls bin) item, one-there bin))
  | inr d ↦ (let e = ap length (get_or-set_other rolls bin b (roll_of rolls bin ++ item ∷ []) [] d) in omega (arith, e, one-elsewhere bin b (turned b bin d)))
]

-- an item stands in no list but those of the bins
pub is_bin_listed : (rolls : List (List ℕ)) (bin item : ℕ) → 0 < times_in (roll_of rolls bin) item → bin < length rolls
is_bin_listed rolls bin item l = elim (cases_lt bin (length rolls)) [ inl k ↦ k | inr g ↦ absurd (let e = ap (λ (r : List ℕ). times_in r item) (get_or_past rolls bin [] g) in omega arith) ]

-- the item of a seat is in the list of its bin
pub is_listed : (seats : List (Option ℕ)) (rolls : List (List ℕ)) → IsRoll seats rolls → (item bin : ℕ) → seat seats item ≡ Some bin → 0 < times_in (roll_of rolls bin) item
is_listed seats rolls h item bin e =
    let q : one_if (sits bin (seat seats item)) ≡ one_if (sits bin (Some bin)) = ap (λ (o : Option ℕ). one_if (sits bin o)) e in
    omega (arith, h.each bin item, q, one-there bin)

-- an item that stood in a list still stands there once another list has it too
pub times_kept : (rolls new : List (List ℕ)) (bin item from : ℕ) → bin < length rolls → new ≡ set rolls bin (roll_of rolls bin ++ item ∷ []) → 0 < times_in (roll_of rolls from) item → 0 < times_in (roll_of new from) item
times_kept rolls new bin item from l e h =
    let t = times-add rolls bin item l from item in
    subst (λ (m : List (List ℕ)). 0 < times_in (roll_of m from) item) (sym e) (omega arith)

-- what an item adds to the list of its new bin and takes from that of its old one
pub times_moved : (rolls one new : List (List ℕ)) (bin item : ℕ) (o o2 : Option ℕ) → bin < length rolls → one ≡ set rolls bin (roll_of rolls bin ++ item ∷ []) → o2 ≡ o
    → ((b t : ℕ) → times_in (roll_of new b) t + share_of o2 item b t ≡ times_in (roll_of one b) t)
    → (b t : ℕ) → times_in (roll_of new b) t + share_of o item b t ≡ times_in (roll_of rolls b) t + share_of (Some bin) item b t
times_moved rolls one new bin item o o2 l e s h b t =
    let a = times-add rolls bin item l b t in
    let n = ap (λ (m : List (List ℕ)). times_in (roll_of m b) t) e in
    let w = ap (λ (x : Option ℕ). share_of x item b t) s in
    omega (arith, a, n, w, h b t)

pub sizes_moved : (rolls one new : List (List ℕ)) (bin item : ℕ) (o o2 : Option ℕ) → bin < length rolls → one ≡ set rolls bin (roll_of rolls bin ++ item ∷ []) → o2 ≡ o
    → ((b : ℕ) → length (roll_of new b) + one_if (sits b o2) ≡ length (roll_of one b))
    → (b : ℕ) → length (roll_of new b) + one_if (sits b o) ≡ length (roll_of rolls b) + one_if (sits b (Some bin))
sizes_moved rolls one new bin item o o2 l e s h b =
    let a = sizes-add rolls bin item l b in
    let n = ap (λ (m : List (List ℕ)). length (roll_of m b)) e in
    let w = ap (λ (x : Option ℕ). one_if (sits b x)) s in
    omega (arith, a, n, w, h b)

pub times_left : (rolls new : List (List ℕ)) (item : ℕ) (o o2 : Option ℕ) → o2 ≡ o
    → ((b t : ℕ) → times_in (roll_of new b) t + share_of o2 item b t ≡ times_in (roll_of rolls b) t)
    → (b t : ℕ) → times_in (roll_of new b) t + share_of o item b t ≡ times_in (roll_of rolls b) t + share_of None item b t
times_left rolls new item o o2 s h b t =
    let w = ap (λ (x : Option ℕ). share_of x item b t) s in
    omega (arith, w, h b t, none_there b t item)

pub sizes_left : (rolls new : List (List ℕ)) (o o2 : Option ℕ) → o2 ≡ o
    → ((b : ℕ) → length (roll_of new b) + one_if (sits b o2) ≡ length (roll_of rolls b))
    → (b : ℕ) → length (roll_of new b) + one_if (sits b o) ≡ length (roll_of rolls b) + one_if (sits b None)
sizes_left rolls new o o2 s h b =
    let w = ap (λ (x : Option ℕ). one_if (sits b x)) s in
    omega (arith, w, h b)

-- one item's seat changed, and so did the lists
pub roll-moved : (seats : List (Option ℕ)) (rolls new : List (List ℕ)) (item : ℕ) (o : Option ℕ) → IsRoll seats rolls → item < length seats
    → ((b t : ℕ) → times_in (roll_of new b) t + share_of (seat seats item) item b t ≡ times_in (roll_of rolls b) t + share_of o item b t)
    → ((b : ℕ) → length (roll_of new b) + one_if (sits b (seat seats item)) ≡ length (roll_of rolls b) + one_if (sits b o))
    → IsRoll (set seats item o) new
roll-moved seats rolls new item o h l times sizes = record {
  each = λ b t. elim (cases_eq item t) [
    | inl q ↦ (let s : one_if (sits b (seat (set seats item o) t)) ≡ one_if (sits b o) = ap (λ (m : ℕ). one_if (sits b (seat (set seats item o) m))) (sym q) ∙ ap (λ (x : Option ℕ). one_if (sits b x)) (get_or-set_same seats item o None l) in
        let w : one_if (sits b (seat seats t)) ≡ one_if (sits b (seat seats item)) = ap (λ (m : ℕ). one_if (sits b (seat seats m))) (sym q) in
        omega (arith, times b t, h.each b t, share-same o item b t q, share-same (seat seats item) item b t q, s, w))
    | inr d ↦ (let s : one_if (sits b (seat (set seats item o) t)) ≡ one_if (sits b (seat seats t)) = ap (λ (x : Option ℕ). one_if (sits b x)) (get_or-set_other seats item t o None (turned item t d)) in
        omega (arith, times b t, h.each b t, share-other o item b t d, share-other (seat seats item) item b t d, s))
  ];
  sizes = λ b. omega (arith, sizes b, h.sizes b, used-set seats item b o l);
}

pub seat_none : (n t : ℕ) → seat (replicate n None) t ≡ None
seat_none n t = elim (cases_lt t n) [
  | inl l ↦ get_or-replicate n t None None l
  | inr g ↦ get_or_past (replicate n None) t None (omega (arith, length-replicate {A = Option ℕ} n None))
]

pub used_none : (n b : ℕ) → used (replicate n None) b ≡ 0
used_none zero b = refl
used_none (suc n) b = omega (arith, used_none n b, sum_by-cons (λ (o : Option ℕ). (let m : ℕ = cond (sits b o) 1 0 in m)) None (replicate n None))

pub none_none : (n : ℕ) → count_by (is_none {T = ℕ}) (replicate n None) ≡ n
none_none zero = refl
none_none (suc n) = omega (arith, none_none n, sum_by-cons (λ (o : Option ℕ). (let m : ℕ = cond (is_none o) 1 0 in m)) None (replicate n None))

times-cons : (x t : ℕ) (items : List ℕ) → times_in (x ∷ items) t ≡ cond (eqb x t) 1 0 + times_in items t
times-cons x t items = sum_by-cons (λ (y : ℕ). (let n : ℕ = cond (eqb y t) 1 0 in n)) x items

first_or_later : (x t n m : ℕ) → m ≡ cond (eqb x t) 1 0 + n → x ≢ t → 0 < m → 0 < n
first_or_later x t n m e d l = grind (arith, nat_tests)

listed_first : (x t n m : ℕ) → m ≡ cond (eqb x t) 1 0 + n → x ≡ t → 0 < m
listed_first x t n m e d = grind (arith, nat_tests)

-- an item that is listed stands at some place
pub times_place : (items : List ℕ) (t : ℕ) → 0 < times_in items t → (k : ℕ) × (k < length items) × (get_or items k 0 ≡ t)
times_place [] t l = absurd (omega arith)
times_place (x ∷ items) t l = elim (cases_eq x t) [
  | inl q ↦ (0, omega arith, q)
  | inr d ↦ (let r = times_place items t (first_or_later x t _ _ (times-cons x t items) d l) in (suc r.0, omega (arith, r.1), r.2))
]

-- what stands at some place is listed
pub times_at : (items : List ℕ) (k : ℕ) → k < length items → 0 < times_in items (get_or items k 0)
times_at [] k l = absurd (omega arith)
times_at (x ∷ items) zero l = listed_first x x _ _ (times-cons x x items) refl
times_at (x ∷ items) (suc k) l = (let r = times_at items k (omega arith) in omega (arith, r, times-cons x (get_or items k 0) items))

pub sat : (b : ℕ) (o : Option ℕ) → 0 < one_if (sits b o) → o ≡ Some b
sat b None l = absurd (omega arith)
sat b (Some c) l = elim (cases_eq c b) [ inl q ↦ ap Some q | inr d ↦ absurd (omega (arith, one-elsewhere c b d)) ]

-- each member of a bin sits in it
pub member_seat : (ats : List (Option ℕ)) (items : List ℕ) (y k : ℕ) → ((t : ℕ) → times_in items t ≡ one_if (sits y (seat ats t))) → k < length items → seat ats (get_or items k 0) ≡ Some y
member_seat ats items y k each l = sat y (seat ats (get_or items k 0)) (omega (arith, times_at items k l, each (get_or items k 0)))
