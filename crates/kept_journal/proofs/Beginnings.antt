-- Beginnings of a list, by their lengths.
use Rattle.std.proofs.Common.{◌≡◌, ◌≤◌, ◌+◌, ℕ, List, ◌++◌, length, ap, sym, subst, ◌∙◌, arith, take, drop, take-append-drop, append_assoc}
use Rattle.std.proofs.lemmas.List.{length-append, length-take-le, take-append-le}
use Rattle.std.proofs.Math.Seq.{take-append_seam}
use mathlib.Core.List.{IsPrefix}
use Rattle.alloc_desk.proofs.Prefixes.{prefix_shorter, prefix_length}

-- so many of the first of a list begin it
pub taken_begins : {A : Type 0} (n : ℕ) (xs : List A) → IsPrefix (take n xs) xs
taken_begins n xs = (drop n xs, take-append-drop n xs)

pub begins_trans : {A : Type 0} (xs ys zs : List A) → IsPrefix xs ys → IsPrefix ys zs → IsPrefix xs zs
begins_trans {A = A} xs ys zs p q = (p.0 ++ q.0, sym (append_assoc xs p.0 q.0) ∙ ap (λ (l : List A). l ++ q.0) p.1 ∙ q.1)

-- a beginning is as many of the first as it has
pub taken_is : {A : Type 0} (xs ys : List A) → IsPrefix xs ys → take (length xs) ys ≡ xs
taken_is xs ys p = ap (take (length xs)) (sym p.1) ∙ take-append_seam xs p.0

-- the first of a longer list are the same
pub taken_same : {A : Type 0} (n : ℕ) (xs ys : List A) → IsPrefix xs ys → n ≤ length xs → take n ys ≡ take n xs
taken_same n xs ys p le = ap (take n) (sym p.1) ∙ take-append-le n xs p.0 le

-- the first of a list, and those that come next
pub next_begins : {A : Type 0} (n m : ℕ) (xs : List A) → IsPrefix (take n xs ++ take m (drop n xs)) xs
next_begins {A = A} n m xs =
    (drop m (drop n xs), append_assoc (take n xs) (take m (drop n xs)) (drop m (drop n xs)) ∙ ap (λ (l : List A). take n xs ++ l) (take-append-drop m (drop n xs)) ∙ take-append-drop n xs)

-- what begins a list begins so many of the first of it exactly if it is not longer
pub begins_taken : {A : Type 0} (n : ℕ) (xs ys : List A) → IsPrefix xs ys → n ≤ length ys → length xs ≤ n → IsPrefix xs (take n ys)
begins_taken n xs ys p le short = prefix_shorter xs (take n ys) ys p (taken_begins n ys) (subst (λ (m : ℕ). length xs ≤ m) (sym (length-take-le n ys le)) short)

pub taken_is_longer : {A : Type 0} (n : ℕ) (xs ys : List A) → n ≤ length ys → IsPrefix xs (take n ys) → length xs ≤ n
taken_is_longer n xs ys le p = subst (λ (m : ℕ). length xs ≤ m) (length-take-le n ys le) (prefix_length xs (take n ys) p)

-- where more was seen, so many of the first are the same
pub more_seen : {A : Type 0} (n : ℕ) (old new : List A) → n ≤ length old → IsPrefix old new → n ≤ length new
more_seen n old new le p = omega (arith, le, prefix_length old new p)

-- the first of a list and those that come next are no more than it has, and are as many of the first
pub next_fit : {A : Type 0} (n m : ℕ) (seen these : List A) → n ≤ length seen → m ≡ length these → IsPrefix (take n seen ++ these) seen → n + m ≤ length seen
next_fit n m seen these le count p =
    omega (arith, prefix_length (take n seen ++ these) seen p, length-append (take n seen) these, length-take-le n seen le, count)

pub next_taken : {A : Type 0} (n m : ℕ) (seen these : List A) → n ≤ length seen → m ≡ length these → IsPrefix (take n seen ++ these) seen → take (n + m) seen ≡ take n seen ++ these
next_taken {A = A} n m seen these le count p =
    let long : length (take n seen ++ these) ≡ n + m = omega (arith, length-append (take n seen) these, length-take-le n seen le, count) in
    subst (λ (k : ℕ). take k seen ≡ take n seen ++ these) long (taken_is (take n seen ++ these) seen p)
