-- What the parts of a list have.
use Rattle.std.proofs.Common.{◌≡◌, ◌≢◌, ℕ, ◌+◌, ◌<◌, ◌≤◌, ◌||◌, Bool, true, false, List, [], ◌∷◌, ◌++◌, All, cond, count_by, refl, sym, ap, ◌∙◌, arith}
use Rattle.std.specs.Prelude.{filter, not}
use Rattle.std.specs.List.{list_any}
use Rattle.std.proofs.lemmas.List.Elements.{All-cons, All-head, All-nil, All-tail}
use Rattle.std.proofs.lemmas.List.Sums.{sum_by-cons}

pub filter_all : {X : Type 0} (test : X → Bool) (xs : List X) → All (λ x. test x ≡ true) xs → filter test xs ≡ xs
filter_all test [] all = refl
filter_all {X} test (x ∷ xs) all =
    let P : X → Type 0 = λ y. test y ≡ true in
    ap (λ (b : Bool). cond b (x ∷ filter test xs) (filter test xs)) (All-head P x xs all) ∙ ap (λ (ys : List X). x ∷ ys) (filter_all test xs (All-tail P x xs all))

pub filter_none : {X : Type 0} (test : X → Bool) (xs : List X) → All (λ x. test x ≡ false) xs → filter test xs ≡ []
filter_none test [] all = refl
filter_none {X} test (x ∷ xs) all =
    let P : X → Type 0 = λ y. test y ≡ false in
    ap (λ (b : Bool). cond b (x ∷ filter test xs) (filter test xs)) (All-head P x xs all) ∙ filter_none test xs (All-tail P x xs all)

twice : {X : Type 0} (b c : Bool) (x : X) (both one rest : List X) (test : X → Bool) → test x ≡ b → (b ≡ true → c ≡ true) → both ≡ filter test rest → filter test (cond c (x ∷ rest) rest) ≡ cond b (x ∷ both) both
twice true true x both one rest test t h e = ap (λ (b : Bool). cond b (x ∷ filter test rest) (filter test rest)) t ∙ ap (λ ys. x ∷ ys) (sym e)
twice true false x both one rest test t h e = let s : false ≡ true = h refl in cc
twice false true x both one rest test t h e = ap (λ (b : Bool). cond b (x ∷ filter test rest) (filter test rest)) t ∙ sym e
twice false false x both one rest test t h e = sym e

-- what passes a test passes it also of what passes a weaker one
pub filter_twice : {X : Type 0} (test weaker : X → Bool) → ((x : X) → test x ≡ true → weaker x ≡ true) → (xs : List X) → filter test (filter weaker xs) ≡ filter test xs
filter_twice test weaker h [] = refl
filter_twice test weaker h (x ∷ xs) = twice (test x) (weaker x) x (filter test xs) xs (filter weaker xs) test refl (h x) (sym (filter_twice test weaker h xs))

less_by : (b : Bool) (a n m : ℕ) (k : ℕ) → n ≤ m → cond b (a + n) n ≤ a + m
less_by true a n m k l = omega arith
less_by false a n m k l = omega arith

count_cond : {X : Type 0} (f : X → Bool) (b : Bool) (x : X) (xs : List X) → count_by f (cond b (x ∷ xs) xs) ≡ cond b (cond (f x) 1 0 + count_by f xs) (count_by f xs)
count_cond {X} f true x xs = sum_by-cons (λ (y : X). cond (f y) 1 0) x xs
count_cond f false x xs = refl

-- a part has no more that pass
pub count_filter-le : {X : Type 0} (f test : X → Bool) (xs : List X) → count_by f (filter test xs) ≤ count_by f xs
count_filter-le f test [] = omega arith
count_filter-le {X} f test (x ∷ xs) =
    let a : ℕ = cond (f x) 1 0 in
    let l = less_by (test x) a (count_by f (filter test xs)) (count_by f xs) 0 (count_filter-le f test xs) in
    omega (arith, l, count_cond f (test x) x (filter test xs), sum_by-cons (λ (y : X). cond (f y) 1 0) x xs)

same_by : (b c : Bool) (n m : ℕ) → (c ≡ true → b ≡ true) → n ≡ m → cond b (cond c 1 0 + n) n ≡ (let r : ℕ = cond c 1 0 in r) + m
same_by true c n m h e = ap (λ (k : ℕ). cond c 1 0 + k) e
same_by false true n m h e = let s : false ≡ true = h refl in cc
same_by false false n m h e = omega arith

-- a part has all that pass where what passes is of the part
pub count_filter-same : {X : Type 0} (f test : X → Bool) → ((x : X) → f x ≡ true → test x ≡ true) → (xs : List X) → count_by f (filter test xs) ≡ count_by f xs
count_filter-same f test h [] = refl
count_filter-same {X} f test h (x ∷ xs) =
    let e = same_by (test x) (f x) (count_by f (filter test xs)) (count_by f xs) (h x) (count_filter-same f test h xs) in
    count_cond f (test x) x (filter test xs) ∙ e ∙ sym (sum_by-cons (λ (y : X). cond (f y) 1 0) x xs)

any_by : (b c s r : Bool) → (c ≡ true → b ≡ true) → s ≡ r → cond b (c || s) s ≡ (c || r)
any_by true c s r h e = ap (λ (t : Bool). c || t) e
any_by false true s r h e = let f : false ≡ true = h refl in cc
any_by false false s r h e = e

any_cond : {X : Type 0} (f : X → Bool) (b : Bool) (x : X) (xs : List X) → list_any f (cond b (x ∷ xs) xs) ≡ cond b (f x || list_any f xs) (list_any f xs)
any_cond f true x xs = refl
any_cond f false x xs = refl

-- and so one passes in the part if one passes in all
pub any_filter-same : {X : Type 0} (f test : X → Bool) → ((x : X) → f x ≡ true → test x ≡ true) → (xs : List X) → list_any f (filter test xs) ≡ list_any f xs
any_filter-same f test h [] = refl
any_filter-same f test h (x ∷ xs) = any_cond f (test x) x (filter test xs) ∙ any_by (test x) (f x) (list_any f (filter test xs)) (list_any f xs) (h x) (any_filter-same f test h xs)

head_of : {X : Type 0} (P : X → Type 0) (b : Bool) (x : X) (xs : List X) → b ≡ true → All P (cond b (x ∷ xs) xs) → P x
head_of P true x xs e all = All-head P x xs all
head_of P false x xs e all = absurd (cc e)

tail_of : {X : Type 0} (P : X → Type 0) (b : Bool) (x : X) (xs : List X) → All P (cond b (x ∷ xs) xs) → All P xs
tail_of P true x xs all = All-tail P x xs all
tail_of P false x xs all = all

-- what holds in each part holds of all
pub all_of_parts : {X : Type 0} (P : X → Type 0) (test : ℕ → X → Bool) (part : X → ℕ) (n : ℕ) → ((x : X) → part x < n) → ((x : X) → test (part x) x ≡ true) → (xs : List X) → ((p : ℕ) → p < n → All P (filter (test p) xs)) → All P xs
all_of_parts P test part n parted passes [] each = All-nil P
all_of_parts P test part n parted passes (x ∷ xs) each =
    All-cons P x xs (head_of P (test (part x) x) x (filter (test (part x)) xs) (passes x) (each (part x) (parted x)))
    (all_of_parts P test part n parted passes xs (λ p l. tail_of P (test p x) x (filter (test p) xs) (each p l)))
