-- What is too great stays too great.
use Rattle.std.proofs.Common.{◌≡◌, ◌∙◌, ℕ, ◌+◌, ◌-◌, ◌*◌, ◌<◌, ◌≤◌, Bool, true, false, cond, List, [], ◌∷◌, length, drop, get_or, Some, None, sym, ap, arith}
use Rattle.std.proofs.lemmas.List.{at_drop_more}
use Rattle.service_settings.specs.Digits.{is_digit, number_from, up_to}

-- more digits make no smaller number
by_digit : (b : Bool) (n m k : ℕ) → n ≤ m → n ≤ k → n ≤ cond b m k
by_digit true n m k first second = first
by_digit false n m k first second = second

pub number_grows : (n : ℕ) (bs : List ℕ) → n ≤ number_from n bs
number_grows n [] = omega arith
number_grows n (b ∷ bs) =
    let rest : 10 * n + (b - 48) ≤ number_from (10 * n + (b - 48)) bs = number_grows (10 * n + (b - 48)) bs in
    by_digit (is_digit b) n (number_from (10 * n + (b - 48)) bs) n (omega (arith, rest)) (omega arith)

pub not_up_to : (most n : ℕ) → most < n → up_to most n ≡ None
not_up_to most n great = grind (arith, great)

pub is_great : (most n : ℕ) → up_to most n ≡ None → most < n
is_great most n none = grind (arith, none)

pub is_same : (most n m : ℕ) → up_to most n ≡ Some m → n ≡ m
is_same most n m some = grind (arith, some)

number_too_great : (most n : ℕ) (bs : List ℕ) → up_to most n ≡ None → up_to most (number_from n bs) ≡ None
number_too_great most n bs none = not_up_to most (number_from n bs) (omega (arith, is_great most n none, number_grows n bs))

-- a digit that makes the number too great
pub digit_too_great : (most : ℕ) (text : List ℕ) (i n : ℕ) → i < length text → is_digit (get_or text i 0) ≡ true → up_to most (10 * n + (get_or text i 0 - 48)) ≡ None → number_from n (drop i text) ≡ number_from 0 text → up_to most (number_from 0 text) ≡ None
digit_too_great most text i n less digit none read =
    let b = get_or text i 0 in
    let step : number_from n (drop i text) ≡ number_from (10 * n + (b - 48)) (drop (i + 1) text) = at_drop_more (number_from n) text i 0 less ∙ ap (λ c. cond c (number_from (10 * n + (b - 48)) (drop (i + 1) text)) n) digit in
    ap (up_to most) (sym read ∙ step) ∙ number_too_great most (10 * n + (b - 48)) (drop (i + 1) text) none
