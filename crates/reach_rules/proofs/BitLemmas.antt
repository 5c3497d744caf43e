-- Rows of bits: what is read of them, and what stays where words are added or a bit is put.
use Rattle.std.proofs.Common.{◌≡◌, ℕ, zero, suc, ◌+◌, ◌*◌, ◌/◌, ◌%◌, ◌<◌, ◌≤◌, Bool, false, List, [], ◌∷◌, ◌++◌, length, take, drop, get_or, refl, sym, ap, ◌∙◌, append_assoc, arith}
use Rattle.std.specs.Prelude.{◌==◌, replicate}
use Rattle.std.specs.Int.{bit_at}
use Rattle.std.proofs.lemmas.List.{append-nil, drop_all, get_or_past, take_all}
use Rattle.std.proofs.lemmas.List.FromFn.{fill_by_all, get_or-map-range_with_len, length-map-range_with_len, map-range_with_len_more}
use Rattle.std.proofs.lemmas.Nat.{div_below}
use Rattle.std.proofs.Math.Nat.{le-div_iff_mul-le, mod-lt}
use Rattle.reach_rules.specs.Bits.{bit_in, bits_below}

pub read_within : (words : List ℕ) (count n : ℕ) → n < count → get_or (bits_below words count) n false ≡ bit_in words n
read_within words count n less = get_or-map-range_with_len (bit_in words) 0 count n n false less (omega arith)

pub read_past : (words : List ℕ) (count n : ℕ) → count ≤ n → get_or (bits_below words count) n false ≡ false
read_past words count n over = get_or_past (bits_below words count) n false (omega (arith, length-map-range_with_len (bit_in words) 0 count))

-- rows of words that agree on each bit have the same bits
agree : (old new : List ℕ) (count : ℕ) → ((n : ℕ) → n < count → bit_in new n ≡ bit_in old n) → bits_below new count ≡ bits_below old count
agree old new count same =
    fill_by_all (bit_in old) (bits_below new count) count false (length-map-range_with_len (bit_in new) 0 count) (λ n less. read_within new count n less ∙ same n less)

-- words were added
pub bits_stay : (old new : List ℕ) (count : ℕ) → count ≤ 64 * length old → ((k : ℕ) → k < length old → get_or new k 0 ≡ get_or old k 0) → bits_below new count ≡ bits_below old count
bits_stay old new count within same =
    agree old new count (λ n less. ap (λ (word : ℕ). bit_at word (n % 64) == 1) (same (n / 64) (div_below n 64 (length old) (omega arith) (omega arith))))

-- the next bit was put
pub bits_pushed : (old new : List ℕ) (count : ℕ) (bit : Bool) → bit_in new count ≡ bit → ((n : ℕ) → n < count → bit_in new n ≡ bit_in old n) → bits_below new (count + 1) ≡ bits_below old count ++ bit ∷ []
bits_pushed old new count bit put same =
    map-range_with_len_more (bit_in new) 0 count count (omega arith) ∙ ap (λ (bits : List Bool). bits ++ bit_in new count ∷ []) (agree old new count same) ∙ ap (λ (b : Bool). bits_below old count ++ b ∷ []) put

-- the next bits were all put the same
pub bits_filled : (old new : List ℕ) (count more : ℕ) (bit : Bool) → ((n : ℕ) → count ≤ n → n < count + more → bit_in new n ≡ bit) → ((n : ℕ) → n < count → bit_in new n ≡ bit_in old n) → bits_below new (count + more) ≡ bits_below old count ++ replicate more bit
bits_filled old new count zero bit put same =
    let none : count + 0 ≡ count = omega arith in
    ap (λ (n : ℕ). bits_below new n) none ∙ agree old new count same ∙ sym (append-nil (bits_below old count))
bits_filled old new count (suc more) bit put same =
    let next : count + suc more ≡ count + 1 + more = omega arith in
    ap (λ (n : ℕ). bits_below new n) next
    ∙ bits_filled new new (count + 1) more bit (λ n least less. put n (omega (arith, least)) (omega (arith, less))) (λ n less. refl)
    ∙ ap (λ (bits : List Bool). bits ++ replicate more bit) (bits_pushed old new count bit (put count (omega arith) (omega arith)) same)
    ∙ append_assoc (bits_below old count) (bit ∷ []) (replicate more bit)

-- words that are the same have the same bits
pub same_words : (old new : List ℕ) (from n : ℕ) → n < 64 * from → ((k : ℕ) → k < from → get_or new k 0 ≡ get_or old k 0) → bit_in new n ≡ bit_in old n
same_words old new from n less same = ap (λ (word : ℕ). bit_at word (n % 64) == 1) (same (n / 64) (div_below n 64 from (omega arith) (omega arith)))

-- words with this bit at each place
pub full_words : (words : List ℕ) (from to word n : ℕ) (bit : Bool) → ((place : ℕ) → place < 64 → (bit_at word place == 1) ≡ bit) → 64 * from ≤ n → n < 64 * to → ((k : ℕ) → from ≤ k → k < to → get_or words k 0 ≡ word) → bit_in words n ≡ bit
full_words words from to word n bit full least less put =
    let within : from ≤ n / 64 = (le-div_iff_mul-le {k = 64} {x = from} {y = n} (omega arith)).1 (omega (arith, least)) in
    ap (λ (w : ℕ). bit_at w (n % 64) == 1) (put (n / 64) within (div_below n 64 to (omega arith) (omega arith))) ∙ full (n % 64) (mod-lt n (omega arith))

-- all items of a vector were written
pub written : (xs ys : List ℕ) (n : ℕ) → n ≡ length ys → length xs ≡ length ys → take n (xs ++ drop (length xs) ys) ≡ xs
written xs ys n is same =
    ap (λ (rest : List ℕ). take n (xs ++ rest)) (drop_all (length xs) ys (omega (arith, same))) ∙ ap (take n) (append-nil xs) ∙ take_all n xs (omega (arith, is, same))
