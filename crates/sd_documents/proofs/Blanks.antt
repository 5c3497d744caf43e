-- What is left of a text without the blanks at its end, byte by byte from the end.
use Rattle.std.proofs.Common.{◌≡◌, ℕ, ◌+◌, ◌-◌, ◌≤◌, List, [], ◌∷◌, ◌++◌, length, get_or, take, Bool, true, false, ◌&&◌, refl, sym, ◌∙◌, ap, arith, take_all}
use Rattle.std.proofs.lemmas.List.{take_more}
use Rattle.std.specs.List.{list_all}
use Rattle.std.proofs.lemmas.List.Folds.{list_all-append}
use Rattle.sd_documents.specs.Media.{is_blank, up_to_blanks}

and-true : (a : Bool) → (a && true) ≡ a
and-true true = refl
and-true false = refl

and-false : (a : Bool) → (a && false) ≡ false
and-false true = refl
and-false false = refl

all_with_blank : (bs : List ℕ) (b : ℕ) → is_blank b ≡ true → list_all is_blank (bs ++ b ∷ []) ≡ list_all is_blank bs
all_with_blank bs b blank = list_all-append is_blank bs (b ∷ []) ∙ rw blank (and-true (list_all is_blank bs))

all_with_other : (bs : List ℕ) (b : ℕ) → is_blank b ≡ false → list_all is_blank (bs ++ b ∷ []) ≡ false
all_with_other bs b other = list_all-append is_blank bs (b ∷ []) ∙ rw other (and-false (list_all is_blank bs))

up_to_blanks-blank : (bs : List ℕ) (b : ℕ) → is_blank b ≡ true → up_to_blanks (bs ++ b ∷ []) ≡ up_to_blanks bs
up_to_blanks-blank [] b blank = rw blank
up_to_blanks-blank (x ∷ bs) b blank = rw (all_with_blank bs b blank, up_to_blanks-blank bs b blank)

up_to_blanks-other : (bs : List ℕ) (b : ℕ) → is_blank b ≡ false → up_to_blanks (bs ++ b ∷ []) ≡ bs ++ b ∷ []
up_to_blanks-other [] b other = rw other
up_to_blanks-other (x ∷ bs) b other = rw (all_with_other bs b other, and-false (is_blank x), up_to_blanks-other bs b other)

split_last : (rest : List ℕ) (d : ℕ) → 1 ≤ length rest → rest ≡ take (length rest - 1) rest ++ get_or rest (length rest - 1) d ∷ []
split_last rest d more = sym (take_all (length rest - 1 + 1) rest (omega arith)) ∙ take_more rest (length rest - 1) d (omega arith)

pub ends_with_other : (rest : List ℕ) (d : ℕ) → 1 ≤ length rest → is_blank (get_or rest (length rest - 1) d) ≡ false → rest ≡ up_to_blanks rest
ends_with_other rest d more other =
    let split = split_last rest d more in
    split ∙ sym (up_to_blanks-other (take (length rest - 1) rest) (get_or rest (length rest - 1) d) other) ∙ ap up_to_blanks (sym split)

pub ends_with_blank : (rest : List ℕ) (d : ℕ) → 1 ≤ length rest → is_blank (get_or rest (length rest - 1) d) ≡ true → up_to_blanks (take (length rest - 1) rest) ≡ up_to_blanks rest
ends_with_blank rest d more blank =
    sym (up_to_blanks-blank (take (length rest - 1) rest) (get_or rest (length rest - 1) d) blank) ∙ ap up_to_blanks (sym (split_last rest d more))
