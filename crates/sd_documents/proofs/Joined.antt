-- Texts joined by a byte: the first, and the others each after a comma.
use Rattle.std.proofs.Common.{◌≡◌, List, ℕ, [], ◌∷◌, ◌++◌, sym, ap}
use Rattle.std.proofs.lemmas.List.{append-nil}
use Rattle.std.specs.List.{join_with_byte}
use Rattle.sd_documents.specs.Written.{list_text}
use Rattle.sd_documents.specs.inner.Commas.{after_commas}

pub join_with_byte-cons : (x : List ℕ) (xs : List (List ℕ)) → join_with_byte 44 (x ∷ xs) ≡ x ++ after_commas xs
join_with_byte-cons x [] = sym (append-nil x)
join_with_byte-cons x (y ∷ xs) = ap (λ (t : List ℕ). x ++ (44 ∷ t)) (join_with_byte-cons y xs)

-- the text, written piece by piece
pub list_text-pieces : (texts : List (List ℕ)) (x : List ℕ) (xs : List (List ℕ)) (y b0 b1 b2 b3 : List ℕ) → texts ≡ x ∷ xs → y ≡ x → b0 ≡ 91 ∷ [] → b1 ≡ b0 ++ y → b2 ≡ b1 ++ after_commas xs → b3 ≡ b2 ++ 93 ∷ [] → b3 ≡ list_text texts
list_text-pieces texts x xs y b0 b1 b2 b3 split same start first others end = rw (split, end, others, first, start, same, join_with_byte-cons x xs)
