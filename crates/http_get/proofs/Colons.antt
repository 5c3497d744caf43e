-- What stands before and behind the first colon of a text.
use Rattle.std.proofs.Common.{◌≡◌, ◌<◌, ◌+◌, ℕ, suc, List, [], ◌∷◌, length, Bool, true, false, not, cond, drop, eqb, Some, None, add-one, add_comm, refl, sym, ap, ◌∙◌, arith}
use Rattle.std.specs.List.{position_or_len, after_first}
use Rattle.http_get.specs.Addresses.{behind_colon}

abbrev is_colon : ℕ → Bool
is_colon b = eqb b 58

-- how far the first colon is, by whether the first byte is one
abbrev suc_unless : Bool → ℕ → ℕ
suc_unless colon n = cond (not colon) (1 + n) 0

pub behind_first : (text : List ℕ) → position_or_len is_colon text < length text → behind_colon text ≡ Some (after_first is_colon text)
behind_first [] lt = absurd (omega arith)
behind_first (b ∷ bs) lt =
    elim (eqb b 58) as (λ v. suc_unless v (position_or_len is_colon bs) < suc (length bs) → cond v (Some bs) (behind_colon bs) ≡ Some (drop (suc_unless v (position_or_len is_colon bs) + 1) (b ∷ bs))) [
      | true ↦ λ _. refl
      | false ↦ λ less. behind_first bs (omega arith) ∙ ap Some (sym (rw (add_comm 1 (position_or_len is_colon bs)) (simp add-one)))
    ] lt

pub behind_none : (text : List ℕ) → position_or_len is_colon text ≡ length text → behind_colon text ≡ None
behind_none [] e = refl
behind_none (b ∷ bs) e =
    elim (eqb b 58) as (λ v. suc_unless v (position_or_len is_colon bs) ≡ suc (length bs) → cond v (Some bs) (behind_colon bs) ≡ None) [
      | true ↦ λ zero_is. absurd (omega arith)
      | false ↦ λ same. behind_none bs (omega arith)
    ] e
