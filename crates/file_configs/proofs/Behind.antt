-- What stands behind the first byte of one value in a text.
use Rattle.std.proofs.Common.{◌≡◌, ◌<◌, ◌+◌, ℕ, suc, List, [], ◌∷◌, length, Bool, true, false, not, cond, drop, eqb, Some, None, add-one, add_comm, refl, sym, ap, ◌∙◌, arith}
use Rattle.std.specs.List.{position_or_len, after_first}
use Rattle.file_configs.specs.Patterns.{behind}

abbrev is_at : ℕ → ℕ → Bool
is_at at b = eqb b at

-- how far the first one is, by whether the first byte is one
abbrev suc_unless : Bool → ℕ → ℕ
suc_unless here n = cond (not here) (1 + n) 0

pub behind_first : (at : ℕ) (text : List ℕ) → position_or_len (is_at at) text < length text → behind at text ≡ Some (after_first (is_at at) text)
behind_first at [] lt = absurd (omega arith)
behind_first at (b ∷ bs) lt =
    elim (eqb b at) as (λ v. suc_unless v (position_or_len (is_at at) bs) < suc (length bs) → cond v (Some bs) (behind at bs) ≡ Some (drop (suc_unless v (position_or_len (is_at at) bs) + 1) (b ∷ bs))) [
      | true ↦ λ _. refl
      | false ↦ λ less. behind_first at bs (omega arith) ∙ ap Some (sym (rw (add_comm 1 (position_or_len (is_at at) bs)) (simp add-one)))
    ] lt

pub behind_none : (at : ℕ) (text : List ℕ) → position_or_len (is_at at) text ≡ length text → behind at text ≡ None
behind_none at [] e = refl
behind_none at (b ∷ bs) e =
    elim (eqb b at) as (λ v. suc_unless v (position_or_len (is_at at) bs) ≡ suc (length bs) → cond v (Some bs) (behind at bs) ≡ None) [
      | true ↦ λ zero_is. absurd (omega arith)
      | false ↦ λ same. behind_none at bs (omega arith)
    ] e
