-- The lines that a text is cut into.
use Rattle.std.proofs.Common.{◌≡◌, ◌≢◌, ℕ, zero, suc, ◌<◌, cond, List, [], ◌∷◌, length, get_or, take, drop, true, false, Bool, ◌||◌, refl, ap, ◌∙◌, arith}
use Rattle.std.specs.Prelude.{◌==◌}
use Rattle.std.specs.List.{list_any, onto_first}
use Rattle.std.proofs.lemmas.Bool.{eq-eqb, ne_eqb}
use Rattle.sealed_lines.specs.Lines.{HasNoFeed, lines_in, with_line}

-- the first ends at the first line feed
pub lines_at : (xs : List ℕ) (i : ℕ) → i < length xs → get_or xs i 0 ≡ 10 → ((k : ℕ) → k < i → get_or xs k 0 ≢ 10) → lines_in xs ≡ take i xs ∷ lines_in (drop (suc i) xs)
lines_at [] i inside feed before = absurd (omega arith)
lines_at (b ∷ bs) zero inside feed before =
    ap (λ t. cond t ([] ∷ lines_in bs) (onto_first b (lines_in bs))) (eq-eqb b 10 feed)
lines_at (b ∷ bs) (suc i) inside feed before =
    ap (λ t. cond t ([] ∷ lines_in bs) (onto_first b (lines_in bs))) (ne_eqb b 10 (before 0 (omega arith)))
    ∙ ap (onto_first b) (lines_at bs i (omega arith) feed (λ k below. before (suc k) (omega arith)))

-- or at the end of the text
pub lines_whole : (xs : List ℕ) → ((k : ℕ) → k < length xs → get_or xs k 0 ≢ 10) → lines_in xs ≡ xs ∷ []
lines_whole [] none = refl
lines_whole (b ∷ bs) none =
    ap (λ t. cond t ([] ∷ lines_in bs) (onto_first b (lines_in bs))) (ne_eqb b 10 (none 0 (omega arith)))
    ∙ ap (onto_first b) (lines_whole bs (λ k below. none (suc k) (omega arith)))

pub or_false : (a b : Bool) → (a || b) ≡ false → (a ≡ false) × (b ≡ false)
or_false true b h = cc
or_false false b h = (refl, h)

-- a line ends at its line feed
pub line_ends : (line rest : List ℕ) → HasNoFeed line → lines_in (with_line line rest) ≡ line ∷ lines_in rest
line_ends [] rest absent = refl
line_ends (b ∷ bs) rest absent =
    let parts = or_false (b == 10) (list_any (λ x. x == 10) bs) absent in
    ap (λ (t : Bool). cond t ([] ∷ lines_in (with_line bs rest)) (onto_first b (lines_in (with_line bs rest)))) parts.0 ∙ ap (onto_first b) (line_ends bs rest parts.1)
