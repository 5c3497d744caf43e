-- The first of the lines that a text is cut into.
use Rattle.std.proofs.Common.{◌≡◌, ◌≢◌, ℕ, zero, suc, ◌<◌, cond, List, [], ◌∷◌, length, get_or, take, drop, refl, ap, ◌∙◌, arith}
use Rattle.std.specs.List.{onto_first}
use Rattle.std.proofs.lemmas.Bool.{eq-eqb, ne_eqb}
use Rattle.replay_lines.specs.Replays.{lines_in}

-- it ends at the first line feed
pub lines_at : (xs : List ℕ) (i : ℕ) → i < length xs → get_or xs i 0 ≡ 10 → ((k : ℕ) → k < i → get_or xs k 0 ≢ 10) → lines_in xs ≡ take i xs ∷ lines_in (drop (suc i) xs)
lines_at [] i inside feed before = absurd (omega arith)
lines_at (b ∷ bs) zero inside feed before =
    ap (λ t. cond t ([] ∷ lines_in bs) (onto_first b (lines_in bs))) (eq-eqb b 10 feed)
lines_at (b ∷ bs) (suc i) inside feed before =
    ap (λ t. cond t ([] ∷ lines_in bs) (onto_first b (lines_in bs))) (ne_eqb b 10 (before 0 (omega arith)))
    ∙ ap (onto_first b) (lines_at bs i (omega arith) feed (λ k below. before (suc k) (omega arith)))

-- or at the end of the text
pub lines_whole : (xs : List ℕ) → ((k : ℕ) → k < length xs → get_or xs k 0 ≢ 10) → lines_in xs ≡ xs ∷ []
lines_whole [] none = refl
lines_whole (b ∷ bs) none =
    ap (λ t. cond t ([] ∷ lines_in bs) (onto_first b (lines_in bs))) (ne_eqb b 10 (none 0 (omega arith)))
    ∙ ap (onto_first b) (lines_whole bs (λ k below. none (suc k) (omega arith)))
