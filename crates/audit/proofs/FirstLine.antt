-- The bytes before the first line feed.
use Rattle.std.proofs.Common.{◌≡◌, ◌≢◌, ℕ, zero, suc, ◌<◌, cond, List, [], ◌∷◌, length, get_or, take, refl, ap, ◌∙◌, sym, arith}
use Rattle.std.proofs.lemmas.Bool.{eq-eqb, ne_eqb}
use Rattle.audit.specs.Checks.{first_line}

-- they end at it
pub line_at : (xs : List ℕ) (i : ℕ) → i < length xs → get_or xs i 0 ≡ 10 → ((k : ℕ) → k < i → get_or xs k 0 ≢ 10) → take i xs ≡ first_line xs
line_at [] i inside feed before = absurd (omega arith)
line_at (b ∷ bs) zero inside feed before = sym (ap (λ t. cond t [] (b ∷ first_line bs)) (eq-eqb b 10 feed))
line_at (b ∷ bs) (suc i) inside feed before =
    ap (λ l. b ∷ l) (line_at bs i (omega arith) feed (λ k below. before (suc k) (omega arith)))
    ∙ sym (ap (λ t. cond t [] (b ∷ first_line bs)) (ne_eqb b 10 (before 0 (omega arith))))

-- or are all
pub line_whole : (xs : List ℕ) → ((k : ℕ) → k < length xs → get_or xs k 0 ≢ 10) → xs ≡ first_line xs
line_whole [] none = refl
line_whole (b ∷ bs) none =
    ap (λ l. b ∷ l) (line_whole bs (λ k below. none (suc k) (omega arith)))
    ∙ sym (ap (λ t. cond t [] (b ∷ first_line bs)) (ne_eqb b 10 (none 0 (omega arith))))
