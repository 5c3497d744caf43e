-- A table that is filled in one step.
use Rattle.std.proofs.Common.{◌≡◌, ◌+◌, ◌<◌, ◌≤◌, ℕ, suc, zero, List, [], ◌∷◌, map, length, get_or, set, replicate, All, refl, ap, ◌∙◌, arith}
use Rattle.std.proofs.lemmas.List.{get_or-map, map-set}
use Rattle.assign_engine.specs.Table.{read_as}

read_stored : (floor filling number : ℕ) → number ≤ filling → read_as floor filling (floor + number) ≡ number
read_stored floor filling number l = omega arith

-- what is stored far above the floor reads as the filling
read_far : (floor filling stored : ℕ) → floor + filling ≤ stored → read_as floor filling stored ≡ filling
read_far floor filling stored l = omega arith

read_filled : (old floor filling : ℕ) → floor + filling ≤ old → (xs : List ℕ) → All (λ x. old ≤ x) xs → map (read_as floor filling) xs ≡ replicate (length xs) filling
read_filled old floor filling l [] h = refl
read_filled old floor filling l (x ∷ xs) h = ap (λ (ys : List ℕ). read_as floor filling x ∷ ys) (read_filled old floor filling l xs (λ k d m. h (suc k) d (omega arith))) ∙ ap (λ (m : ℕ). m ∷ replicate (length xs) filling) (read_far floor filling x (omega (arith, h 0 0 (omega arith))))

-- all numbers are the filling, however many there were before
pub filled : (old floor filling : ℕ) → floor + filling ≤ old → (xs ys : List ℕ) → All (λ x. old ≤ x) xs → length xs ≡ length ys → map (read_as floor filling) xs ≡ replicate (length ys) filling
filled old floor filling l xs ys h e = read_filled old floor filling l xs h ∙ ap (λ (n : ℕ). replicate n filling) e

pub filled_anew : (x floor filling : ℕ) → floor + filling ≤ x → (n : ℕ) → map (read_as floor filling) (replicate n x) ≡ replicate n filling
filled_anew x floor filling l zero = refl
filled_anew x floor filling l (suc n) = ap (λ (ys : List ℕ). read_as floor filling x ∷ ys) (filled_anew x floor filling l n) ∙ ap (λ (m : ℕ). m ∷ replicate n filling) (read_far floor filling x l)

-- no number is above the filling
pub read_most : (floor filling : ℕ) (xs : List ℕ) (i : ℕ) → i < length xs → get_or (map (read_as floor filling) xs) i 0 ≤ filling
read_most floor filling xs i l = omega (arith, get_or-map (read_as floor filling) xs i 0 0 l)

pub lowered : (floor filling : ℕ) (xs : List ℕ) (i number : ℕ) → number ≤ filling → map (read_as floor filling) (set xs i (floor + number)) ≡ set (map (read_as floor filling) xs) i number
lowered floor filling xs i number l = map-set (read_as floor filling) xs i (floor + number) ∙ ap (set (map (read_as floor filling) xs) i) (read_stored floor filling number l)
