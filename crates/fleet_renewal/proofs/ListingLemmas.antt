-- Lists that are fitted to a number of sources, one after the other.
use Rattle.std.proofs.Common.{◌≡◌, ℕ, zero, suc, ◌+◌, ◌-◌, ◌<◌, List, [], ◌∷◌, ◌++◌, get_or, length, map, take, refl, sym, ap, ◌∙◌, arith, add-one}
use Rattle.std.specs.Prelude.{replicate}
use Rattle.std.proofs.lemmas.List.{length-replicate}
use Rattle.fleet_renewal.specs.Renewed.{fitted}

replicate_more : (n : ℕ) → replicate (suc n) (let r : List ℕ = [] in r) ≡ replicate n [] ++ [] ∷ []
replicate_more zero = refl
replicate_more (suc n) = ap (λ (ls : List (List ℕ)). [] ∷ ls) (replicate_more n)

nothing_taken : (n : ℕ) → take n (let r : List (List ℕ) = [] in r) ≡ []
nothing_taken zero = refl
nothing_taken (suc n) = refl

fitted_none : (n : ℕ) → fitted n [] ≡ replicate n []
fitted_none n = ap (λ (ls : List (List ℕ)). ls ++ replicate (n - 0) (let r : List ℕ = [] in r)) (nothing_taken n) ∙ ap (λ (k : ℕ). replicate k (let r : List ℕ = [] in r)) (let r : n - 0 ≡ n = omega arith in r)

fitted_some : (n : ℕ) (x : List ℕ) (lists : List (List ℕ)) → fitted (suc n) (x ∷ lists) ≡ x ∷ fitted n lists
fitted_some n x lists = ap (λ (k : ℕ). x ∷ (take n lists ++ replicate k (let r : List ℕ = [] in r))) (let r : suc n - suc (length lists) ≡ n - length lists = omega arith in r)

fitted_zero : (lists : List (List ℕ)) → fitted 0 lists ≡ []
fitted_zero lists = ap (λ (k : ℕ). replicate k (let r : List ℕ = [] in r)) (let r : 0 - length lists ≡ 0 = omega arith in r)

fitted_more : (n : ℕ) (lists : List (List ℕ)) → fitted (suc n) lists ≡ fitted n lists ++ get_or lists n [] ∷ []
fitted_more n [] = fitted_none (suc n) ∙ replicate_more n ∙ ap (λ (ls : List (List ℕ)). ls ++ [] ∷ []) (sym (fitted_none n))
fitted_more zero (x ∷ lists) = fitted_some 0 x lists ∙ ap (λ (ls : List (List ℕ)). x ∷ ls) (fitted_zero lists) ∙ ap (λ (ls : List (List ℕ)). ls ++ x ∷ []) (sym (fitted_zero (x ∷ lists)))
fitted_more (suc n) (x ∷ lists) =
    fitted_some (suc n) x lists ∙ ap (λ (ls : List (List ℕ)). x ∷ ls) (fitted_more n lists) ∙ ap (λ (ls : List (List ℕ)). ls ++ get_or lists n [] ∷ []) (sym (fitted_some n x lists))

pub mapped_at : (f : List ℕ → List ℕ) (lists : List (List ℕ)) (n : ℕ) → f [] ≡ [] → get_or (map f lists) n [] ≡ f (get_or lists n [])
mapped_at f [] n none = sym none
mapped_at f (x ∷ lists) zero none = refl
mapped_at f (x ∷ lists) (suc n) none = mapped_at f lists n none

pub fitted_next :
    (n : ℕ) (f : List ℕ → List ℕ) (lists before after : List (List ℕ)) (x : List ℕ) → f [] ≡ [] → before ≡ fitted n (map f lists) → x ≡ f (get_or lists n []) → after ≡ before ++ x ∷ [] → after ≡ fitted (n + 1) (map f lists)
fitted_next n f lists before after x none was is grown =
    let next : x ≡ get_or (map f lists) n [] = is ∙ sym (mapped_at f lists n none) in
    grown
    ∙ ap (λ (ls : List (List ℕ)). ls ++ x ∷ []) was
    ∙ ap (λ (y : List ℕ). fitted n (map f lists) ++ y ∷ []) next
    ∙ sym (fitted_more n (map f lists))
    ∙ ap (λ (k : ℕ). fitted k (map f lists)) (sym (add-one n))

-- a fitted list at a place
pub fitted_at : (count s : ℕ) (lists : List (List ℕ)) → s < count → get_or (fitted count lists) s [] ≡ get_or lists s []
fitted_at zero s lists l = absurd (omega arith)
fitted_at (suc n) s [] l = ap (λ (ls : List (List ℕ)). get_or ls s []) (fitted_none (suc n)) ∙ empty (suc n) s
  where
    empty : (n s : ℕ) → get_or (replicate n (let r : List ℕ = [] in r)) s [] ≡ []
    empty zero s = refl
    empty (suc n) zero = refl
    empty (suc n) (suc s) = empty n s
fitted_at (suc n) zero (x ∷ lists) l = ap (λ (ls : List (List ℕ)). get_or ls 0 []) (fitted_some n x lists)
fitted_at (suc n) (suc s) (x ∷ lists) l = ap (λ (ls : List (List ℕ)). get_or ls (suc s) []) (fitted_some n x lists) ∙ fitted_at n s lists (omega arith)

pub length-fitted : (count : ℕ) (lists : List (List ℕ)) → length (fitted count lists) ≡ count
length-fitted count [] = ap length (fitted_none count) ∙ length-replicate count []
length-fitted zero (x ∷ lists) = ap (λ (k : ℕ). length (replicate k (let r : List ℕ = [] in r))) (let r : 0 - suc (length lists) ≡ 0 = omega arith in r)
length-fitted (suc n) (x ∷ lists) = ap length (fitted_some n x lists) ∙ ap suc (length-fitted n lists)
