-- What a pattern is to a name and its ends.
use Rattle.std.proofs.Common.{◌≡◌, ◌∙◌, ℕ, List, [], ◌∷◌, length, Bool, true, false, cond, ◌&&◌, ◌||◌, eqb, refl, sym, ap, subst, arith}
use Rattle.service_settings.specs.declared.matching.Outcome.{Outcome}
use Rattle.service_settings.specs.declared.matching.Outcome.TheVariants.{Matches, Fails, FailsBehind}
use Rattle.service_settings.specs.JoiningPattern.{is_an_end, is_behind, matches, Tells}

neither : (v w : Bool) → (v || w) ≡ false → (v ≡ false) × (w ≡ false)
neither true w e = cc
neither false w e = (refl, e)

and_false : (v w : Bool) → w ≡ false → (v && w) ≡ false
and_false true w e = e
and_false false w e = refl

or_true : (v w : Bool) → v ≡ true → (v || w) ≡ true
or_true true w e = refl
or_true false w e = cc

or_false : (v w : Bool) → v ≡ false → w ≡ false → (v || w) ≡ false
or_false true w e f = cc
or_false false w e f = f

-- the whole name is an end of it
pub whole_is_end : (is : List ℕ → Bool) (n : List ℕ) → is n ≡ true → is_an_end is n ≡ true
whole_is_end is [] e = e
whole_is_end is (b ∷ bs) e = or_true (is (b ∷ bs)) (is_an_end is bs) e

pub no_end_whole : (is : List ℕ → Bool) (n : List ℕ) → is_an_end is n ≡ false → is n ≡ false
no_end_whole is [] e = e
no_end_whole is (b ∷ bs) e = (neither (is (b ∷ bs)) (is_an_end is bs) e).0

no_end_rest : (is : List ℕ → Bool) (b : ℕ) (bs : List ℕ) → is_an_end is (b ∷ bs) ≡ false → is_an_end is bs ≡ false
no_end_rest is b bs e = (neither (is (b ∷ bs)) (is_an_end is bs) e).1

-- an end of an end is an end
pub no_end_again : (is : List ℕ → Bool) (n : List ℕ) → is_an_end is n ≡ false → is_an_end (is_an_end is) n ≡ false
no_end_again is [] e = e
no_end_again is (b ∷ bs) e = or_false (is_an_end is (b ∷ bs)) (is_an_end (is_an_end is) bs) e (no_end_again is bs (no_end_rest is b bs e))

no_end_behind : (p : ℕ) (is : List ℕ → Bool) (b : ℕ) (bs : List ℕ) → is_an_end is bs ≡ false → is_an_end (is_behind p is) (b ∷ bs) ≡ false
no_end_behind p is b [] e = or_false (eqb p b && is []) false (and_false (eqb p b) (is []) e) refl
no_end_behind p is b (c ∷ cs) e =
    or_false (eqb p b && is (c ∷ cs)) (is_an_end (is_behind p is) (c ∷ cs)) (and_false (eqb p b) (is (c ∷ cs)) (no_end_whole is (c ∷ cs) e))
    (no_end_behind p is c cs (no_end_rest is c cs e))

-- ---- what an outcome says, step by step

-- by whether the first byte of the pattern is a star
abbrev by_star : ℕ → List ℕ → Bool → List ℕ → Bool
by_star p ps star name = cond star (is_an_end (matches ps) name) (is_behind p (matches ps) name)

same_byte : (p : ℕ) (ps : List ℕ) (b : ℕ) (bs : List ℕ) (o : Outcome) → eqb p 42 ≡ false → eqb p b ≡ true → Tells ps bs o → Tells (p ∷ ps) (b ∷ bs) o
same_byte p ps b bs Matches plain same told = ap (λ v. by_star p ps v (b ∷ bs)) plain ∙ ap (λ v. v && matches ps bs) same ∙ told
same_byte p ps b bs Fails plain same told = ap (λ v. by_star p ps v (b ∷ bs)) plain ∙ ap (λ v. v && matches ps bs) same ∙ told
same_byte p ps b bs FailsBehind plain same told = ap (λ v. is_an_end (by_star p ps v) (b ∷ bs)) plain ∙ no_end_behind p (matches ps) b bs told

pub tells_same : (pattern name : List ℕ) (p : ℕ) (ps : List ℕ) (b : ℕ) (bs : List ℕ) (o : Outcome) → pattern ≡ p ∷ ps → name ≡ b ∷ bs → eqb p 42 ≡ false → eqb p b ≡ true → Tells ps bs o → Tells pattern name o
tells_same pattern name p ps b bs o is begins plain same told =
    subst (λ n. Tells pattern n o) (sym begins) (subst (λ q. Tells q (b ∷ bs) o) (sym is) (same_byte p ps b bs o plain same told))

pub tells_star : (pattern name : List ℕ) (p : ℕ) (ps : List ℕ) (o : Outcome) → pattern ≡ p ∷ ps → eqb p 42 ≡ true → Tells (42 ∷ ps) name o → Tells pattern name o
tells_star pattern name p ps Matches is star told = ap (λ v. matches v name) is ∙ ap (λ v. by_star p ps v name) star ∙ told
tells_star pattern name p ps Fails is star told = ap (λ v. matches v name) is ∙ ap (λ v. by_star p ps v name) star ∙ told
tells_star pattern name p ps FailsBehind is star told = ap (λ v. is_an_end (matches v) name) is ∙ ap (λ v. is_an_end (by_star p ps v) name) star ∙ told

-- ---- behind a star, by what is left of the name

pub star_matches : (ps left name : List ℕ) → is_an_end (matches ps) left ≡ is_an_end (matches ps) name → Tells ps left Matches → Tells (42 ∷ ps) name Matches
star_matches ps left name same told = sym same ∙ whole_is_end (matches ps) left told

pub star_fails : (ps left name : List ℕ) → is_an_end (matches ps) left ≡ is_an_end (matches ps) name → Tells ps left FailsBehind → Tells (42 ∷ ps) name FailsBehind
star_fails ps left name same told = no_end_again (matches ps) name (sym same ∙ told)

pub star_spent : (ps left name : List ℕ) → is_an_end (matches ps) left ≡ is_an_end (matches ps) name → length left ≡ 0 → Tells ps left Fails → Tells (42 ∷ ps) name FailsBehind
star_spent ps [] name same spent told = no_end_again (matches ps) name (sym same ∙ told)
star_spent ps (b ∷ bs) name same spent told = absurd (omega (arith, spent))

pub star_goes_on : (ps left name : List ℕ) (b : ℕ) (bs : List ℕ) → is_an_end (matches ps) left ≡ is_an_end (matches ps) name → left ≡ b ∷ bs → Tells ps left Fails → is_an_end (matches ps) bs ≡ is_an_end (matches ps) name
star_goes_on ps left name b bs same is told =
    let here : matches ps (b ∷ bs) ≡ false = ap (matches ps) (sym is) ∙ told in
    sym (ap (λ v. v || is_an_end (matches ps) bs) here) ∙ ap (is_an_end (matches ps)) (sym is) ∙ same
