-- What is found in a file of which no more is read than one byte past the most.
use Rattle.std.proofs.Common.{◌≡◌, ℕ, ◌+◌, ◌<◌, List, [], ◌++◌, length, take, Option, Some, None, IfSome, inl, inr, ap, sym, subst, ◌∙◌, refl, arith}
use Rattle.std.specs.Prelude.{option_map}
use Rattle.std.proofs.lemmas.Bool.Decides.{leb_tells}
use Rattle.std.proofs.lemmas.List.{take_all, length-take-le}
use Rattle.durable_journal.specs.Marks.{found_in}
use Rattle.durable_journal.specs.declared.recovering.Recovered.{Recovered}
use Rattle.durable_journal.specs.declared.recovering.Recovered.TheVariants.{TooLong}
use Rattle.durable_journal.specs.declared.recovering.TheConstants.{MOST_JOURNAL}

too_long : (bs : List ℕ) → MOST_JOURNAL < length bs → found_in bs ≡ TooLong
too_long bs more = elim (leb_tells (length bs) MOST_JOURNAL) as (λ x. found_in bs ≡ TooLong) [
  | inl t ↦ absurd (omega (arith, t.1, more))
  | inr f ↦ rw f.0 refl
]

found_again : (bs : List ℕ) → found_in (take (MOST_JOURNAL + 1) bs) ≡ found_in bs
found_again bs = elim (leb_tells (length bs) MOST_JOURNAL) as (λ x. found_in (take (MOST_JOURNAL + 1) bs) ≡ found_in bs) [
  | inl t ↦ ap found_in (take_all (MOST_JOURNAL + 1) bs (omega (arith, t.1)))
  | inr f ↦
      let e : length (take (MOST_JOURNAL + 1) bs) ≡ MOST_JOURNAL + 1 = length-take-le (MOST_JOURNAL + 1) bs (omega (arith, f.1)) in
      too_long (take (MOST_JOURNAL + 1) bs) (omega (arith, e)) ∙ sym (too_long bs f.1)
]

recovered_of : (known : Option (List ℕ)) (limit : ℕ) (start items : List ℕ) (r : Recovered) → limit ≡ MOST_JOURNAL + 1 → start ≡ []
    → IfSome (option_map (take limit) known) (λ xs. items ≡ start ++ xs) → r ≡ found_in items → IfSome known (λ bytes. r ≡ found_in bytes)
recovered_of None limit start items r l s h e = tt
recovered_of (Some bytes) limit start items r l s h e =
    let same : items ≡ take (MOST_JOURNAL + 1) bytes = h ∙ ap (λ (xs : List ℕ). xs ++ take limit bytes) s ∙ ap (λ (n : ℕ). take n bytes) l in
    e ∙ ap found_in same ∙ found_again bytes

pub recovered : (known inner : Option (List ℕ)) (limit : ℕ) (start items : List ℕ) (r : Recovered) → inner ≡ known → limit ≡ MOST_JOURNAL + 1 → start ≡ []
    → IfSome (option_map (take limit) inner) (λ xs. items ≡ start ++ xs) → r ≡ found_in items → IfSome known (λ bytes. r ≡ found_in bytes)
recovered known inner limit start items r i l s h e = subst (λ (o : Option (List ℕ)). IfSome o (λ bytes. r ≡ found_in bytes)) i (recovered_of inner limit start items r l s h e)
