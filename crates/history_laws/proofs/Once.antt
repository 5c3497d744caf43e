-- Over all files of a history no target has two reports of a round.
use Rattle.std.proofs.Common.{◌≡◌, ℕ, zero, suc, List, [], ◌∷◌, All, Some, sym, ap, ◌∙◌, inl, inr, arith}
use Rattle.std.specs.Prelude.{AllPairs, slice_get}
use Rattle.std.specs.Option.{option_map}
use Rattle.std.proofs.lemmas.Bool.{cases_eq, cases_lt}
use Rattle.std.proofs.lemmas.List.Elements.{All-cons, All-nil}
use Rattle.scrape_books.specs.declared.report.Entry.{Entry}
use Rattle.fleet_renewal.proofs.Gets.{all_at, none_some, pairs_at, some_same}
use Rattle.allocation_core.specs.State.{State}
use Rattle.renewal.specs.Continuity.{job_name, text_of}
use Rattle.renewal.specs.Histories.{IsBefore, IsOnceByText, Stretch, books_of, stretch_end}
use Rattle.history_laws.specs.Journals.{ArePromised, IsBookedOnce, ends_of}

each_once : (m : State) (stretches : List Stretch) → IsOnceByText m → ArePromised m stretches → All IsOnceByText (ends_of m stretches)
each_once m [] once promised = All-cons IsOnceByText m [] once (All-nil IsOnceByText)
each_once m (stretch ∷ stretches) once promised =
    let next = stretch_end m stretch in
    All-cons IsOnceByText m (ends_of next stretches) once (each_once next stretches promised.0.good.once promised.1)

-- the books of a file are those of the state in which it ends
books_at : (m : State) (stretches : List Stretch) (file : ℕ) (end : State) → slice_get (ends_of m stretches) file ≡ Some end → slice_get (books_of m stretches) file ≡ Some end.booked
books_at m [] zero end here = ap (option_map (λ (s : State). s.booked)) here
books_at m [] (suc file) end here = none_some end here
books_at m (stretch ∷ stretches) zero end here = ap (option_map (λ (s : State). s.booked)) here
books_at m (stretch ∷ stretches) (suc file) end here = books_at (stretch_end m stretch) stretches file end here

-- in one file
same_place :
    (m n : State) (place other : ℕ) (a b : ℕ × Entry) → IsOnceByText m → m ≡ n → slice_get m.booked place ≡ Some a → slice_get n.booked other ≡ Some b → job_name m.fleet a.0 ≡ job_name n.fleet b.0 → text_of m.fleet a.0 ≡ text_of n.fleet b.0
    → a.1.round ≡ b.1.round → place ≡ other
same_place m n place other a b once same here there job text round =
    let at : slice_get m.booked other ≡ Some b = ap (λ (s : State). slice_get s.booked other) same ∙ there in
    let named : job_name m.fleet a.0 ≡ job_name m.fleet b.0 = job ∙ ap (λ (s : State). job_name s.fleet b.0) (sym same) in
    let told : text_of m.fleet a.0 ≡ text_of m.fleet b.0 = text ∙ ap (λ (s : State). text_of s.fleet b.0) (sym same) in
    elim (cases_eq place other) [
      | inl e ↦ e
      | inr d ↦ elim (cases_lt place other) [
        | inl less ↦ absurd (once place other a b less here at named told round)
        | inr more ↦ absurd (once other place b a (omega (arith, more, d)) at here (sym named) (sym told) (sym round))
      ]
    ]

pub booked_once : (m : State) (stretches : List Stretch) → IsOnceByText m → ArePromised m stretches → AllPairs IsBefore (books_of m stretches) → IsBookedOnce (ends_of m stretches)
booked_once m stretches once promised apart file other place other_place s t a b here there one two job text round =
    let books = books_of m stretches in
    let this = books_at m stretches file s here in
    let that = books_at m stretches other t there in
    elim (cases_eq file other) [
      | inl e ↦
          let same : s ≡ t = some_same s t (sym here ∙ ap (slice_get (ends_of m stretches)) e ∙ there) in
          (e, same_place s t place other_place a b (all_at IsOnceByText (ends_of m stretches) file s (each_once m stretches once promised) here) same one two job text round)
      | inr d ↦ elim (cases_lt file other) [
        | inl less ↦ absurd (omega (arith, round, pairs_at IsBefore books file other s.booked t.booked apart less this that place other_place a b one two))
        | inr more ↦ absurd (omega (arith, round, pairs_at IsBefore books other file t.booked s.booked apart (omega (arith, more, d)) that this other_place place b a two one))
      ]
    ]
