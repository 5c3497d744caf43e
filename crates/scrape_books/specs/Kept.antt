-- What holds of the books at every moment.
use Rattle.std.specs.Prelude.{◌≡◌, ◌≢◌, ℕ, ◌*◌, ◌≤◌, nat_eq, List, ◌∷◌, AllPairs, length, map, slice_index_or}
use Rattle.std.specs.List.{IsDistinct}
use Rattle.scrape_books.specs.Books.{entries_of, total_of}
use Rattle.scrape_books.specs.Standings.{no_standing, IsBounded, IsStanding}
use Rattle.scrape_books.specs.declared.report.Entry.{Entry}
use Rattle.scrape_books.specs.declared.standing.Standing.{Standing}

-- of two entries of one target the rounds differ
abbrev pub BookedOnce : List (ℕ × Entry) → Type 0
BookedOnce booked = AllPairs (λ (a b : ℕ × Entry). a.0 ≡ b.0 → a.1.round ≢ b.1.round) booked

-- the rounds of a target's entries in order
abbrev pub rounds_of : List (ℕ × Entry) → ℕ → List ℕ
rounds_of booked target = map (λ (entry : Entry). entry.round) (entries_of booked target)

pub record IsKept (booked : List (ℕ × Entry)) (standings : List Standing) (total : ℕ) : Type 0 where
  -- the standing of each target, which has no entry where there is none
  pub standing : (target : ℕ) → IsStanding booked target (slice_index_or standings target no_standing)
  pub bounded : (target : ℕ) → IsBounded (slice_index_or standings target no_standing)
  pub once : BookedOnce booked
  -- a target's rounds are from 1, and no two are equal
  pub apart : (target : ℕ) → IsDistinct nat_eq (0 ∷ rounds_of booked target)
  pub total_is : total ≡ total_of booked
  pub total_bounded : total ≤ length booked * 4294967295
