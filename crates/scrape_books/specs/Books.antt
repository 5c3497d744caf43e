-- What the books hold: the booked entries beside their targets, in order of booking.
use Rattle.std.specs.Prelude.{◌≡◌, ℕ, ◌==◌, ◌-◌, nat_le, ◌&&◌, ◌||◌, if◌then◌else◌, Bool, true, false, List, [], ◌∷◌, Option, Some, None, length, map, filter, max, count_by, sum_by}
use Rattle.std.specs.List.{list_any}
use Rattle.scrape_books.specs.declared.error.BooksError.{BooksError}
use Rattle.scrape_books.specs.declared.error.BooksError.TheVariants.{AlreadyBooked, Past, Memory}
use Rattle.scrape_books.specs.declared.report.Outcome.{Outcome}
use Rattle.scrape_books.specs.declared.report.Outcome.TheVariants.{Up, Down}
use Rattle.scrape_books.specs.declared.report.Entry.{Entry}
use Rattle.scrape_books.specs.declared.report.Page.{Page}

-- the samples of an outcome: Down has none
abbrev pub samples_of : Outcome → ℕ
samples_of (Up samples) = samples
samples_of Down = 0

abbrev pub is_up : Outcome → Bool
is_up (Up samples) = true
is_up Down = false

-- a target's entries in order
abbrev pub entries_of : List (ℕ × Entry) → ℕ → List Entry
entries_of booked target = map (λ (q : ℕ × Entry). q.1) (filter (λ (q : ℕ × Entry). q.0 == target) booked)

-- the greatest round, 0 where there is none
abbrev pub greatest_round : List Entry → ℕ
greatest_round [] = 0
greatest_round (entry ∷ entries) = max entry.round (greatest_round entries)

-- the greatest round of a target's entries, 0 where it has none
abbrev pub last_round_of : List (ℕ × Entry) → ℕ → ℕ
last_round_of booked target = greatest_round (entries_of booked target)

-- an entry of the target stands for the round
abbrev pub is_booked : List (ℕ × Entry) → ℕ → ℕ → Bool
is_booked booked target round = list_any (λ (b : ℕ × Entry). (b.0 == target) && (b.1.round == round)) booked

-- the round is none, since rounds are from 1, or it is 64 rounds and more before the last one
abbrev pub is_past : ℕ → ℕ → Bool
is_past last round = (round == 0) || nat_le 64 (last - round)

-- the first reason against an entry
abbrev pub booking_refusal : List (ℕ × Entry) → ℕ → ℕ → Option BooksError
booking_refusal booked target round = if is_past (last_round_of booked target) round then Some (Past (last_round_of booked target)) else if is_booked booked target round then Some AlreadyBooked else None

-- what a refusal says: the first reason against the entry, or that memory was wanted where there is none
abbrev pub IsWhyNot : Option BooksError → BooksError → Type 0
IsWhyNot None why = why ≡ Memory
IsWhyNot (Some refusal) why = why ≡ refusal

-- how many entries a list has, how many of them are Up, and their samples together
abbrev pub page_from : List Entry → Page
page_from entries =
    record {
      reports = length entries;
      ups = count_by (λ (entry : Entry). is_up entry.outcome) entries;
      samples = sum_by (λ (entry : Entry). samples_of entry.outcome) entries;
    }

abbrev pub page_of : List (ℕ × Entry) → ℕ → Page
page_of booked target = page_from (entries_of booked target)

-- the samples of all entries
abbrev pub total_of : List (ℕ × Entry) → ℕ
total_of booked = sum_by (λ (q : ℕ × Entry). samples_of q.1.outcome) booked
