-- What is kept of a target beside its entries: its last round, which of the rounds before it are booked, and its page.
use Rattle.std.specs.Prelude.{◌≡◌, ℕ, ◌==◌, ◌<◌, ◌+◌, ◌-◌, ◌*◌, ◌≤◌, nat_le, nat_lt, ◌&&◌, Bool, List, if◌then◌else◌}
use Rattle.std.specs.Int.{bit_at}
use Rattle.scrape_books.specs.Books.{samples_of, is_booked, is_up, last_round_of, page_of}
use Rattle.scrape_books.specs.declared.report.Entry.{Entry}
use Rattle.scrape_books.specs.declared.report.Page.{Page}
use Rattle.scrape_books.specs.declared.standing.Standing.{Standing}

-- the bits tell that the round is booked: bit i is that of the round `last - i`
abbrev pub is_marked : ℕ → ℕ → ℕ → Bool
is_marked last rounds round = nat_le round last && (nat_lt (last - round) 64 && (bit_at rounds (last - round) == 1))

-- what is kept of a target: of each round fewer than 64 before the last one, and of each behind it, the bits tell whether it is booked
pub record IsStanding (booked : List (ℕ × Entry)) (target : ℕ) (standing : Standing) : Type 0 where
  pub last : standing.last ≡ last_round_of booked target
  pub page : standing.page ≡ page_of booked target
  pub marks : (round : ℕ) → standing.last < round + 64 → is_marked standing.last standing.rounds round ≡ is_booked booked target round

-- of a target with no entry
abbrev pub no_standing : Standing
no_standing = record { last = 0; rounds = 0; page = record { reports = 0; ups = 0; samples = 0 } }

-- with one more entry
abbrev pub page_with : Page → Entry → Page
page_with page entry =
    record {
      reports = page.reports + 1;
      ups = page.ups + (if is_up entry.outcome then 1 else 0);
      samples = page.samples + samples_of entry.outcome;
    }

-- there are no more entries than rounds, and no entry has more than 4,294,967,295 samples
pub record IsBounded (standing : Standing) : Type 0 where
  pub reports : standing.page.reports ≤ standing.last
  pub ups : standing.page.ups ≤ standing.page.reports
  pub samples : standing.page.samples ≤ standing.page.reports * 4294967295
