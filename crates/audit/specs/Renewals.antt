-- What an audit without a fault says of the states: each journal opens the renewal of the state in which the one before it ended.
use Rattle.std.specs.Prelude.{◌≡◌, ℕ, List, [], ◌∷◌, Option, Some, None, Ok}
use Rattle.allocation_core.specs.Renewed.{renewal_refusal, renewed}
use Rattle.allocation_core.specs.State.{State}
use Rattle.sealed_lines.specs.Reading.{plain_of}
use Rattle.replay_lines.specs.Configurations.{opened}
use Rattle.replay_lines.specs.Resumes.{resumed}
use Rattle.replay_lines.specs.declared.resuming.Resumption.{Resumption}
use Rattle.audit.specs.Checks.{first_line}

-- n is the renewal of m under n's own jobs, with reports booked of as many rounds as n's first line says, and nothing is against that
pub record IsRenewalOf (m n : State) : Type 0 where
  pub granted : renewal_refusal m n.fleet.jobs ≡ None
  pub is : n ≡ renewed m n.fleet.jobs n.report_rounds

-- the first line opens the renewal of the state, where there is one
abbrev pub BeginsWithRenewal : Option State → List ℕ → Type 0
BeginsWithRenewal None journal = Unit {0}
BeginsWithRenewal (Some m) journal = (n : State) × (opened (first_line journal) ≡ Some n) × IsRenewalOf m n

-- and so does the text of a file, whose digests are right where it has some
abbrev pub FileBeginsWithRenewal : Option State → List ℕ → Type 0
FileBeginsWithRenewal before file = (journal : List ℕ) × (plain_of file ≡ Ok journal) × BeginsWithRenewal before journal

-- behind a journal that ended in this state
unfoldable pub AreRenewalsFrom : Option State → List (List ℕ) → Type 0
AreRenewalsFrom before [] = Unit {0}
AreRenewalsFrom before (file ∷ files) =
    (journal : List ℕ) × (end : Resumption) × (plain_of file ≡ Ok journal) × (resumed journal ≡ Ok end) × BeginsWithRenewal before journal × AreRenewalsFrom (Some end.core) files

-- Each file has a journal. Its lines lead to a state, and the first line of the next one opens the renewal of that.
abbrev pub AreRenewals : List (List ℕ) → Type 0
AreRenewals journals = AreRenewalsFrom None journals
