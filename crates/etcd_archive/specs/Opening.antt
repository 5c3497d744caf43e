-- What begins of the bytes of a journal.
use Rattle.std.specs.Prelude.{ℕ, Bool, List, Option, Some}
use Rattle.journal_files.specs.Opening.{IsBegunAs}
use Rattle.journal_files.specs.Starting.{Asked, StartsIn}
use Rattle.journal_files.specs.declared.opening.Opened.{Opened}
use Rattle.journal_files.specs.declared.reading.Start.{Start}

-- what the bytes lead to under what is asked, with the device that the journal asks for
pub record IsOpenedFrom {D : Type 0} (tells : Bool) (contents : D → Option (List ℕ)) (asked : Asked) (bytes : List ℕ) (opened : Opened D) : Type 0 where
  pub start : Start
  pub read : StartsIn asked (Some bytes) start
  pub begun : IsBegunAs tells contents start opened
