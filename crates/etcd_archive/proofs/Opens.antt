-- The allocator that is opened.
use Rattle.std.proofs.Common.{ℕ, Bool, List, Option, Some, Result, Ok, Err, IfOk}
use Rattle.journal_files.specs.Opening.{IsBegunAs}
use Rattle.journal_files.specs.Starting.{Asked, StartsIn}
use Rattle.journal_files.specs.declared.opening.Opened.{Opened}
use Rattle.journal_files.specs.declared.reading.Start.{Start}
use Rattle.etcd_archive.specs.Opening.{IsOpenedFrom}

-- it is that of the start
pub opened_from : {D E : Type 0} (tells : Bool) (contents : D → Option (List ℕ)) (asked : Asked) (bytes : List ℕ) (start : Start) (r : Result (Opened D) E) → StartsIn asked (Some bytes) start → IfOk r (IsBegunAs tells contents start)
    → IfOk r (IsOpenedFrom tells contents asked bytes)
opened_from tells contents asked bytes start (Err e) read begun = tt
opened_from tells contents asked bytes start (Ok opened) read begun = record { start = start; read = read; begun = begun }
