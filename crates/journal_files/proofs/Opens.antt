-- The allocator that is opened.
use Rattle.std.proofs.Common.{ℕ, Bool, List, Option, Result, Ok, Err, IfOk, subst, sym}
use Rattle.fleet.specs.declared.job.JobSpec.{JobSpec}
use Rattle.journal_files.specs.Opening.{AllocatorOf, IsAllocator, IsBegunAs, IsOpened}
use Rattle.journal_files.specs.Starting.{Asked, StartsIn}
use Rattle.journal_files.specs.declared.opening.Opened.{Opened}
use Rattle.journal_files.specs.declared.reading.Start.{Start}

-- it is that of the start
pub opened_of : {D E : Type 0} (tells : Bool) (contents : D → Option (List ℕ)) (asked : Asked) (known : Option (List ℕ)) (start : Start) (r : Result (Opened D) E) → StartsIn asked known start → IfOk r (IsBegunAs tells contents start)
    → IfOk r (IsOpened tells contents asked)
opened_of tells contents asked known start (Err e) read begun = tt
opened_of tells contents asked known start (Ok opened) read begun = record { text = read.text; start = start; starts = read.starts; begun = begun }

-- where there is a file
pub allocator_of : {D E : Type 0} (tells : Bool) (contents : D → Option (List ℕ)) (line : List ℕ) (jobs : List JobSpec) (epoch : ℕ) (r : Result (Opened D) E) → IfOk r (IsOpened tells contents (record { line = line; jobs = jobs; epoch = epoch }))
    → IfOk r (AllocatorOf tells contents line jobs)
allocator_of tells contents line jobs epoch (Err e) is = tt
allocator_of tells contents line jobs epoch (Ok opened) is = (epoch, subst (IsAllocator tells contents (record { line = line; jobs = jobs; epoch = epoch }) opened) (sym is.begun.file_is) is)
