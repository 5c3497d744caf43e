-- What the first line of a renewed allocator opens.
use Rattle.std.proofs.Common.{◌≡◌, ◌<◌, ◌∙◌, ℕ, Bool, List, AllPairs, Option, None, Some, IfSome, Result, Ok, Err, IfOk, ap, subst, sym}
use Rattle.allocation_core.specs.Renewed.{renewed}
use Rattle.allocation_core.specs.State.{State, current_pairs}
use Rattle.durable_journal.specs.Beginnings.{IsBegunAnew, Opens, OpensRenewed}
use Rattle.durable_journal.specs.declared.beginning.Begun.{Begun}
use Rattle.durable_journal.specs.declared.beginning.FirstLine.{FirstLine}
use Rattle.fleet.specs.declared.job.JobSpec.{JobSpec}
use Rattle.kept_journal.specs.Beginning.{Leads}
use Rattle.kept_journal.specs.Keeping.{IsOf}
use Rattle.kept_journal.specs.declared.journal_file.JournalFile.{JournalFile}
use Rattle.service_tasks.specs.Later.{IsRenewed}

pub is_renewed : (before m : State) (jobs : List JobSpec) (report_rounds : ℕ) (pairs : List (ℕ × ℕ)) → pairs ≡ current_pairs before → AllPairs (λ (a b : ℕ × ℕ). a.0 < b.0) pairs → m ≡ renewed before jobs report_rounds → IsRenewed m
unfolding renewed
is_renewed before m jobs report_rounds pairs same ascending is =
    record {
      before = before;
      jobs = jobs;
      ascending = subst (λ (ps : List (ℕ × ℕ)). AllPairs (λ (a b : ℕ × ℕ). a.0 < b.0) ps) same ascending;
      is = is ∙ ap (renewed before jobs) (sym (ap (λ (x : State). x.report_rounds) is));
    }

pub opens_renewed : {E : Type 0} (m : State) (r : Result (Option FirstLine) E) → IsRenewed m → IfOk r (λ o. IfSome o (OpensRenewed m)) → IfOk r (λ o. IfSome o (Opens (Some m)))
opens_renewed m (Err e) is whole = tt
opens_renewed m (Ok None) is whole = tt
opens_renewed m (Ok (Some first)) is whole = whole is.before is.jobs is.ascending is.is

-- the file of the journal that has begun in the place of another
pub begun_leads :
    {F : Type 0} (tells : Bool) (contents : F → Option (List ℕ)) (m : State) (given : Option FirstLine) (first : FirstLine) (begun : Begun F) (file new : JournalFile F) → given ≡ Some first → IfSome given (Opens (Some m)) → IsBegunAnew tells contents first begun
    → Leads tells contents begun file → new ≡ file → IsOf tells contents m new
begun_leads tells contents m given first begun file new is opens form leads same =
    subst (IsOf tells contents m) (sym same) (leads first m form (subst (λ (o : Option FirstLine). IfSome o (Opens (Some m))) is opens))
