use Rattle.std.proofs.Common.{drop}
use Rattle.audit.specs.Audits.{IsAhead, report_on}
use Rattle.audit.specs.Renewals.{AreRenewalsFrom}
use Rattle.audit.proofs.auditing.audit_all.Given as goal

abbrev pub invariant-loop-i : goal.invariant-loop-i
invariant-loop-i l =
    record {
      ahead : IsAhead (report_on 0 l.fn.progress l.journals) (report_on l.i l.progress (drop l.i l.journals)) l.fn.text.items l.text.items;
      row : AreRenewalsFrom l.progress.before (drop l.i l.journals) → AreRenewalsFrom l.fn.progress.before l.journals;
    }
