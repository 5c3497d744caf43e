-- What `allocd audit` writes of some journals.
use Rattle.std.specs.Prelude.{◌⊎◌, ◌++◌, ℕ, List, [], Option}
use Rattle.replay_lines.specs.Lines.{AddsFront}
use Rattle.audit.specs.Audits.{report_of}
use Rattle.audit.specs.declared.auditing.Audited.{Audited}
use Rattle.audit.specs.declared.auditing.Audited.TheVariants.{Consistent, Inconsistent}
use Rattle.offline_commands.specs.Ending.{stop_line}
use Rattle.offline_commands.specs.Writing.{IsWritten}
use Rattle.offline_commands.specs.declared.ending.Ending.{Ending}
use Rattle.offline_commands.specs.declared.ending.Ending.TheVariants.{Answered, Stopped}
use Rattle.offline_commands.specs.declared.ending.Status.{Status}
use Rattle.offline_commands.specs.declared.ending.Status.TheVariants.{Done, Refused}
use Rattle.offline_commands.specs.declared.ending.Stop.TheVariants.{Memory}

abbrev pub audited_status : Audited → Status
audited_status Consistent = Done
audited_status Inconsistent = Refused

-- the whole report, or a front of it and the line `memory`; of these a first part where the writer failed
abbrev pub Audits : List (List ℕ) → Option (List ℕ) → Option (List ℕ) → Ending → Type 0
Audits journals before after ending =
    IsWritten (Answered (audited_status (report_of journals).audited)) (report_of journals).text before after ending
    ⊎ ((front : List ℕ) × AddsFront (report_of journals).text [] front × IsWritten (Stopped Memory) (front ++ stop_line Memory) before after ending)
