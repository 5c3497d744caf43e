-- How the program ends.
use Rattle.std.specs.Prelude.{ℕ, List, codes}
use Rattle.offline_commands.specs.declared.ending.Ending.{Ending}
use Rattle.offline_commands.specs.declared.ending.Ending.TheVariants.{Answered, Stopped, Unwritten}
use Rattle.offline_commands.specs.declared.ending.Status.TheVariants.{Done, Refused, Unreadable}
use Rattle.offline_commands.specs.declared.ending.Stop.{Stop}
use Rattle.offline_commands.specs.declared.ending.Stop.TheVariants.{Memory, Device}

abbrev pub exit_status : Ending → ℕ
exit_status (Answered Done) = 0
exit_status (Answered Refused) = 1
exit_status (Answered Unreadable) = 2
exit_status (Stopped stop) = 3
exit_status Unwritten = 3

-- the line of a program that stops without an answer
abbrev pub stop_line : Stop → List ℕ
stop_line Memory = codes "memory\n"
stop_line Device = codes "device\n"
