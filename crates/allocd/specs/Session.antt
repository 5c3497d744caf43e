-- What is written of a session, and how the program ends on it.
use Rattle.std.specs.Prelude.{ℕ, List, ◌++◌, Result, Ok, Err}
use Rattle.session_command.specs.declared.ended.Ended.{Ended}
use Rattle.session_command.specs.declared.ended.Ended.TheVariants as ended
use Rattle.session_command.specs.declared.ended.Fault.{Fault}
use Rattle.session_command.specs.declared.ended.Fault.TheVariants as fault
use Rattle.offline_commands.specs.Ending.{stop_line}
use Rattle.offline_commands.specs.Unreadable.{unreadable_line}
use Rattle.offline_commands.specs.declared.ending.Ending.{Ending}
use Rattle.offline_commands.specs.declared.ending.Ending.TheVariants.{Answered, Stopped}
use Rattle.offline_commands.specs.declared.ending.Status.TheVariants.{Done, Refused, Unreadable}
use Rattle.offline_commands.specs.declared.ending.Stop.TheVariants.{Memory, Device}
use Rattle.offline_commands.specs.declared.unreadable.Unreadable.TheVariants.{NotJson, Shape}

abbrev pub session_ending : Result Ended Fault → Ending
session_ending (Ok ended.Done) = Answered Done
session_ending (Ok ended.Refused) = Answered Refused
session_ending (Ok ended.NotJson) = Answered Unreadable
session_ending (Ok ended.Shape) = Answered Unreadable
session_ending (Err fault.Memory) = Stopped Memory
session_ending (Err fault.Device) = Stopped Device

-- the session's lines, with the line of what stopped it
abbrev pub session_text : Result Ended Fault → List ℕ → List ℕ
session_text (Ok ended.Done) lines = lines
session_text (Ok ended.Refused) lines = lines
session_text (Ok ended.NotJson) lines = unreadable_line NotJson
session_text (Ok ended.Shape) lines = unreadable_line Shape
session_text (Err fault.Memory) lines = lines ++ stop_line Memory
session_text (Err fault.Device) lines = lines ++ stop_line Device
