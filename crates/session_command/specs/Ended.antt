-- How a session ends that comes to no end of its own.
use Rattle.std.specs.Prelude.{Result, Ok, Err}
use Rattle.std.specs.declared.io.ErrorKind.{ErrorKind}
use Rattle.std.specs.declared.io.ErrorKind.TheVariants.{OutOfMemory}
use Rattle.session.specs.declared.error.SessionError.{SessionError}
use Rattle.session.specs.declared.error.SessionError.TheVariants as document
use Rattle.session_rounds.specs.declared.stop.SessionStop.TheVariants as stop
use Rattle.session_command.specs.declared.ended.Ended.{Ended}
use Rattle.session_command.specs.declared.ended.Ended.TheVariants as ended
use Rattle.session_command.specs.declared.ended.Fault.{Fault}
use Rattle.session_command.specs.declared.ended.Fault.TheVariants as fault
use Rattle.session_command.specs.declared.ended.Halt.{Halt}
use Rattle.session_command.specs.declared.ended.Halt.TheVariants as halt

-- what a socket's error comes to: want of memory is none of the device
abbrev pub halt_of : ErrorKind → Halt
halt_of OutOfMemory = halt.Stopped stop.Memory
halt_of _ = halt.Device

abbrev pub fault_of : ErrorKind → Fault
fault_of OutOfMemory = fault.Memory
fault_of _ = fault.Device

-- a document that is not read
abbrev pub unread_end : SessionError → Result Ended Fault
unread_end document.NotJson = Ok ended.NotJson
unread_end document.Shape = Ok ended.Shape
unread_end document.Memory = Err fault.Memory
