-- What a cause comes to.
use Rattle.http_get.specs.declared.cause.Cause.{Cause}
use Rattle.http_get.specs.declared.cause.Cause.TheVariants as Why
use Rattle.http_get.specs.declared.reply.FetchFault.{FetchFault}
use Rattle.http_get.specs.declared.reply.FetchFault.TheVariants as Fault

-- want of memory and a long body are told apart, all else is the device's
abbrev pub fault_of : Cause → FetchFault
fault_of Why.NoAddress = Fault.Device
fault_of Why.NoName = Fault.Device
fault_of Why.Refused = Fault.Device
fault_of Why.TimedOut = Fault.Device
fault_of Why.Broken = Fault.Device
fault_of Why.Encoded = Fault.Device
fault_of Why.TooLong = Fault.TooLong
fault_of Why.Memory = Fault.Memory
