use Rattle.std.specs.Net.Socket.{v4_ip}
use Rattle.http_get.proofs.address.address_of.Goals as goal

pub returns-in_err-host : goal.returns-in_err-host
returns-in_err-host c = rw c.from_residual.ensures (λ a is. c.in_err-host.ensures (v4_ip a) (rw c.parts_of.ensures.host is.0))
