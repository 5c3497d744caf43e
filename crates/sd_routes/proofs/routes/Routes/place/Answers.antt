use Rattle.std.proofs.Common.{arith}
use Rattle.sd_routes.proofs.Places.{place-of-route, place-of-none}
use Rattle.sd_routes.proofs.routes.Routes.place.Goals as goal

pub returns-in-Ok : goal.returns-in-Ok
returns-in-Ok c = place-of-route c.self.inside.router _ _ c.self.invariant (λ i. omega (arith, c.type_inv.path i)) c.in-Ok.ensures.found

pub returns-in-Err : goal.returns-in-Err
returns-in-Err c = place-of-none c.self.inside.router _ c.self.invariant (λ i. omega (arith, c.type_inv.path i)) c.in-Err.ensures.missing
