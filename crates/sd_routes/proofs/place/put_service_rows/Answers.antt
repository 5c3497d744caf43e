use Rattle.std.proofs.Common.{rules}
use Rattle.matchit.proofs.OnLiterals.{matchit_on_literals}
use Rattle.sd_routes.specs.Places.{desk_rows, job_rows, route_rows}
use Rattle.sd_routes.proofs.place.put_service_rows.Goals as goal

pub returns : goal.returns
unfolding matchit_on_literals route_rows desk_rows job_rows
returns c = search rules
