use Rattle.std.proofs.Common.{rules}
use Rattle.matchit.proofs.OnLiterals.{matchit_on_literals}
use Rattle.sd_routes.specs.Places.{desk_rows, job_rows}
use Rattle.sd_routes.proofs.place.put_desk_rows.Goals as goal

pub returns : goal.returns
unfolding matchit_on_literals desk_rows job_rows
returns c = search rules
