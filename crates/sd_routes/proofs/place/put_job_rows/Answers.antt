use Rattle.std.proofs.Common.{rules}
use Rattle.matchit.proofs.OnLiterals.{matchit_on_literals}
use Rattle.sd_routes.specs.Places.{job_rows}
use Rattle.sd_routes.proofs.place.put_job_rows.Goals as goal

pub returns : goal.returns
unfolding matchit_on_literals job_rows
returns c = search rules
