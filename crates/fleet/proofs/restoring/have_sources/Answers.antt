use Rattle.std.proofs.Common.{sym}
use Rattle.fleet.proofs.PartsLemmas.{other_lengths}
use Rattle.fleet.proofs.restoring.have_sources.Goals as goal

pub returns-then-jobs-listed : goal.returns-then-jobs-listed
returns-then-jobs-listed c = sym (other_lengths c.args.jobs.now c.args.listed.now c.if-jobs-listed.true)
