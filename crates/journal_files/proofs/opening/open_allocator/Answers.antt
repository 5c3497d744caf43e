use Rattle.std.proofs.Common.{false, map}
use Rattle.replay_lines.specs.Configurations.{spec_of}
use Rattle.sd_documents.specs.Config.{job_data}
use Rattle.journal_files.proofs.Opens.{allocator_of}
use Rattle.journal_files.proofs.opening.open_allocator.Goals as goal

pub returns-in-Some-clause-allocator : goal.returns-in-Some-clause-allocator
returns-in-Some-clause-allocator g c = allocator_of false _ c.args.line.now (map spec_of (map job_data c.args.jobs.now)) _ c.open_at.result c.open_at.ensures.opened
