use Rattle.std.proofs.Common.{inl}
use Rattle.sd_server.specs.Says.{SaysIn}
use Rattle.sd_server.proofs.handler.Handler.plain_document.Goals as goal

-- no event is asked for
pub returns-in-Job : goal.returns-in-Job
unfolding SaysIn
returns-in-Job g c = rw c.in-Job.is (λ span. (0, inl (rw (← c.as_str.ensures) c.job_document.ensures)))

pub returns-in-Collector : goal.returns-in-Collector
unfolding SaysIn
returns-in-Collector g c = rw c.in-Collector.is (λ span. (0, inl (c.collector_document.ensures span)))

pub returns-in-FindTargets : goal.returns-in-FindTargets
unfolding SaysIn
returns-in-FindTargets g c = rw c.in-FindTargets.is (λ span. (0, inl c.found_document.ensures))
