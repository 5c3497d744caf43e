-- What the checker counts of the allocation that was published last.
use Rattle.std.specs.Prelude.{Option, Some, None}
use Rattle.price_certificate.specs.Faults.{verdict_of}
use Rattle.price_certificate.specs.declared.verdict.Verdict.{Verdict}
use Rattle.price_certificate.specs.declared.verdict.Verdict.TheVariants.{Best, Refused}
use Rattle.allocation_core.specs.State.{State}
use Rattle.service_tasks.specs.declared.publishing.Changes.{Changes}

-- what a verdict counts, where it is no refusal
abbrev pub changes_in : Verdict → Option Changes
changes_in (Best covers leaves moves) = Some (record { covered = covers; moved = moves; left = leaves })
changes_in (Refused fault) = None

-- what the verdict over the certificate of a state counts
abbrev pub changes_at : State → Option Changes
changes_at m = changes_in (verdict_of m.problem m.plan.pairs m.plan.item_prices m.plan.bin_prices)
