use Rattle.std.proofs.Common.{rules}
use Rattle.std.specs.Prelude.{nat_le}
use Rattle.std.proofs.lemmas.List.Sorted.{IsPartitionPoint-from_clause}
use Rattle.handover.specs.declared.spans.Span.{Span}
use Rattle.handover.proofs.SpanLemmas.{parted}
use Rattle.handover.proofs.spans.begun.Goals as goal

pub returns-clause-parted : goal.returns-clause-parted
returns-clause-parted c =
    IsPartitionPoint-from_clause (λ (s : Span). nat_le s.first c.args.number) c.args.spans.now c.partition_point.result c.partition_point.ensures.partitioned
    (parted c.requires.0 c.args.number c.args.spans.now c.requires.1) (λ a r f h. search rules)
