use Rattle.std.proofs.Common.{List, ap, sym, ◌∙◌}
use Rattle.std.specs.Prelude.{◌==◌, not}
use Rattle.reach_rules.specs.Table.{ReachRow, rows_without}
use Rattle.fleet.specs.Reached.{reach_rows}
use Rattle.fleet.specs.declared.collector.Collector.{Collector}
use Rattle.fleet.proofs.KeptLemmas.{leave_kept}
use Rattle.fleet.proofs.ReachedLemmas.{rows_left}
use Rattle.fleet.proofs.fleet.Fleet.leave.Goals as goal

pub invariant_of-self : goal.invariant_of-self
invariant_of-self c =
    let known = c.self.inside.known.keys in
    let rows =
    c.leave.ensures ∙ ap (λ (rows : List ReachRow). rows_without rows c.args.id) c.self.invariant.1 ∙ rows_left c.self.inside.collectors.items known c.args.id ∙ ap (λ (cs : List Collector). reach_rows cs known) (sym c.take_out.ensures) in
    (rw c.take_out.ensures (leave_kept _ (λ (x : Collector). not (x.id == c.args.id)) c.self.invariant.0), rows, c.self.invariant.2)
