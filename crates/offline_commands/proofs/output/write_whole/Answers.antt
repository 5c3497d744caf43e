use Rattle.std.proofs.Common.{Bor, subst, sym, ap, ℕ, List}
use Rattle.offline_commands.specs.Writing.{HasLeft}
use Rattle.offline_commands.proofs.Writing.{left_less, left_kept}
use Rattle.offline_commands.proofs.output.write_whole.Goals as goal
use Rattle.offline_commands.proofs.output.write_whole.Goals.{in-Ok, in-Err+else-ne}

pub loop-turn-preserved : goal.loop-turn-preserved
loop-turn-preserved g c =
    let Left : List ℕ → Type 0 = HasLeft (g.W.Write.contents c.args.writer.now) (g.W.Write.contents c.write.new.self) c.args.bytes.now in
    elim c.match-write.branch [
      | in-Ok w ↦ subst Left (sym (ap (λ (r : Bor (List ℕ)). r.now) w.rest-is)) (left_less _ _ _ _ _ w.in-Ok.count c.loop-turn.invariant w.in-Ok.ensures.bytes)
      | in-Err+else-ne w ↦ subst Left (sym (ap (λ (r : Bor (List ℕ)). r.now) w.rest-is)) (left_kept _ _ _ _ _ c.loop-turn.invariant w.in-Err.ensures.bytes)
    ]
