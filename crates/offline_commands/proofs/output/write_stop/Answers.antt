use Rattle.std.proofs.Common.{◌≡◌, ℕ, List, subst, inr, refl}
use Rattle.offline_commands.specs.Ending.{stop_line}
use Rattle.offline_commands.specs.Writing.{IsWritten}
use Rattle.offline_commands.specs.declared.ending.Ending.TheVariants.{Stopped}
use Rattle.offline_commands.proofs.Writing.{part_longer}
use Rattle.offline_commands.proofs.Endings.{written_after}
use Rattle.offline_commands.proofs.output.write_stop.Goals as goal

pub returns-then-not-write_whole : goal.returns-then-not-write_whole
returns-then-not-write_whole g c = inr (refl, part_longer _ _ c.args.front.now (stop_line c.args.stop) c.write_whole.ensures.part)

pub returns : goal.returns
returns g c =
    let same : c.as_bytes.result.now ≡ stop_line c.args.stop = cc in
    let Wrote : List ℕ → Type 0 = λ line. IsWritten (Stopped c.args.stop) line (g.W.Write.contents c.write_whole.new.writer) (g.W.Write.contents c.write_last.new.writer) c.write_last.result in
    written_after _ _ _ _ _ c.args.front.now (stop_line c.args.stop) (c.write_whole.ensures.whole c.if-not-write_whole.false) (subst Wrote same c.write_last.ensures)
