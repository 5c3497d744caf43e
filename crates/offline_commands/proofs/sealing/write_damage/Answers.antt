use Rattle.std.proofs.Common.{ℕ, List, inl, subst, ◌∙◌}
use Rattle.offline_commands.specs.Writing.{IsWritten}
use Rattle.offline_commands.specs.declared.ending.Ending.TheVariants.{Answered}
use Rattle.offline_commands.specs.declared.ending.Status.TheVariants.{Unreadable}
use Rattle.offline_commands.proofs.sealing.write_damage.Goals as goal

pub returns-in-Ok : goal.returns-in-Ok
returns-in-Ok g c =
    inl (subst (λ (t : List ℕ). IsWritten (Answered Unreadable) t (g.W.Write.contents c.args.writer.now) (g.W.Write.contents c.write_last.new.writer) c.write_last.result)
    (c.as_bytes.ensures.value ∙ c.in-Ok.ensures) c.write_last.ensures)
