use Rattle.std.proofs.Common.{sym, ◌∙◌}
use Rattle.service_settings.specs.declared.duration.Unit.TheVariants.{Year}
use Rattle.service_settings.proofs.Lengths.{sum_at_part, sum_at_sum}
use Rattle.service_settings.proofs.duration.sum_of.Goals as goal

pub returns-in_err-part_length : goal.returns-in_err-part_length
returns-in_err-part_length c =
    c.from_residual.ensures
    ∙ sym (sum_at_part c.loop-unit.sum c.args.units.now c.loop-unit.unit-index Year c.loop-unit.left.now c.loop-unit-test.true (sym c.part_length.ensures ∙ c.in_err-part_length.was))
    ∙ c.loop-unit.invariant.summed

pub returns-in_err-sum : goal.returns-in_err-sum
returns-in_err-sum c =
    c.from_residual-in_err-sum.ensures
    ∙ sym (sum_at_sum c.loop-unit.sum c.in_ok-part_length.field-0 c.args.units.now c.loop-unit.unit-index Year c.loop-unit.left.now c.loop-unit-test.true (sym c.part_length.ensures ∙ c.in_ok-part_length.was) (sym c.up_to.ensures ∙ c.in_err-sum.was))
    ∙ c.loop-unit.invariant.summed
