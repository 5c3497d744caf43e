use Rattle.std.proofs.Common.{sym, ◌∙◌}
use Rattle.service_settings.proofs.Numbers.{digit_too_great}
use Rattle.service_settings.proofs.digits.number_of.Goals as goal

pub returns-in_err-number : goal.returns-in_err-number
returns-in_err-number c =
    c.from_residual.ensures
    ∙ sym (digit_too_great c.args.most c.args.text.now c.loop-byte.byte-index c.loop-byte.number c.loop-byte-test.true (sym c.is_digit.ensures ∙ c.if-not-is_digit.false) (sym c.in_err-number.ensures) c.loop-byte.invariant.read)
