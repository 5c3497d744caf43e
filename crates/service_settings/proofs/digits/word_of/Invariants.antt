use Rattle.std.proofs.Common.{◌≡◌, ◌+◌, drop, not}
use Rattle.std.specs.List.{prefix_len}
use Rattle.service_settings.specs.Digits.{is_digit}
use Rattle.service_settings.proofs.digits.word_of.Given as goal

abbrev pub invariant-loop-i : goal.invariant-loop-i
invariant-loop-i l = l.i + prefix_len (λ b. not (is_digit b)) (drop l.i l.text) ≡ prefix_len (λ b. not (is_digit b)) l.text
