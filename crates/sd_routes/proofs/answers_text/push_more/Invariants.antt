use Rattle.std.proofs.Common.{◌≡◌, ◌++◌, drop, string_bytes}
use Rattle.sd_routes.specs.AnswerTexts.{more_lines}
use Rattle.sd_routes.proofs.answers_text.push_more.Given as goal

abbrev pub invariant-loop-answer : goal.invariant-loop-answer
invariant-loop-answer l = string_bytes l.text ++ more_lines (drop l.answer-index l.answers) ≡ string_bytes l.fn.text ++ more_lines l.answers
