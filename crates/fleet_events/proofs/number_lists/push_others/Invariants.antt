use Rattle.std.proofs.Common.{◌≡◌, ◌++◌, drop}
use Rattle.std.specs.Prelude.{string_bytes}
use Rattle.fleet_events.specs.Lines.{after_commas}
use Rattle.fleet_events.proofs.number_lists.push_others.Given as goal

abbrev pub invariant-loop-number : goal.invariant-loop-number
invariant-loop-number l = string_bytes l.line ++ after_commas (drop l.number-index l.numbers) ≡ string_bytes l.fn.line ++ after_commas l.numbers
