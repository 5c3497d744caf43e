use Rattle.std.proofs.Common.{◌≡◌, ◌++◌, drop}
use Rattle.alloc_desk.specs.Views.{numbered_of}
use Rattle.alloc_desk.proofs.view.numbered.Given as goal

abbrev pub invariant-loop-number : goal.invariant-loop-number
invariant-loop-number l = l.all ++ numbered_of l.fn.core l.fn.job (drop l.number-index l.fn.numbers) ≡ numbered_of l.fn.core l.fn.job l.fn.numbers
