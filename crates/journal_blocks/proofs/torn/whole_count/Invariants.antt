use Rattle.std.proofs.Common.{◌≡◌, ℕ, List, take}
use Rattle.std.specs.Prelude.{map}
use Rattle.journal_blocks.specs.Blocks.{whole_count}
use Rattle.journal_blocks.proofs.torn.whole_count.Given as goal

abbrev pub invariant-loop-i : goal.invariant-loop-i
invariant-loop-i l = l.count ≡ whole_count (take l.i (map (λ b. b.now) l.blocks))
