use Rattle.std.proofs.Common.{◌≡◌, ◌++◌, ℕ, List, All, false, length}
use Rattle.std.specs.Prelude.{map}
use Rattle.std.specs.List.{concat}
use Rattle.journal_blocks.specs.Blocks.{AreBlocks, IsOfSize}
use Rattle.journal_blocks.proofs.BlockLemmas.{within_after}
use Rattle.journal_blocks.proofs.blocks.cut.Given as goal

abbrev pub invariant-loop-rest : goal.invariant-loop-rest
invariant-loop-rest l =
    let blocks : List (List ℕ) = map (λ b. b.now) l.blocks.items in
    record { whole : concat blocks ++ l.rest ≡ l.text; sizes : All IsOfSize blocks; lines : AreBlocks false blocks; state : within_after false blocks ≡ l.within }

abbrev pub decreases-loop-rest : goal.decreases-loop-rest
decreases-loop-rest l = length l.rest
