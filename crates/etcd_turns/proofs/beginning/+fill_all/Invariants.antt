use Rattle.std.proofs.Common.{length}
use Rattle.etcd_turns.proofs.beginning.+fill_all.Given as goal

abbrev pub decreases-fill_all : goal.decreases-fill_all
decreases-fill_all g l = length l.blocks.now
