use Rattle.std.proofs.Common.{length}
use Rattle.etcd_turns.proofs.appending.+append_all.Given as goal

abbrev pub decreases-append_all : goal.decreases-append_all
decreases-append_all g l = length l.blocks.now
