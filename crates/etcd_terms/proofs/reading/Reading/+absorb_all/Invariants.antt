use Rattle.std.proofs.Common.{length}
use Rattle.etcd_terms.proofs.reading.Reading.+absorb_all.Given as goal

abbrev pub decreases-absorb_all : goal.decreases-absorb_all
decreases-absorb_all l = length l.found.now
