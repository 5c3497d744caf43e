use Rattle.etcd_terms.proofs.Turns.{counts_what_is_kept}
use Rattle.etcd_terms.proofs.laws.counts_what_is_kept.Goals as goal

pub returns : goal.returns
returns c = counts_what_is_kept c.kept_is_there.ensures
