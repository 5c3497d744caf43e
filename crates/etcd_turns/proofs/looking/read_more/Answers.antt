use Rattle.etcd_turns.proofs.Looks.{all_read}
use Rattle.etcd_turns.proofs.looking.read_more.Goals as goal

pub returns : goal.returns
returns g c = λ all. all_read g.E.Etcd.may_post _ _ _ _ _ _ _ c.in_ok-sight.ensures (c.stand_of-stand.ensures all).0 (c.stand_of-stand.ensures all).1
