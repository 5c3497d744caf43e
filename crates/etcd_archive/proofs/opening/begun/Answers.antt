use Rattle.std.proofs.Common.{ap}
use Rattle.etcd_archive.proofs.opening.begun.Goals as goal

pub returns-in-Ok : goal.returns-in-Ok
returns-in-Ok g c =
    record {
      begun = c.in-Ok.next;
      form = c.in-Ok.ensures.form;
      file_is = ap (λ w. w.file) c.begun.ensures;
      bytes_is = ap (λ w. w.bytes) c.begun.ensures;
      chain_is = ap (λ w. w.chain) c.begun.ensures;
    }
