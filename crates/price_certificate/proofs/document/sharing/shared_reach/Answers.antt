use Rattle.std.proofs.Common.{ap, map, ◌∙◌}
use Rattle.serde_json.proofs.Views.{view-Object}
use Rattle.price_certificate.specs.Problem.{row_of}
use Rattle.price_certificate.specs.Reach.{Sharing, rows_in, shared_rows}
use Rattle.price_certificate.proofs.Sharing.{reads_back}
use Rattle.price_certificate.proofs.document.sharing.shared_reach.Goals as goal

pub returns-in-Ok-clause-reads_back : goal.returns-in-Ok-clause-reads_back
returns-in-Ok-clause-reads_back c =
    let p = c.args.instance.now in
    ap rows_in (view-Object c.put_members.new.members) ∙ c.in-Ok.ensures.reads_back ∙ ap (λ (s : Sharing). shared_rows (map (row_of p) s.firsts) s.list_of) c.in_ok-sharing.ensures ∙ reads_back p c.is_problem.ensures
