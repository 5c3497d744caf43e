use Rattle.std.proofs.Common.{ℕ, IsTrue, subst, sym, ◌∙◌}
use Rattle.std.proofs.lemmas.List.{length-map}
use Rattle.price_certificate.specs.Problem.{IsRow, IsMarked}
use Rattle.price_certificate.specs.Rows.{row_at, rows_of}
use Rattle.price_certificate.proofs.Placing.{new_problem}
use Rattle.price_certificate.proofs.instance.Instance.of_version.Goals as goal

pub invariant_of-result : goal.invariant_of-result
invariant_of-result c =
    let reached : IsTrue c.has_reach.result = cc in
    let rises : IsTrue c.is_row.result = cc in
    let row = subst (λ (n : ℕ). IsRow n c.args.draining.now) c.len.ensures (c.is_row.ensures.0 rises) in
    let marked = subst (λ (n : ℕ). IsMarked n c.args.draining.now c.in_ok-draining.draining.items) c.len-2.ensures c.in_ok-draining.ensures in
    (new_problem c.args.version c.args.limits c.as_slice.result.now c.args.draining.now (rows_of c.args.rows) c.args.before c.as_slice-2.result.now c.from_vec.result c.in_ok-draining.draining.items c.from_vec-2.result c.in_ok-before.before.items c.len-3.result c.len-4.result c.requires c.as_slice.ensures c.as_slice-2.ensures (c.len-3.ensures ∙ sym (length-map c.args.rows.list_of (row_at c.args.rows.lists))) c.len-4.ensures c.from_vec.ensures c.from_vec-2.ensures (c.has_reach.ensures.0 reached) row marked c.in_ok-before.ensures.ok).0
