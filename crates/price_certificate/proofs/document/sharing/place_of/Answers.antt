use Rattle.std.proofs.Common.{◌≡◌, List, ℕ, true, length, subst, sym, ◌∙◌, arith}
use Rattle.std.specs.Cmp.Lexicographic.{pointwise}
use Rattle.std.specs.Prelude.{min, nat_eq}
use Rattle.price_certificate.specs.Problem.{row_of}
use Rattle.price_certificate.specs.Reach.{place_at}
use Rattle.price_certificate.proofs.First.{first_found}
use Rattle.price_certificate.proofs.Sharing.{is_place}
use Rattle.price_certificate.proofs.document.sharing.place_of.Goals as goal

pub returns-then-eq : goal.returns-then-eq
returns-then-eq c =
    let p = c.args.instance.now in
    let told = subst (λ (row : List ℕ). pointwise nat_eq c.row.result.now row ≡ true) c.row-row.ensures (sym c.eq.ensures ∙ c.if-eq.true) in
    let same = subst (λ (row : List ℕ). pointwise nat_eq row (row_of p c.args.item) ≡ true) c.row.ensures told in
    let here = is_place p c.args.firsts.now c.args.item c.loop-number.number same in
    sym (first_found (place_at p c.args.firsts.now c.args.item) (min (length c.args.firsts.now) 512) c.loop-number.number c.loop-number.number (omega arith) c.loop-number.invariant here)
