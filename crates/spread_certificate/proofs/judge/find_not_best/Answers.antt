use Rattle.std.proofs.Common.{◌≡◌, ℕ, List, None, length, ap, ◌∙◌}
use Rattle.spread_certificate.specs.Judged.{cap_fault}
use Rattle.spread_certificate.proofs.JudgeLemmas.{caps_fine}
use Rattle.spread_certificate.proofs.judge.find_not_best.Goals as goal

pub capped-requires : goal.capped-requires
capped-requires c =
    let caps = c.args.spread.now.caps in
    let none : cap_fault c.args.instance.now caps ≡ None = cc (c.in-None.ensures, c.as_slice.ensures) in
    ap (λ (x : List ℕ). length x) c.as_slice-2.ensures ∙ (caps_fine c.args.instance.now caps none).bins
