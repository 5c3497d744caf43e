use Rattle.std.proofs.Common.{◌≡◌, ◌∙◌, None, Some, refl, sym, subst}
use Rattle.spread_certificate.specs.Judged.{best_fault, told_fault}
use Rattle.spread_certificate.specs.declared.spread.Spread.{Spread}
use Rattle.spread_engine.proofs.SpreadLemmas.{best_and_told, same_best}
use Rattle.spread_engine.proofs.spreading.with_even.Goals as goal

pub returns-in-None-clause-judged : goal.returns-in-None-clause-judged
returns-in-None-clause-judged c =
    let p = c.args.instance.now in
    let best = subst (λ (s : Spread). best_fault p s ≡ None) (sym c.telling-shown.ensures) (same_best p c.args.spread c.args.even c.requires.best) in
    best_and_told p c.telling-shown.result best (sym c.in_ok-check_even.ensures ∙ c.in-None.is)

pub returns-in-Some-clause-judged : goal.returns-in-Some-clause-judged
returns-in-Some-clause-judged c =
    let p = c.args.instance.now in
    let shown = c.telling-shown.result in
    let best = subst (λ (s : Spread). best_fault p s ≡ None) (sym c.telling-shown.ensures) (same_best p c.args.spread c.args.even c.requires.best) in
    let last = subst (λ (s : Spread). best_fault p s ≡ None) (sym c.telling.ensures) (same_best p shown None best) in
    best_and_told p c.telling.result last (subst (λ (s : Spread). told_fault p s s.even ≡ None) (sym c.telling.ensures) refl)
