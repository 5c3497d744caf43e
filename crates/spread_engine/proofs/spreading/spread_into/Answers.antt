use Rattle.std.proofs.Common.{◌≡◌, ℕ, List, sym, ap, subst, ◌∙◌}
use Rattle.price_certificate.specs.Problem.{Problem}
use Rattle.price_certificate.specs.Assignment.{IsOptimal}
use Rattle.price_certificate.specs.Certificate.{IsCertified}
use Rattle.price_certificate.specs.Derived.{bare, capped}
use Rattle.spread_certificate.specs.Within.{IsBestWithin}
use Rattle.spread_certificate.proofs.WithinLemmas.{both_are_best_within, caps_cost_nothing, prices_carry_over}
use Rattle.spread_engine.proofs.spreading.spread_into.Goals as goal

pub returns-clause-best : goal.returns-clause-best
returns-clause-best c =
    let p = c.args.instance.now in
    let caps = c.args.caps.items in
    let pairs = c.in_ok-plan.plan.pairs in
    let is : c.in_ok-capped.capped ≡ capped caps p = c.in_ok-capped.ensures ∙ ap (λ (x : List ℕ). capped x p) c.as_slice.ensures.value in
    let within : IsOptimal (capped caps p) pairs = subst (λ (q : Problem). IsOptimal q pairs) is c.in_ok-plan.ensures.optimal in
    let free = c.requires.free in
    let best = caps_cost_nothing p caps free.witness pairs c.is_problem.ensures c.requires.caps free.best free.within within in
    subst (λ (x : List ℕ). IsBestWithin x p pairs) (sym c.from_vec.ensures) (both_are_best_within p caps pairs c.is_problem.ensures c.requires.caps best within)

pub returns-clause-within : goal.returns-clause-within
returns-clause-within c =
    let p = c.args.instance.now in
    let plan = c.in_ok-plan.plan in
    let is : c.in_ok-capped.capped ≡ capped c.from_vec.result p = c.in_ok-capped.ensures ∙ ap (λ (x : List ℕ). capped x p) (c.as_slice.ensures.value ∙ sym c.from_vec.ensures) in
    subst (λ (q : Problem). IsCertified q plan.pairs plan.item_prices plan.bin_prices) is c.in_ok-plan.ensures.certified

pub returns-clause-free : goal.returns-clause-free
returns-clause-free c =
    let p = c.args.instance.now in
    let caps = c.args.caps.items in
    let pairs = c.in_ok-plan.plan.pairs in
    let is : c.in_ok-capped.capped ≡ capped caps p = c.in_ok-capped.ensures ∙ ap (λ (x : List ℕ). capped x p) c.as_slice.ensures.value in
    let within : IsOptimal (capped caps p) pairs = subst (λ (q : Problem). IsOptimal q pairs) is c.in_ok-plan.ensures.optimal in
    let free = c.requires.free in
    let best = caps_cost_nothing p caps free.witness pairs c.is_problem.ensures c.requires.caps free.best free.within within in
    let first = c.in_ok-free.free in
    let certified : IsCertified (bare p) first.pairs first.item_prices first.bin_prices = subst (λ (q : Problem). IsCertified q first.pairs first.item_prices first.bin_prices) c.in_ok-bare.ensures c.in_ok-free.ensures in
    prices_carry_over p first.pairs pairs first.item_prices first.bin_prices c.is_problem.ensures certified best
