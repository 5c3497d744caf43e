-- Memory that ends while reports are chosen.
use Rattle.std.proofs.Common.{◌≡◌, ℕ, true, cond, List, Bool, Result, Ok, Err, OnErr, sym, ap, subst, ◌∙◌}
use Rattle.agent_core.specs.Told.{Told}
use Rattle.agent_core.specs.Offered.{part_after}
use Rattle.agent_core.specs.Agents.{Cut, State, may_report, next}
use Rattle.agent_core.specs.declared.target.Series.{Series}
use Rattle.agent_core.specs.declared.target.Listed.{Listed}
use Rattle.agent_core.specs.declared.slot.Point.{Point}
use Rattle.agent_core.specs.declared.sharing.LastScrape.{LastScrape}

cut_to : (s old : State) (told : Told) (targets : List Listed) (now : ℕ) (said : List (Series × List Point)) (lasts : List (Series × List LastScrape)) (x y : ℕ) → s ≡ old → targets ≡ s.targets → may_report old now ≡ true
    → told ≡ part_after s.told s.head said lasts targets x y → record s { told = told } ≡ next old (Cut now said lasts x y)
cut_to s old told targets now said lasts x y same at opens e =
    let part = part_after s.told s.head said lasts s.targets x y in
    let to : told ≡ part = e ∙ ap (λ (ts : List Listed). part_after s.told s.head said lasts ts x y) at in
    subst (λ (o : State). may_report o now ≡ true → record s { told = told } ≡ next o (Cut now said lasts x y)) same
    (λ m. (λ i. record s { told = to i }) ∙ sym (ap (λ (b : Bool). cond b (record s { told = part }) s) m)) opens

pub cut_after : {A E : Type 0} (r : Result A E) (s old : State) (told : Told) (targets : List Listed) (now : ℕ) (said : List (Series × List Point)) (lasts : List (Series × List LastScrape)) → s ≡ old → targets ≡ s.targets
    → may_report old now ≡ true → OnErr r ((x : ℕ) × ((y : ℕ) × (told ≡ part_after s.told s.head said lasts targets x y)))
    → OnErr r ((x : ℕ) × ((y : ℕ) × (record s { told = told } ≡ next old (Cut now said lasts x y))))
cut_after (Ok v) s old told targets now said lasts same at opens h = tt
cut_after (Err e) s old told targets now said lasts same at opens h = (h.0, (h.1.0, cut_to s old told targets now said lasts h.0 h.1.0 same at opens h.1.1))
