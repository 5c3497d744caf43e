use Rattle.std.proofs.Common.{◌≡◌, ◌∙◌, ℕ, List, length, take, ap, sym}
use Rattle.agent_core.specs.Told.{Told}
use Rattle.agent_core.specs.Offered.{after_offers, part_after}
use Rattle.agent_core.specs.Sharing.{offers}
use Rattle.agent_core.specs.declared.sharing.Offer.{Offer}
use Rattle.agent_core.proofs.ChoiceLemmas.{on_err}
use Rattle.agent_core.proofs.OfferLemmas.{part_all}
use Rattle.agent_core.proofs.choosing.choose_all.Goals as goal

pub returns-in_err-choose_offers-clause-err : goal.returns-in_err-choose_offers-clause-err
returns-in_err-choose_offers-clause-err c =
    let old = c.args.memory.now in
    let head = c.args.head in
    let said = c.args.said.now.entries in
    let lasts = c.args.lasts.now.entries in
    let targets = c.args.targets.now in
    let more = c.in_err-choose_offers.ensures.err.0 in
    on_err c.from_residual-in_err-choose_offers.result ((x : ℕ) × ((y : ℕ) × (c.choose_offers.new.memory ≡ part_after old head said lasts targets x y))) (
      length targets,
      (
        more,
        c.in_err-choose_offers.ensures.err.1
            ∙ ap (λ (os : List Offer). after_offers c.choose.new.memory head targets (take more os)) (c.as_slice.ensures.value ∙ c.in_ok-offers.ensures)
            ∙ ap (λ (t : Told). after_offers t head targets (take more (offers said targets lasts))) c.in_ok-reports.ensures.memory
            ∙ sym (part_all old head said lasts targets more),
      ),
    )
