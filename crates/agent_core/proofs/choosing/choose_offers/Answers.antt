use Rattle.std.proofs.Common.{◌≡◌, ◌∙◌, ◌++◌, ◌+◌, ℕ, List, take, ap, drop, refl}
use Rattle.agent_core.specs.Told.{Told}
use Rattle.agent_core.specs.Choices.{with_chosen}
use Rattle.agent_core.specs.Offered.{after_offers, chosen_offers}
use Rattle.agent_core.specs.declared.report.Report.{Report}
use Rattle.agent_core.proofs.ChoiceLemmas.{on_err}
use Rattle.agent_core.proofs.OfferLemmas.{after_offers_more, after_offers_next, offers_more}
use Rattle.agent_core.proofs.choosing.choose_offers.Goals as goal

pub loop-offer-preserved : goal.loop-offer-preserved
loop-offer-preserved c =
    let told = c.loop-offer.memory in
    let head = c.args.head in
    let targets = c.args.targets.now in
    let offers = c.args.offers.now in
    let i = c.loop-offer.offer-index in
    let o = c.in_ok-report.report in
    let one = c.in_ok-report.ensures.report in
    let memory : c.choose_offer.new.memory ≡ with_chosen told o = c.in_ok-report.ensures.memory in
    record {
      told =
          ap (λ (t : Told). c.add.new.items.items ++ chosen_offers t head targets (drop (i + 1) offers)) memory
          ∙ ap (λ (rs : List Report). rs ++ chosen_offers (with_chosen told o) head targets (drop (i + 1) offers)) c.in_ok-add.ensures
          ∙ offers_more told head targets offers i _ _ o c.loop-offer.reports.items c.loop-offer-test.true refl one
          ∙ c.loop-offer.invariant.told;
      so_far = memory ∙ after_offers_next c.args.memory.now head targets offers i _ _ o told c.loop-offer-test.true refl c.loop-offer.invariant.so_far one;
      rest =
          ap (λ (t : Told). after_offers t head targets (drop (i + 1) offers)) memory
          ∙ after_offers_more told head targets offers i _ _ o c.loop-offer-test.true refl one
          ∙ c.loop-offer.invariant.rest;
    }

pub returns-in_err-add-clause-err : goal.returns-in_err-add-clause-err
returns-in_err-add-clause-err c =
    let told = c.loop-offer.memory in
    let head = c.args.head in
    let targets = c.args.targets.now in
    let offers = c.args.offers.now in
    let i = c.loop-offer.offer-index in
    let o = c.in_ok-report.report in
    let one = c.in_ok-report.ensures.report in
    let memory : c.choose_offer.new.memory ≡ with_chosen told o = c.in_ok-report.ensures.memory in
    on_err c.from_residual-in_err-add.result ((count : ℕ) × (c.choose_offer.new.memory ≡ after_offers c.args.memory.now head targets (take count offers)))
    (i + 1, memory ∙ after_offers_next c.args.memory.now head targets offers i _ _ o told c.loop-offer-test.true refl c.loop-offer.invariant.so_far one)
