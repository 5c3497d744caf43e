use Rattle.std.proofs.Common.{◌≡◌, ◌++◌, drop, take}
use Rattle.agent_core.specs.Offered.{after_offers, chosen_offers}
use Rattle.agent_core.proofs.choosing.choose_offers.Given as goal

-- the reports so far and those of what is left are those of all
abbrev pub invariant-loop-offer : goal.invariant-loop-offer
invariant-loop-offer l =
    record {
      told : l.reports.items ++ chosen_offers l.memory l.head l.targets (drop l.offer-index l.offers) ≡ l.fn.reports.items ++ chosen_offers l.fn.memory l.head l.targets l.offers;
      so_far : l.memory ≡ after_offers l.fn.memory l.head l.targets (take l.offer-index l.offers);
      rest : after_offers l.memory l.head l.targets (drop l.offer-index l.offers) ≡ after_offers l.fn.memory l.head l.targets l.offers;
    }
