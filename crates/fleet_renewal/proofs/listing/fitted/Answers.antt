use Rattle.std.proofs.Common.{refl, ◌∙◌}
use Rattle.std.specs.List.{filter_map}
use Rattle.fleet_renewal.specs.Tables.{number_in}
use Rattle.fleet_renewal.proofs.ListingLemmas.{fitted_next}
use Rattle.fleet_renewal.proofs.listing.fitted.Goals as goal

pub loop-source-preserved : goal.loop-source-preserved
loop-source-preserved c =
    fitted_next c.loop-source.source (filter_map (number_in c.args.numbers.now)) c.args.lists.now c.loop-source.renewed.items c.push.new.self.items c.from_vec.result refl c.loop-source.invariant (c.from_vec.ensures ∙ c.in_ok-list.ensures)
    c.in_ok-push.ensures.items
