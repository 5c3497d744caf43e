-- Which reports are made of the points of shared series, point by point, and so of all that Prometheus said.
use Rattle.std.specs.Prelude.{ℕ, ◌&&◌, List, [], ◌∷◌, ◌++◌, Option, Some, None, nat_lt, option_and_then, slice_get, take, if◌then◌else◌}
use Rattle.std.specs.List.{cons_option}
use Rattle.agent_core.specs.Told.{Told, is_open, mark_of, report_of}
use Rattle.agent_core.specs.Choices.{after, chosen, with_chosen}
use Rattle.agent_core.specs.Sharing.{offers}
use Rattle.agent_core.specs.declared.target.Series.{Series}
use Rattle.agent_core.specs.declared.target.Listed.{Listed}
use Rattle.agent_core.specs.declared.slot.Point.{Point}
use Rattle.agent_core.specs.declared.report.Head.{Head}
use Rattle.agent_core.specs.declared.report.Report.{Report}
use Rattle.agent_core.specs.declared.sharing.LastScrape.{LastScrape}
use Rattle.agent_core.specs.declared.sharing.Offer.{Offer}

-- a point is reported of its target where nothing was told of that in the round, and it is behind the mark of its series
abbrev pub given_to : Told → Head → Point → Listed → Option Report
given_to told head point listed =
    if is_open told head.epoch head.round listed.target && nat_lt (mark_of told listed.series) point.time then Some (report_of head listed point) else None

abbrev pub chosen_offer : Told → Head → List Listed → Offer → Option Report
chosen_offer told head targets offer = option_and_then (given_to told head offer.point) (slice_get targets offer.place)

-- the reports of these points, one after the other
abbrev pub chosen_offers : Told → Head → List Listed → List Offer → List Report
chosen_offers told head targets [] = []
chosen_offers told head targets (offer ∷ offers) =
    let first = chosen_offer told head targets offer in
    cons_option first (chosen_offers (with_chosen told first) head targets offers)

-- what was told then
abbrev pub after_offers : Told → Head → List Listed → List Offer → Told
after_offers told head targets [] = told
after_offers told head targets (offer ∷ offers) = after_offers (with_chosen told (chosen_offer told head targets offer)) head targets offers

-- ---- all reports: first those of targets that have their series alone

abbrev pub all_chosen : Told → Head → List (Series × List Point) → List (Series × List LastScrape) → List Listed → List Report
all_chosen told head said lasts targets = chosen told head said targets ++ chosen_offers (after told head said targets) head targets (offers said targets lasts)

abbrev pub all_after : Told → Head → List (Series × List Point) → List (Series × List LastScrape) → List Listed → Told
all_after told head said lasts targets = after_offers (after told head said targets) head targets (offers said targets lasts)

-- what was told behind so many targets and so many points of shared series
abbrev pub part_after : Told → Head → List (Series × List Point) → List (Series × List LastScrape) → List Listed → ℕ → ℕ → Told
part_after told head said lasts targets count more = after_offers (after told head said (take count targets)) head targets (take more (offers said targets lasts))
