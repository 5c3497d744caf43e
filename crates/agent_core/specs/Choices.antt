-- Which reports are made of what Prometheus said, target by target.
use Rattle.std.specs.Prelude.{◌&&◌, List, [], ◌∷◌, Option, None, Some, unwrap_or, if◌then◌else◌}
use Rattle.std.specs.List.{cons_option}
use Rattle.std.specs.Map.{lookup}
use Rattle.std.specs.Option.{option_map}
use Rattle.agent_core.specs.Targets.{same_series}
use Rattle.agent_core.specs.Told.{Told, is_open, mark_of, report_of, slot, with_report}
use Rattle.agent_core.specs.declared.target.Series.{Series}
use Rattle.agent_core.specs.declared.target.Listed.{Listed}
use Rattle.agent_core.specs.declared.slot.Point.{Point}
use Rattle.agent_core.specs.declared.report.Head.{Head}
use Rattle.agent_core.specs.declared.report.Report.{Report}

-- the scrapes of a series
abbrev pub points_of : List (Series × List Point) → Series → List Point
points_of said series = unwrap_or (lookup (same_series series) said) []

-- of a target that has its series alone, and of which was not told in the round, the next scrape
abbrev pub chosen_of : Told → Head → List Point → Listed → Option Report
chosen_of told head points listed =
    if listed.alone && is_open told head.epoch head.round listed.target then option_map (report_of head listed) (slot (mark_of told listed.series) points) else None

abbrev pub with_chosen : Told → Option Report → Told
with_chosen told None = told
with_chosen told (Some report) = with_report told report

-- the reports of these targets, one after the other
abbrev pub chosen : Told → Head → List (Series × List Point) → List Listed → List Report
chosen told head said [] = []
chosen told head said (listed ∷ targets) =
    let first = chosen_of told head (points_of said listed.series) listed in
    cons_option first (chosen (with_chosen told first) head said targets)

-- what was told then
abbrev pub after : Told → Head → List (Series × List Point) → List Listed → Told
after told head said [] = told
after told head said (listed ∷ targets) = after (with_chosen told (chosen_of told head (points_of said listed.series) listed)) head said targets
