-- The event that a request's body spells, or the first refusal: Shape, then BadName, then TooManyRules; and for a report Shape, then OtherEpoch (ReportLists has lists of them).
use Rattle.std.specs.Prelude.{ℕ, ◌==◌, List, [], length, nat_le, codes, Bool, true, false, Option, Some, None, Result, Ok, Err, option_map, option_and_then, if◌then◌else◌}
use Rattle.serde_json.specs.Data.{Data}
use Rattle.serde_json.specs.Find.{as_array, as_number, as_str, as_u64, get}
use Rattle.json_values.specs.Spelling.{member_in}
use Rattle.json_values.specs.Texts.{json_of}
use Rattle.fleet_events.specs.Reading.{report_in}
use Rattle.fleet_events.specs.declared.event.Event.{Event}
use Rattle.fleet_events.specs.declared.event.Event.TheVariants.{Join}
use Rattle.reach_rules.specs.OwnLimits.{LimitList, limits_in}
use Rattle.reach_rules.specs.Spelling.{rules_spelled}
use Rattle.reach_rules.specs.declared.reach.TheConstants.{MOST_RULES}
use Rattle.reach_rules.specs.declared.rule.ReachRule.{ReachRule}
use Rattle.sd_routes.specs.Asks.{name_said}
use Rattle.sd_routes.specs.Changes.{wanted_of}
use Rattle.sd_routes.specs.Epochs.{is_epoch}
use Rattle.sd_routes.specs.JoinMembers.{is_join_object}
use Rattle.sd_routes.specs.ReportLists.{reports_said}
use Rattle.sd_routes.specs.declared.ask.Ask.{Ask}
use Rattle.sd_routes.specs.declared.ask.Ask.TheVariants as ask
use Rattle.sd_routes.specs.declared.change.Change.TheVariants.{Leave, Drain, Release, SetLimits}
use Rattle.sd_routes.specs.declared.change.Wanted.{Wanted}
use Rattle.sd_routes.specs.declared.change.Wanted.TheVariants.{Event as AnEvent, Reports}
use Rattle.sd_routes.specs.declared.request_error.RequestError.{RequestError}
use Rattle.sd_routes.specs.declared.request_error.RequestError.TheVariants.{Shape, TooManyRules, OtherEpoch}
use Rattle.sd_routes.specs.declared.which_collector.WhichCollector.{WhichCollector}

-- what is there, or else Shape
abbrev pub or_shape : {T : Type 0} → Option T → Result T RequestError
or_shape None = Err Shape
or_shape (Some x) = Ok x

-- ---- join

-- a list of rules, however many
abbrev pub rules_in : Data → Option (List ReachRule)
rules_in d = option_and_then rules_spelled (as_array d)

-- the rules where they are at most 32, and nothing where they are more
abbrev pub few_of : List ReachRule → Option (List ReachRule)
few_of rules = if nat_le (length rules) MOST_RULES then Some rules else None

abbrev pub few_said : Option (List ReachRule) → Result (Option (List ReachRule)) RequestError
few_said None = Err Shape
few_said (Some rules) = Ok (few_of rules)

abbrev pub limits_said : Data → Result LimitList RequestError
limits_said d = or_shape (limits_in d)

-- a collector's own limits: it has none where the member is left out
abbrev pub limits_or_none_said : Option Data → Result LimitList RequestError
limits_or_none_said None = Ok []
limits_or_none_said (Some d) = limits_said d

-- BadName before TooManyRules
abbrev pub joined : Result (List ℕ) RequestError → Option (List ReachRule) → LimitList → Result Event RequestError
joined (Err e) reach limits = Err e
joined (Ok name) None limits = Err TooManyRules
joined (Ok name) (Some reach) limits = Ok (Join name reach limits)

-- Shape before both
abbrev pub join_of : Option (List ℕ) → Result (Option (List ReachRule)) RequestError → Result LimitList RequestError → Result Event RequestError
join_of None reach limits = Err Shape
join_of (Some name) (Err e) limits = Err e
join_of (Some name) (Ok reach) (Err e) = Err e
join_of (Some name) (Ok reach) (Ok limits) = joined (name_said name) reach limits

-- an object without other members and without longer texts: a collector's name, the rules by which it reaches targets, and the limits of its own
unfoldable pub join_said : Data → Result Event RequestError
join_said d =
    if is_join_object d then join_of (member_in as_str (codes "name") d) (few_said (member_in rules_in (codes "reach") d)) (limits_or_none_said (get (codes "limits") d))
    else Err Shape

-- ---- limits and reports

abbrev pub limits_set : WhichCollector → Result LimitList RequestError → Result (Option Wanted) RequestError
limits_set collector (Err e) = Err e
limits_set collector (Ok limits) = Ok (Some (wanted_of collector (SetLimits limits)))

-- the limits that the collector has of its own from now on
abbrev pub set_limits_said : WhichCollector → Data → Result (Option Wanted) RequestError
set_limits_said collector d = limits_set collector (or_shape (member_in limits_in (codes "limits") d))

-- Shape before OtherEpoch
abbrev pub reported : Option Event → Option Bool → Result Event RequestError
reported None is_current = Err Shape
reported (Some event) None = Err Shape
reported (Some event) (Some false) = Err OtherEpoch
reported (Some event) (Some true) = Ok event

-- a report as its event has it, whatever the member `event` says, of this epoch if it names one
abbrev pub report_said : ℕ → Data → Result Event RequestError
report_said epoch d = reported (report_in d) (is_epoch epoch (get (codes "epoch") d))

-- ---- all of them

abbrev pub an_event : Result Event RequestError → Result (Option Wanted) RequestError
an_event (Err e) = Err e
an_event (Ok event) = Ok (Some (AnEvent event))

abbrev pub the_reports : Result (List Event) RequestError → Result (Option Wanted) RequestError
the_reports (Err e) = Err e
the_reports (Ok events) = Ok (Some (Reports events))

-- the join of a body that is JSON
abbrev pub join_posted : Option Data → Result (Option Wanted) RequestError
join_posted None = Err Shape
join_posted (Some d) = an_event (join_said d)

-- one report, or a list of them where the body has a member `reports`
abbrev pub reports_by : ℕ → Data → Option Data → Result (Option Wanted) RequestError
reports_by epoch d None = an_event (report_said epoch d)
reports_by epoch d (Some list) = the_reports (reports_said epoch d)

-- the reports of a body that is JSON
abbrev pub reports_posted : ℕ → Option Data → Result (Option Wanted) RequestError
reports_posted epoch None = Err Shape
reports_posted epoch (Some d) = reports_by epoch d (get (codes "reports") d)

-- the limits of a body that is JSON
abbrev pub limits_put : WhichCollector → Option Data → Result (Option Wanted) RequestError
limits_put collector None = Err Shape
limits_put collector (Some d) = set_limits_said collector d

-- what a request asks for in this epoch, if it asks for an event
abbrev pub event_said : Ask → ℕ → List ℕ → Result (Option Wanted) RequestError
event_said (ask.Leave collector) epoch body = Ok (Some (wanted_of collector Leave))
event_said (ask.Drain collector) epoch body = Ok (Some (wanted_of collector Drain))
event_said (ask.Release collector) epoch body = Ok (Some (wanted_of collector Release))
event_said ask.Join epoch body = join_posted (json_of body)
event_said (ask.SetLimits collector) epoch body = limits_put collector (json_of body)
event_said ask.Report epoch body = reports_posted epoch (json_of body)
event_said _ epoch body = Ok None
