-- A list of reports: of one collector, by one list of its, in one round; or the first refusal: Shape, then TooLong, then OtherEpoch.
use Rattle.std.specs.Prelude.{ℕ, List, length, nat_le, Bool, true, false, codes, Option, Some, None, Result, Ok, Err, option_map, option_and_then, if◌then◌else◌}
use Rattle.serde_json.specs.Data.{Data, Items}
use Rattle.serde_json.specs.Find.{as_array, get}
use Rattle.json_values.specs.Spelling.{all_in, list_in, member_in, number_in}
use Rattle.fleet_events.specs.Reading.{outcome_in, reported}
use Rattle.fleet_events.specs.declared.event.Event.{Event}
use Rattle.sd_routes.specs.Epochs.{is_epoch}
use Rattle.sd_routes.specs.declared.report_list.TheConstants.{MOST_REPORTS}
use Rattle.sd_routes.specs.declared.request_error.RequestError.{RequestError}
use Rattle.sd_routes.specs.declared.request_error.RequestError.TheVariants.{Shape, TooLong, OtherEpoch}

-- one of them: the number of the target, and what its scrape came to
abbrev pub entry_in : ℕ → ℕ → ℕ → Data → Option Event
entry_in collector allocation round d =
    option_and_then (λ target. option_map (reported collector allocation target round) (outcome_in d)) (member_in number_in (codes "target") d)

abbrev pub entries_in : ℕ → ℕ → ℕ → Items → Option (List Event)
entries_in collector allocation round items = all_in (entry_in collector allocation round) items

-- the numbers of the collector, of the allocation and of the round, and each report in order
unfoldable pub reports_in : Data → Option (List Event)
reports_in d =
    option_and_then
    (λ collector. option_and_then (λ allocation. option_and_then (λ round. member_in (list_in (entry_in collector allocation round)) (codes "reports") d) (member_in number_in (codes "round") d))
    (member_in number_in (codes "number") d)) (member_in number_in (codes "collector") d)

-- at most so many, and then of this epoch
abbrev pub few_said : List Event → Bool → Result (List Event) RequestError
few_said events is_current =
    if nat_le (length events) MOST_REPORTS then (if is_current then Ok events else Err OtherEpoch)
    else Err TooLong

abbrev pub listed : Option (List Event) → Option Bool → Result (List Event) RequestError
listed None is_current = Err Shape
listed (Some events) None = Err Shape
listed (Some events) (Some is_current) = few_said events is_current

unfoldable pub reports_said : ℕ → Data → Result (List Event) RequestError
reports_said epoch d = listed (reports_in d) (is_epoch epoch (get (codes "epoch") d))
