-- The first line of a journal.
use Rattle.std.specs.Prelude.{◌≡◌, ℕ, List, Bool, Option, Some, None, option_map, option_and_then, false, true, codes, if◌then◌else◌}
use Rattle.std.specs.Option.{option_map_or}
use Rattle.serde_json.specs.Data.{Data, object, put}
use Rattle.serde_json.specs.Find.{as_object}
use Rattle.serde_json.specs.Written.{compact_text, has_float}
use Rattle.json_values.specs.Spelling.{number_data}
use Rattle.json_values.specs.Texts.{json_of}
use Rattle.allocation_core.specs.State.{State, current_pairs, restored}
use Rattle.core_history.specs.History.{history_data, history_in, is_allocation, slots_of, slots_said}
use Rattle.fleet.specs.declared.job.JobSpec.{JobSpec}
use Rattle.replay_lines.specs.Configurations.{jobs_in, opened, opened_by, resumed_with, same_jobs}
use Rattle.durable_journal.specs.Marks.{marked}

-- A value with whole numbers alone has its compact text as its line, and where there is none there is no line.
abbrev pub IsLineGiven : Option Data → Option (List ℕ) → Type 0
IsLineGiven None line = line ≡ None
IsLineGiven (Some d) line = has_float d ≡ false → line ≡ Some (compact_text d)

-- ---- with the history of a state

-- an object with the history as its member, and of how many rounds reports are booked, in place of those that it may have
abbrev pub with_history : State → Data → Option Data
with_history m d = option_map (λ ms. object (put (codes "report_rounds") (number_data m.report_rounds) (put (codes "history") (history_data m) ms))) (as_object d)

-- the document is read without a fault, and these are its jobs
abbrev pub has_jobs : List JobSpec → List ℕ → Bool
has_jobs jobs document = option_map_or (same_jobs jobs) (jobs_in document) false

-- the value of a first line with the history of a state, where the jobs of the document are the state's
abbrev pub renewed_value : State → List ℕ → Option Data
renewed_value m document = if has_jobs m.fleet.jobs document then option_and_then marked (option_and_then (with_history m) (json_of document)) else None

-- the state that goes on from the history, where the jobs of the document are its own, with reports booked of as many rounds as before
abbrev pub goes_on : State → List ℕ → Option State
goes_on m document = option_and_then (λ jobs. opened_by (Some m.report_rounds) (resumed_with jobs (history_in (history_data m)))) (jobs_in document)

-- Where the allocation names known targets and live collectors, as that of a renewed state does, the line opens the state without
-- its earlier allocations, takes and reports: a renewed state whole.
abbrev pub OpensAgain : State → List ℕ → List ℕ → Type 0
OpensAgain m document line =
    (jobs : List JobSpec) → is_allocation m.fleet (current_pairs m) ≡ true → jobs_in document ≡ Some jobs → same_jobs m.fleet.jobs jobs ≡ true
    → opened line ≡ Some (restored m.fleet (current_pairs m) (slots_of m.fleet (slots_said m.served.slots)) m.problem m.plan m.round m.report_rounds)
