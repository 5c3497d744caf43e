-- The allocator that the first line of a replay opens: the line is the document of a configuration, and where it has a member
-- `history` the allocator goes on from the state that this says. Its member `report_rounds` says of how many of the last rounds a report is
-- booked: 1 where it is left out.
use Rattle.std.specs.Prelude.{ℕ, ◌+◌, ◌==◌, List, [], ◌∷◌, Bool, true, false, ◌&&◌, length, map, Option, Some, None, option_map, option_and_then, Result, Ok, Err, codes, if◌then◌else◌}
use Rattle.std.specs.Option.{option_map_or}
use Rattle.std.specs.Str.{bytes_eq}
use Rattle.serde_json.specs.Data.{Data}
use Rattle.serde_json.specs.Find.{get}
use Rattle.json_values.specs.Texts.{json_of}
use Rattle.std.specs.Result.{result_ok}
use Rattle.sd_documents.specs.Config.{ConfigData, JobData, config_read}
use Rattle.fleet.specs.Jobs.{are_jobs}
use Rattle.allocation_core.specs.State.{State, first_state, with_rounds}
use Rattle.core_history.specs.History.{history_in}
use Rattle.core_history.specs.Rounds.{report_rounds_in}
use Rattle.core_history.specs.declared.error.HistoryError.{HistoryError}
use Rattle.fleet.specs.declared.job.JobSpec.{JobSpec}

-- A job has one source for its static groups, and one for each URL of its service discovery by HTTP.
abbrev pub spec_of : JobData → JobSpec
spec_of job = record { name = job.settings.name; target_limit = job.settings.target_limit; sources = 1 + length job.parts.http_urls }

abbrev pub specs_of : ConfigData → List JobSpec
specs_of config = map spec_of config.jobs

-- the jobs of a configuration that is read without a fault
abbrev pub jobs_in : List ℕ → Option (List JobSpec)
jobs_in line = option_map specs_of (result_ok (config_read line))

-- the allocator of these jobs
abbrev pub opened_with : List JobSpec → Option State
opened_with jobs = if are_jobs jobs then Some (first_state jobs 1) else None

abbrev pub same_job : JobSpec → JobSpec → Bool
same_job a b = bytes_eq a.name b.name && (a.target_limit == b.target_limit) && (a.sources == b.sources)

abbrev pub same_jobs : List JobSpec → List JobSpec → Bool
same_jobs [] [] = true
same_jobs [] (b ∷ others) = false
same_jobs (a ∷ more) [] = false
same_jobs (a ∷ more) (b ∷ others) = same_job a b && same_jobs more others

-- the state of a history, where its jobs are these
abbrev pub resumed_with : List JobSpec → Result State HistoryError → Option State
resumed_with jobs (Err e) = None
resumed_with jobs (Ok m) = if same_jobs m.fleet.jobs jobs then Some m else None

-- the allocator of these jobs, from the state that the history says where there is one
abbrev pub opened_from : Option Data → List JobSpec → Option State
opened_from None jobs = opened_with jobs
opened_from (Some history) jobs = resumed_with jobs (history_in history)

-- the member `history` of a line that is JSON
abbrev pub history_of : List ℕ → Option Data
history_of line = option_and_then (get (codes "history")) (json_of line)

-- what a line says of how many rounds reports are booked, 1 where it is no JSON
abbrev pub rounds_of : List ℕ → Option ℕ
rounds_of line = option_map_or report_rounds_in (json_of line) (Some 1)

-- an allocator that books reports of so many rounds, and none where this is no number of rounds
abbrev pub opened_by : Option ℕ → Option State → Option State
opened_by None opened = None
opened_by (Some report_rounds) opened = option_map (with_rounds report_rounds) opened

abbrev pub opened_in : List ℕ → List JobSpec → Option State
opened_in line jobs = opened_by (rounds_of line) (opened_from (history_of line) jobs)

unfoldable pub opened : List ℕ → Option State
opened line = option_and_then (opened_in line) (jobs_in line)
