-- What a line opens follows from the value that it says.
use Rattle.std.proofs.Common.{◌≡◌, ◌≤◌, ℕ, Bool, true, false, cond, List, Option, Some, None, refl}
use Rattle.std.specs.Prelude.{option_map, option_and_then, codes}
use Rattle.std.specs.Option.{ok_or, option_map_or}
use Rattle.std.specs.Result.{result_ok}
use Rattle.std.specs.Str.{is_utf8}
use Rattle.serde_json.specs.Data.{Data, depth}
use Rattle.serde_json.specs.Find.{get}
use Rattle.serde_json.specs.Read.{max_depth, read}
use Rattle.serde_json.proofs.Nesting.{depth-read}
use Rattle.json_values.specs.Texts.{json_of}
use Rattle.sd_documents.specs.Config.{config_said}
use Rattle.sd_documents.specs.Reading.{◌>>=◌}
use Rattle.sd_documents.specs.declared.error.SdError.TheVariants.{NotJson}
use Rattle.allocation_core.specs.State.{State}
use Rattle.core_history.specs.Rounds.{report_rounds_in, rounds_or_one}
use Rattle.fleet.specs.declared.job.JobSpec.{JobSpec}
use Rattle.replay_lines.specs.Configurations.{opened, opened_by, opened_from, specs_of}

depth_by : (utf8 : Bool) (bytes : List ℕ) (d : Data) → cond utf8 (read bytes) None ≡ Some d → depth d ≤ max_depth
depth_by true bytes d says = depth-read bytes d says
depth_by false bytes d says = cc

pub shallow : (bytes : List ℕ) (d : Data) → json_of bytes ≡ Some d → depth d ≤ max_depth
unfolding json_of
shallow bytes d says = depth_by (is_utf8 bytes) bytes d says

-- what these members open, and jobs
abbrev pub opened_parts : Option Data → Option Data → Option (List JobSpec) → Option State
opened_parts history rounds jobs = option_and_then (λ js. opened_by (rounds_or_one rounds) (opened_from history js)) jobs

-- what a value opens, where there is one
abbrev pub opened_data : Option Data → Option State
opened_data o =
    option_and_then (λ js. opened_by (option_map_or report_rounds_in o (Some 1)) (opened_from (option_and_then (get (codes "history")) o) js)) (option_map specs_of (result_ok (ok_or o NotJson >>= config_said)))

pub opened_as : (line : List ℕ) → opened line ≡ opened_data (json_of line)
unfolding opened
opened_as line = refl
