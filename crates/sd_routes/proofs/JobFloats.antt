-- The page of a job has no float, so its text is known.
use Rattle.std.proofs.Common.{◌≡◌, ℕ, List, Option, Some, None, false, refl}
use Rattle.std.proofs.lemmas.Bool.{or_from}
use Rattle.serde_json.specs.Data.{no_members}
use Rattle.serde_json.specs.Written.{has_float}
use Rattle.json_values.proofs.Lists.{no_float}
use Rattle.sd_routes.specs.JobPages.{fault_or_null, job_row_data, source_data}
use Rattle.sd_routes.specs.declared.job_row.JobRow.{JobRow}
use Rattle.sd_routes.specs.declared.job_row.SourceRow.{SourceRow}
use Rattle.sd_routes.proofs.CollectorFloats.{number_no_float, with_held_no_float}

fault_no_float : (fault : Option (List ℕ)) → has_float (fault_or_null fault) ≡ false
fault_no_float None = refl
fault_no_float (Some text) = refl

source_no_float : (source : SourceRow) → has_float (source_data source) ≡ false
source_no_float source =
    or_from _ _ (number_no_float source.dropped) (or_from _ _ (fault_no_float source.fault) (or_from _ _ (number_no_float source.last_success)
    (or_from _ _ (number_no_float source.targets) (or_from _ _ refl (or_from _ _ (number_no_float source.without_address) refl)))))

pub job_row_no_float : (row : JobRow) → has_float (job_row_data row) ≡ false
job_row_no_float row =
    or_from _ _ (with_held_no_float no_members row.held refl) (or_from _ _ refl (or_from _ _ refl (or_from _ _ refl (or_from _ _ refl (or_from _ _ refl (or_from _ _ (no_float source_data source_no_float row.sources) (or_from _ _ refl refl)))))))
