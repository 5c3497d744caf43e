-- The page of targets that were searched for has no float, so its text is known.
use Rattle.std.proofs.Common.{◌≡◌, ℕ, List, Option, Some, None, false, refl}
use Rattle.std.proofs.lemmas.Bool.{or_from}
use Rattle.serde_json.specs.Written.{has_float}
use Rattle.json_values.proofs.Lists.{no_float}
use Rattle.json_values.specs.Spelling.{list_data}
use Rattle.sd_routes.specs.FoundPages.{found_data, holder_data, target_data}
use Rattle.sd_routes.specs.declared.found_targets.FoundTarget.{FoundTarget}
use Rattle.sd_routes.proofs.CollectorFloats.{number_no_float}
use Rattle.sd_routes.proofs.Floats.{labels_data_no_float}

pub holder_no_float : (holder : Option (List ℕ)) → has_float (holder_data holder) ≡ false
holder_no_float None = refl
holder_no_float (Some name) = refl

target_no_float : (found : FoundTarget) → has_float (target_data found) ≡ false
target_no_float found =
    or_from _ _ (holder_no_float found.collector) (or_from _ _ refl (or_from _ _ refl (or_from _ _ (labels_data_no_float found.target.target.labels found.target.number)
    (or_from _ _ (number_no_float found.last_round) (or_from _ _ (number_no_float found.since) (or_from _ _ refl refl))))))

pub found_no_float : (all : ℕ) (found : List FoundTarget) → has_float (found_data all found) ≡ false
found_no_float all found = or_from _ _ refl (or_from _ _ (no_float target_data target_no_float found) refl)
