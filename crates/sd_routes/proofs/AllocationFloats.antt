-- The page of allocations has no float, so its text is known.
use Rattle.std.proofs.Common.{◌≡◌, List, false, refl}
use Rattle.std.proofs.lemmas.Bool.{or_from}
use Rattle.serde_json.specs.Written.{has_float}
use Rattle.json_values.proofs.Lists.{no_float}
use Rattle.json_values.specs.Spelling.{list_data}
use Rattle.sd_routes.specs.AllocationPages.{allocation_data, move_data}
use Rattle.sd_routes.specs.declared.allocation_row.AllocationRow.{AllocationRow}
use Rattle.sd_routes.specs.declared.allocation_row.MoveRow.{MoveRow}
use Rattle.sd_routes.proofs.FoundFloats.{holder_no_float}

move_no_float : (row : MoveRow) → has_float (move_data row) ≡ false
move_no_float row = or_from _ _ refl (or_from _ _ refl (or_from _ _ refl (or_from _ _ (holder_no_float row.to) refl)))

allocation_no_float : (row : AllocationRow) → has_float (allocation_data row) ≡ false
allocation_no_float row =
    or_from _ _ refl (or_from _ _ refl (or_from _ _ refl (or_from _ _ refl (or_from _ _ refl (or_from _ _ (no_float move_data move_no_float row.moves) (or_from _ _ refl refl))))))

pub allocations_no_float : (rows : List AllocationRow) → has_float (list_data allocation_data rows) ≡ false
allocations_no_float = no_float allocation_data allocation_no_float
