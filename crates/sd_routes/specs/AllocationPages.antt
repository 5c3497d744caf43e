-- The JSON of allocations that were published. Members stand in byte order of their names.
use Rattle.std.specs.Prelude.{codes}
use Rattle.serde_json.specs.Data.{Data, string, object, no_members, member}
use Rattle.json_values.specs.Spelling.{list_data, number_data}
use Rattle.sd_routes.specs.FoundPages.{holder_data}
use Rattle.sd_routes.specs.declared.allocation_row.AllocationRow.{AllocationRow}
use Rattle.sd_routes.specs.declared.allocation_row.MoveRow.{MoveRow}

-- how many targets of a job moved from whom to whom
abbrev pub move_data : MoveRow → Data
move_data row =
    object (member (codes "count") (number_data row.count)
    (member (codes "from") (string row.from)
    (member (codes "job") (string row.job)
    (member (codes "to") (holder_data row.to) no_members))))

-- an allocation, with what moved with it
abbrev pub allocation_data : AllocationRow → Data
allocation_data row =
    object (member (codes "covered") (number_data row.covered)
    (member (codes "left") (number_data row.left)
    (member (codes "milliseconds") (number_data row.milliseconds)
    (member (codes "more_moves") (number_data row.more_moves)
    (member (codes "moved") (number_data row.moved)
    (member (codes "moves") (list_data move_data row.moves)
    (member (codes "number") (number_data row.number)
    (member (codes "published") (string row.published) no_members))))))))
