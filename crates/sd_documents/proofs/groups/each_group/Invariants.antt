use Rattle.std.proofs.Common.{◌≡◌, ◌++◌, drop, Ok}
use Rattle.serde_json.specs.View.{items_view}
use Rattle.sd_documents.specs.Reading.{◌>>=◌, each_said}
use Rattle.sd_documents.specs.Groups.{group_said}
use Rattle.sd_documents.proofs.groups.each_group.Given as goal

abbrev pub invariant-loop-value : goal.invariant-loop-value
invariant-loop-value l =
    each_said (group_said l.index l.part) (items_view (drop l.value-index l.values)) >>= (λ xs. Ok (l.groups ++ xs))
    ≡ each_said (group_said l.index l.part) (items_view l.values)
