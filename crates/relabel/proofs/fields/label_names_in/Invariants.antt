use Rattle.std.proofs.Common.{◌≡◌, ◌++◌, drop, Ok}
use Rattle.serde_json.specs.View.{items_view}
use Rattle.relabel.specs.Reading.{◌>>=◌}
use Rattle.relabel.specs.Spelling.{label_names_from}
use Rattle.relabel.proofs.fields.label_names_in.Given as goal

abbrev pub invariant-loop-value : goal.invariant-loop-value
invariant-loop-value l =
    label_names_from (items_view (drop l.value-index l.values)) >>= (λ names. Ok (l.names ++ names)) ≡ label_names_from (items_view l.values)
