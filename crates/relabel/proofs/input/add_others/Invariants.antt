use Rattle.std.proofs.Common.{◌≡◌, ◌++◌, flat_map, take, string_bytes}
use Rattle.label_sets.specs.Labels.{label_text}
use Rattle.relabel.proofs.input.add_others.Given as goal

abbrev pub invariant-loop-name : goal.invariant-loop-name
invariant-loop-name l =
    string_bytes l.text ≡ string_bytes l.fn.text ++ flat_map (λ name. l.separator ++ label_text l.labels name) (take l.name-index l.names)
