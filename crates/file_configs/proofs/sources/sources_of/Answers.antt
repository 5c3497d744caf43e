use Rattle.std.proofs.Common.{List, ◌++◌, map, ap, ◌∙◌, arith}
use Rattle.std.proofs.lemmas.List.{take_all}
use Rattle.serde_json.specs.View.{view, items_of}
use Rattle.serde_json.specs.declared.value.Value.{Value}
use Rattle.file_configs.specs.Sources.{source_of}
use Rattle.file_configs.proofs.InOrder.{entries_behind}
use Rattle.file_configs.proofs.sources.sources_of.Goals as goal

pub returns : goal.returns
returns c =
    let listed = c.args.listed.now in
    let entries = c.args.entries.now in
    ap items_of c.loop-entry.invariant
    ∙ ap (λ (es : List Value). items_of (map view listed ++ map (λ (v : Value). source_of (view v)) es)) (take_all c.loop-entry.entry-index entries (omega arith))
    ∙ entries_behind listed entries
