use Rattle.std.proofs.Common.{◌≡◌, ◌++◌, take, map}
use Rattle.serde_json.specs.View.{view}
use Rattle.serde_json.specs.declared.value.Value.{Value}
use Rattle.file_configs.specs.Sources.{source_of}
use Rattle.file_configs.proofs.sources.sources_of.Given as goal

abbrev pub invariant-loop-source : goal.invariant-loop-source
invariant-loop-source l = map view l.all.items ≡ map view (take l.source-index l.listed)

abbrev pub invariant-loop-entry : goal.invariant-loop-entry
invariant-loop-entry l = map view l.all.items ≡ map view l.listed ++ map (λ (v : Value). source_of (view v)) (take l.entry-index l.entries)
