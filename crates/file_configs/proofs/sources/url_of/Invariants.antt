use Rattle.std.proofs.Common.{◌≡◌, drop, codes, string_bytes}
use Rattle.serde_json.specs.View.{items_view}
use Rattle.file_configs.specs.Sources.{lines_from}
use Rattle.file_configs.proofs.sources.url_of.Given as goal

abbrev pub invariant-loop-path : goal.invariant-loop-path
invariant-loop-path l = lines_from (string_bytes l.url) (items_view (drop l.path-index l.path-items)) ≡ lines_from (codes "file:") (items_view l.path-items)
