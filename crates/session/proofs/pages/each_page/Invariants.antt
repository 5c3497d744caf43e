use Rattle.std.proofs.Common.{◌≡◌, ◌++◌, drop, option_map}
use Rattle.serde_json.specs.View.{items_view}
use Rattle.json_values.specs.Spelling.{all_in}
use Rattle.session.specs.Documents.{page_in}
use Rattle.session.proofs.pages.each_page.Given as goal

abbrev pub invariant-loop-value : goal.invariant-loop-value
invariant-loop-value l = option_map (λ xs. l.pages ++ xs) (all_in page_in (items_view (drop l.value-index l.values))) ≡ all_in page_in (items_view l.values)
