use Rattle.std.proofs.Common.{◌≡◌, drop}
use Rattle.serde_json.specs.Data.{no_members}
use Rattle.serde_json.specs.View.{view, items_view, members_view}
use Rattle.scrape_pages.specs.Pages.{with_pages}
use Rattle.scrape_pages.proofs.pages.pages_of.Given as goal

abbrev pub invariant-loop-entry : goal.invariant-loop-entry
invariant-loop-entry l =
    with_pages (view l.document) (members_view l.pages.entries) (items_view (drop l.entry-index l.entries)) ≡ with_pages (view l.document) no_members (items_view l.entries)
