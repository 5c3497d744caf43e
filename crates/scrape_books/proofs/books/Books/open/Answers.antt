use Rattle.scrape_books.proofs.EntryLemmas.{kept_first}
use Rattle.scrape_books.proofs.books.Books.open.Goals as goal

pub invariant_of-result : goal.invariant_of-result
invariant_of-result c = kept_first c.new.result.items c.new-2.result.items c.new.ensures.items c.new-2.ensures.items
