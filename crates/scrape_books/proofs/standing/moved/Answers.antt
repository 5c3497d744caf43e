use Rattle.scrape_books.proofs.MarkLemmas.{moved_high, moved_low}
use Rattle.scrape_books.proofs.standing.moved.Goals as goal

pub returns-then-up-lt-ROUNDS_TOLD-clause-low : goal.returns-then-up-lt-ROUNDS_TOLD-clause-low
returns-then-up-lt-ROUNDS_TOLD-clause-low c = λ place low less. moved_low c.args.rounds c.args.up place low less

pub returns-then-up-lt-ROUNDS_TOLD-clause-high : goal.returns-then-up-lt-ROUNDS_TOLD-clause-high
returns-then-up-lt-ROUNDS_TOLD-clause-high c = λ place high less. moved_high c.args.rounds c.args.up place high less
