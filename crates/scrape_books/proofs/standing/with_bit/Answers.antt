use Rattle.std.specs.Int.{w64}
use Rattle.std.proofs.lemmas.Nat.Bits.{bit_at_set_same, bit_at_set_other}
use Rattle.scrape_books.proofs.standing.with_bit.Goals as goal

pub returns-clause-put : goal.returns-clause-put
returns-clause-put c = bit_at_set_same w64 c.args.rounds c.args.place c.requires

pub returns-clause-others : goal.returns-clause-others
returns-clause-others c = λ other less not. bit_at_set_other w64 c.args.rounds c.args.place c.requires other not
