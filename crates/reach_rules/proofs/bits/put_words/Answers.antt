use Rattle.std.proofs.Common.{arith}
use Rattle.reach_rules.proofs.BitLemmas.{full_words, same_words}
use Rattle.reach_rules.proofs.bits.put_words.Goals as goal

pub returns-clause-put : goal.returns-clause-put
returns-clause-put c = λ n least less. full_words c.loop-place.words c.args.from c.args.to c.word_of-full.result n c.args.bit c.word_of-full.ensures least less (λ k low high. c.loop-place.invariant.put k low (omega (arith, high, c.loop-place-test.false)))

pub returns-clause-others : goal.returns-clause-others
returns-clause-others c = λ n less. same_words c.args.words.now c.loop-place.words c.args.from n less c.loop-place.invariant.others
