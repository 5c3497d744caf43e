use Rattle.std.proofs.Common.{ℕ, List, get_or, subst, refl}
use Rattle.std.proofs.lemmas.List.{take_all}
use Rattle.price_certificate.proofs.Placing.{IsPlacing, placing_on, placing_refused, placing_all}
use Rattle.price_certificate.proofs.shape.places.Goals as goal

pub returns-then-is_some-clause-shape : goal.returns-then-is_some-clause-shape
returns-then-is_some-clause-shape c e h = placing_refused c.args.items c.args.bins c.args.pairs.now c.loop-i.i c.loop-i.places.items (get_or c.args.pairs.now c.loop-i.i (0, 0)) c.index.result.now c.loop-i.invariant c.if-item-items.false c.index.ensures c.if-is_some.ensures c.loop-i-test.true refl h

pub loop-i-preserved : goal.loop-i-preserved
loop-i-preserved c = placing_on c.args.items c.args.bins c.args.pairs.now c.loop-i.i c.loop-i.places.items (get_or c.args.pairs.now c.loop-i.i (0, 0)) c.index.result.now c.loop-i.invariant c.if-item-items.false c.if-bin-bins.false c.index.ensures c.if-is_some.ensures c.loop-i-test.true refl

pub returns-clause-ok : goal.returns-clause-ok
returns-clause-ok c = placing_all c.args.items c.args.bins c.args.pairs.now c.loop-i.places.items (subst (λ (taken : List (ℕ × ℕ)). IsPlacing c.args.items c.args.bins taken c.loop-i.places.items) (take_all _ _ c.loop-i-test.false) c.loop-i.invariant)
