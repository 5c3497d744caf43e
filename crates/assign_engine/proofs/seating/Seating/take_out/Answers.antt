use Rattle.std.proofs.Common.{◌≡◌, ◌<◌, None, length, ◌∙◌, subst, sym}
use Rattle.std.proofs.lemmas.List.{get_or_read}
use Rattle.assign_engine.specs.Roll.{Seated}
use Rattle.assign_engine.specs.Seats.{seat}
use Rattle.assign_engine.proofs.Rolling.{is_listed, roll-moved, times_left, sizes_left}
use Rattle.assign_engine.proofs.seating.Seating.take_out.Goals as goal

pub strike-requires : goal.strike-requires
strike-requires c = λ from e.
    let seats = c.self.inside.seats.items in
    let rolls = c.self.inside.rolls.items in
    let item = c.args.item in
    let l : item < length seats = subst (λ (m : Seated). item < length m.seats) (sym c.self.view_is) c.requires in
    let s : c.index.result.now ≡ seat seats item = get_or_read seats item c.index.result.now l c.index.ensures None in
    is_listed seats rolls c.self.invariant item from (sym s ∙ e)

pub invariant_of-self : goal.invariant_of-self
invariant_of-self c =
    let seats = c.self.inside.seats.items in
    let rolls = c.self.inside.rolls.items in
    let item = c.args.item in
    let l : item < length seats = subst (λ (m : Seated). item < length m.seats) (sym c.self.view_is) c.requires in
    let s : c.index.result.now ≡ seat seats item = get_or_read seats item c.index.result.now l c.index.ensures None in
    roll-moved seats rolls c.strike.new.rolls.items item None c.self.invariant l
    (times_left rolls _ item _ _ s c.strike.ensures.times)
    (sizes_left rolls _ _ _ s c.strike.ensures.sizes)
