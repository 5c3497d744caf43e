use Rattle.std.proofs.Common.{◌≡◌, ◌<◌, Some, None, length, ◌∙◌, subst, sym}
use Rattle.std.proofs.lemmas.List.{get_or_read}
use Rattle.assign_engine.specs.Roll.{Seated}
use Rattle.assign_engine.specs.Seats.{seat}
use Rattle.assign_engine.proofs.Rolling.{is_listed, roll-moved, times_kept, times_moved, sizes_moved}
use Rattle.assign_engine.proofs.seating.Seating.put.Goals as goal

pub strike-requires : goal.strike-requires
strike-requires c = λ from e.
    let seats = c.self.inside.seats.items in
    let rolls = c.self.inside.rolls.items in
    let item = c.args.item in
    let l : item < length seats = subst (λ (m : Seated). item < length m.seats) (sym c.self.view_is) c.requires.item in
    let s : c.index.result.now ≡ seat seats item = get_or_read seats item c.index.result.now l c.index.ensures None in
    let lb : c.args.bin < length rolls = subst (λ (m : Seated). c.args.bin < m.bins) (sym c.self.view_is) c.requires.bin in
    times_kept rolls _ c.args.bin item from lb c.in_ok-enroll.ensures.ok (is_listed seats rolls c.self.invariant item from (sym s ∙ e))

pub invariant_of-self-2 : goal.invariant_of-self-2
invariant_of-self-2 c =
    let seats = c.self.inside.seats.items in
    let rolls = c.self.inside.rolls.items in
    let item = c.args.item in
    let bin = c.args.bin in
    let l : item < length seats = subst (λ (m : Seated). item < length m.seats) (sym c.self.view_is) c.requires.item in
    let s : c.index.result.now ≡ seat seats item = get_or_read seats item c.index.result.now l c.index.ensures None in
    let lb : bin < length rolls = subst (λ (m : Seated). bin < m.bins) (sym c.self.view_is) c.requires.bin in
    roll-moved seats rolls c.strike.new.rolls.items item (Some bin) c.self.invariant l
    (times_moved rolls _ _ bin item _ _ lb c.in_ok-enroll.ensures.ok s c.strike.ensures.times)
    (sizes_moved rolls _ _ bin item _ _ lb c.in_ok-enroll.ensures.ok s c.strike.ensures.sizes)
