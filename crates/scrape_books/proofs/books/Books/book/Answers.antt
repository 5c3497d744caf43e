use Rattle.std.proofs.Common.{◌≡◌, ◌<◌, ◌∙◌, ◌∷◌, ℕ, List, None, ap, subst, sym, arith, length}
use Rattle.std.specs.Prelude.{nat_eq}
use Rattle.std.specs.List.{IsDistinct}
use Rattle.scrape_books.specs.Books.{booking_refusal}
use Rattle.scrape_books.specs.Kept.{rounds_of}
use Rattle.scrape_books.specs.Standings.{IsStanding}
use Rattle.scrape_books.specs.declared.report.Entry.{Entry}
use Rattle.scrape_books.proofs.EntryLemmas.{granted, kept_push, room_of, stands_same}
use Rattle.scrape_books.proofs.books.Books.book.Goals as goal

pub entered-requires-clause-room : goal.entered-requires-clause-room
entered-requires-clause-room c =
    room_of c.args.self.now c.args.target c.args.entry.round c.standing-standing.result
    (subst (λ (booked : List (ℕ × Entry)). IsDistinct nat_eq (0 ∷ rounds_of booked c.args.target)) c.self.view_is (c.self.invariant.apart c.args.target))
    (sym c.in_default.ensures) c.standing-standing.ensures.is

pub invariant_of-self-2 : goal.invariant_of-self-2
invariant_of-self-2 c =
    let booked : List (ℕ × Entry) = c.self.inside.entries.items in
    let free : booking_refusal booked c.args.target c.args.entry.round ≡ None
    = ap (λ (entries : List (ℕ × Entry)). booking_refusal entries c.args.target c.args.entry.round) c.self.view_is ∙ sym c.in_default.ensures in
    let g = granted booked c.args.target c.args.entry.round free in
    let old : IsStanding booked c.args.target c.standing-standing.result
    = subst (λ (entries : List (ℕ × Entry)). IsStanding entries c.args.target c.standing-standing.result) (sym c.self.view_is) c.standing-standing.ensures.is in
    let stands = stands_same booked c.args.target c.args.entry c.standing-standing.result c.entered.result old c.entered.ensures.last c.entered.ensures.page c.entered.ensures.rounds in
    let room : c.args.target < length c.make_room.new.standings.items = omega (arith, c.in_ok-make_room.ensures.room) in
    rw (c.push_reserved.ensures.items, c.reserve.ensures.items)
    (kept_push booked c.self.inside.standings.items c.make_room.new.standings.items c.self.inside.total c.args.target c.args.entry c.samples.result c.entered.result c.self.invariant c.make_room.ensures.same room c.samples.ensures (omega arith) g.some
    g.fresh stands c.entered.ensures.bounded)
