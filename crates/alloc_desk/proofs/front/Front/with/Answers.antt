use Rattle.std.proofs.Common.{◌≡◌, ◌+◌, List, [], ◌∷◌, ◌++◌, length, length-append, arith, sym, ◌∙◌, ap, subst, rules}
use Rattle.alloc_desk.specs.History.{end_of}
use Rattle.journal_entries.specs.Legal.{IsLegal}
use Rattle.journal_entries.specs.declared.entry.Entry.{Entry}
use Rattle.alloc_desk.proofs.JournalLemmas.{legal_next}
use Rattle.alloc_desk.proofs.LogLemmas.{adds_moves}
use Rattle.alloc_desk.proofs.front.Front.with.Goals as goal

pub compare_exchange-found-requires : goal.compare_exchange-found-requires
compare_exchange-found-requires g c =
    let head = c.args.head.now.word_is in
    let offer = c.plain-offer.ensures in
    let pen = c.no_pen-pen.ensures in
    let seen = c.again-seen.ensures in
    let book = ap (λ s. s.book) seen ∙ (c.self.invariant.1 ∙ sym (ap (λ w. w.book) head)) in (
      ap (λ w. w.tracked) head,
      book,
      pen.0 ∙ book,
      offer.0,
      rw (ap (λ w. w.key) head, pen.1, offer.1, offer.3, ap (λ s. s.log) seen) (adds_moves c.self.inside.seen.log c.args.entry.now c.self.inside.entries (sym c.self.invariant.0)),
    )

pub invariant_of-result : goal.invariant_of-result
invariant_of-result g c =
    let opening = g.N.DeskName.opening in
    let before = c.self.inside.seen.log in
    let entry = c.args.entry.now in
    let after = c.compare_exchange-found.new.seen in
    let added : after.log ≡ before ++ entry ∷ [] = search rules in
    let book : after.book ≡ g.N.DeskName.book = search rules in
    let longer = ap (length {A = Entry}) added ∙ length-append before (entry ∷ []) in
    let P : List Entry → Type 0 = λ es. IsLegal opening es (end_of opening es) in
    (omega (arith, longer, c.self.invariant.0), book, subst P (sym added) (legal_next opening before entry (rw c.self.view_is c.requires.answer) c.self.invariant.2))
