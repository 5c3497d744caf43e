use Rattle.std.proofs.Common.{◌≡◌, ◌∙◌, sym, eqb, length, false}
use Rattle.label_sets.proofs.Places.{with_label_from_here, with_label_from_gap}
use Rattle.label_sets.proofs.entries.put.Goals as goal

-- the text is written over the name's own entry
pub returns-in-Ok-clause-ok : goal.returns-in-Ok-clause-ok
returns-in-Ok-clause-ok c =
    let some : eqb (length c.args.text.now) 0 ≡ false = sym c.is_empty.ensures ∙ c.if-is_empty.false in
    rw c.in_ok-text.ensures (with_label_from_here _ _ _ _ _ c.requires.ordered (rw c.as_slice.ensures.value at c.in-Ok.ensures.here) c.index_mut-entry.ensures.value some)

-- a new entry is put where the name belongs
pub returns-in_ok-insert-in-Err-clause-ok : goal.returns-in_ok-insert-in-Err-clause-ok
returns-in_ok-insert-in-Err-clause-ok c =
    let some : eqb (length c.args.text.now) 0 ≡ false = sym c.is_empty.ensures ∙ c.if-is_empty.false in
    rw (c.in_ok-insert-in-Err.ensures.items, c.in_ok-name-in-Err.ensures, c.in_ok-text.ensures) (with_label_from_gap _ _ _ _ (rw c.as_slice.ensures.value at c.in-Err.ensures.gap) some)
