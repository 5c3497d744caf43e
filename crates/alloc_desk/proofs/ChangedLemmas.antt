-- Whether anything changed, one entry later.
use Rattle.std.proofs.Common.{◌≡◌, List, [], ◌∷◌, ◌++◌, refl}
use Rattle.std.specs.Prelude.{Bool}
use Rattle.journal_entries.specs.declared.entry.Entry.{Entry}
use Rattle.alloc_desk.specs.Changed.{changed_by, changed_from}

pub changed_push : (b : Bool) (es : List Entry) (e : Entry) → changed_from b (es ++ e ∷ []) ≡ changed_by (changed_from b es) e.answer
changed_push b [] e = refl
changed_push b (x ∷ es) e = changed_push (changed_by b x.answer) es e
