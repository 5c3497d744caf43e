use Rattle.std.proofs.Common.{◌≡◌, ◌≤◌, [], ◌∷◌, ◌++◌, length, ap, sym, ◌∙◌, rules}
use Rattle.std.specs.Prelude.{Bool, true}
use Rattle.allocation_core.specs.Steps.{answer_of, state_after}
use Rattle.journal_entries.specs.declared.entry.Entry.{Entry}
use Rattle.alloc_desk.specs.declared.limits.TheConstants.{MOST_ENTRIES}
use Rattle.alloc_desk.specs.Changed.{changed_by, changed_in}
use Rattle.alloc_desk.specs.History.{History}
use Rattle.alloc_desk.proofs.ChangedLemmas.{changed_push}
use Rattle.alloc_desk.proofs.JournalLemmas.{legal_after}
use Rattle.alloc_desk.proofs.SpareLemmas.{spare_fits}
use Rattle.alloc_desk.proofs.record.Record.enter.Goals as goal

pub copy_with-requires : goal.copy_with-requires
copy_with-requires c = rw c.in-Ok-apply.ensures.answer (spare_fits c.self.inside.core c.args.event c.in-Ok.spare c.in-Ok.ensures.spare)

pub invariant_of-self-2 : goal.invariant_of-self-2
invariant_of-self-2 c =
    let old = c.self.inside in
    let answer = c.in-Ok-apply.answer in
    let entry : Entry = record { event = c.args.event; seat = c.args.seat; answer = answer } in
    let journal : c.push_reserved.new.self.items ≡ old.journal.items ++ entry ∷ [] = search rules in
    let room : length c.push_reserved.new.self.items ≤ MOST_ENTRIES = search rules in
    let before = ap (λ (b : Bool). changed_by b answer) c.self.invariant.1 in
    (room, c.changed_by-self-inside.ensures ∙ (before ∙ (sym (changed_push true old.journal.items entry) ∙ sym (ap changed_in journal))))

pub returns-clause-legal : goal.returns-clause-legal
returns-clause-legal c =
    let old = c.args.self.now in
    let new : History = record { state = c.apply.new.self; journal = c.push_reserved.new.self.items } in
    let entry : Entry = record { event = c.args.event; seat = c.args.seat; answer = c.in-Ok-apply.answer } in
    let journal : new.journal ≡ old.journal ++ entry ∷ [] = search rules in
    let state : new.state ≡ state_after old.state c.args.event = search rules in
    let answer : c.in-Ok-apply.answer ≡ answer_of old.state c.args.event = search rules in
    λ opening. legal_after opening old new entry journal state answer
