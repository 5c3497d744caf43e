use Rattle.std.proofs.Common.{◌≡◌, ℕ, ◌≤◌, [], ◌∷◌, ◌++◌, ap, sym, ◌∙◌, arith, get_or}
use Rattle.std.proofs.Math.Seq.{get_or-append_seam}
use Rattle.std.specs.Prelude.{if◌then◌else◌}
use Rattle.allocation_core.specs.Steps.{gained}
use Rattle.journal_entries.specs.declared.entry.Entry.{Entry}
use Rattle.alloc_desk.specs.Gains.{is_booked}
use Rattle.alloc_desk.proofs.GainLemmas.{gained_by}
use Rattle.alloc_desk.proofs.ReachedLemmas.{accounted_push}
use Rattle.alloc_desk.proofs.locked_record.LockedRecord.submit.Goals as goal

pub invariant_of-self-2 : goal.invariant_of-self-2
invariant_of-self-2 g c =
    let e = c.in_ok-position.ensures in
    let event = c.args.event in
    let answer = c.in_ok-position.answer in
    let gain : c.gained-gain.result ≡ gained event answer =
    c.gained-gain.ensures ∙ (ap (λ (n : ℕ). if is_booked answer then n else 0) c.offered-samples.ensures ∙ sym (gained_by event answer)) in
    let small : c.gained-gain.result ≤ 4294967295 = omega arith in
    let old = c.self.inside.record in
    let entry : Entry = record { event = event; seat = c.pass.inside.seat; answer = answer } in
    let last = c.index-journal-position.result in
    let last_is : last ≡ entry =
    c.index-journal-position.is ∙ ((λ i. get_or ((c.journal.ensures ∙ e.journal) i) (e.position i) last) ∙ get_or-append_seam old.journal entry [] last) in
    let accounted =
    accounted_push g.N.DeskName.opening old c.enter.new.self c.self.inside.calls.total c.add.new.self.total c.self.inside.samples.total c.add-2.new.self.total
    entry
    c.self.invariant.0
    e.answer
    e.journal
    e.state
    e.total
    (rw (← gain) small)
    e.room
    (omega (arith, c.add.ensures.total, c.audit.ensures.total))
    (omega (arith, c.add-2.ensures.total, c.audit-2.ensures.total, gain, c.from.ensures)) in
    (accounted, c.push.ensures ∙ ((λ i. c.self.invariant.1 i ++ last_is i ∷ []) ∙ sym e.journal))
