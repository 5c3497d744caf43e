-- What is true while the lock is free stays true over an event, and shows what passes are told.
use Rattle.std.proofs.Common.{◌≡◌, ℕ, ◌+◌, ◌≤◌, List, [], ◌∷◌, ◌++◌, length, ap, sym, ◌∙◌, subst, arith, length-append}
use Rattle.scrape_books.specs.Books.{total_of}
use Rattle.allocation_core.specs.State.{State}
use Rattle.allocation_core.specs.Steps.{answer_of, state_after, gained}
use Rattle.journal_entries.specs.declared.entry.Entry.{Entry}
use Rattle.alloc_desk.specs.declared.limits.TheConstants.{MOST_ENTRIES}
use Rattle.alloc_desk.specs.Counts.{Counts}
use Rattle.alloc_desk.specs.History.{History, IsAccounted, gained_in}
use Rattle.alloc_desk.specs.Reached.{Reached}
use Rattle.alloc_desk.proofs.GainLemmas.{gained_in_push}
use Rattle.alloc_desk.proofs.JournalLemmas.{legal_after}

pub accounted_push :
    (m : State) (h h' : History) (calls calls' samples samples' : ℕ) (e : Entry) → IsAccounted m h calls samples → e.answer ≡ answer_of h.state e.event
    → h'.journal ≡ h.journal ++ e ∷ [] → h'.state ≡ state_after h.state e.event
    → total_of h'.state.booked ≡ total_of h.state.booked + gained e.event e.answer → gained e.event e.answer ≤ 4294967295
    → length h.journal + 1 ≤ MOST_ENTRIES → calls' ≡ calls + 1 → samples' ≡ samples + gained e.event e.answer → IsAccounted m h' calls' samples'
accounted_push m h h' calls calls' samples samples' e kept answer journal state total small room call sample =
    let gains = ap gained_in journal ∙ gained_in_push h.journal e in
    let longer = ap (length {A = Entry}) journal ∙ length-append h.journal (e ∷ []) in
    record {
      legal = legal_after m h h' e journal state answer kept.legal;
      calls = omega (arith, kept.calls, longer, call);
      samples = omega (arith, kept.samples, gains, sample);
      total = omega (arith, kept.total, gains, total);
      most_calls = omega (arith, longer, room);
      most_samples = omega (arith, kept.most_samples, gains, longer, small);
    }

-- what holds of the history under the lock is told of it
pub reached : (m : State) (h : History) (calls samples : ℕ) (counts : Counts) (Holds : History → Type 0) → IsAccounted m h calls samples
    → counts.calls ≤ calls → counts.booked ≤ samples → Holds h → Reached m counts Holds
reached m h calls samples counts Holds kept few little holds =
    record {
      history = h;
      legal = kept.legal;
      calls = omega (arith, kept.calls, few);
      booked = omega (arith, kept.samples, little);
      holds = holds;
    }

-- what is told of a history may be told in other words
pub told_so : (m : State) (counts : Counts) (P Q : History → Type 0) → ((h : History) → P h → Q h) → Reached m counts P → Reached m counts Q
told_so m counts P Q so r = record { history = r.history; legal = r.legal; calls = r.calls; booked = r.booked; holds = so r.history r.holds }
