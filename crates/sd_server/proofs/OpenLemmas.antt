-- What was seen, where more of it was looked at.
use Rattle.std.proofs.Common.{◌≡◌, List, refl, sym, subst}
use mathlib.Core.List.{IsPrefix}
use Rattle.fleet_events.specs.declared.event.Event.{Event}
use Rattle.journal_entries.specs.declared.entry.Entry.{Entry as Line}
use Rattle.allocation_core.specs.State.{State}
use Rattle.alloc_desk.specs.Counts.{Counts}
use Rattle.alloc_desk.specs.History.{History, history_of}
use Rattle.alloc_desk.specs.Seen.{IsAdded}
use Rattle.alloc_desk.specs.declared.receipt.Receipt.{Receipt}
use Rattle.sd_server.specs.Spans.{IsEntered, Moves, OfSome, Span, between, now_of}
use Rattle.sd_server.proofs.SpanLemmas.{entered_of, prefix_self, prefix_trans}

pub moved :
    (opening : State) (since old new : List Line) (before : Span) → record { opening = opening; before = since; after = old } ≡ before → IsPrefix since old → IsPrefix old new
    → Moves before (record { opening = opening; before = since; after = new })
moved opening since old new before is p q =
    subst (λ (s : Span). Moves s (record { opening = opening; before = since; after = new })) is (record { opening = refl; before = refl; begun = p; after = q })

-- an event that was entered behind all that had been seen
pub entered_next :
    (opening : State) (since old new : List Line) (before : Span) (event : Event) (counts : Counts) (receipt : Receipt) → record { opening = opening; before = since; after = old } ≡ before
    → IsAdded opening event counts receipt old new → IsEntered (between before (record { opening = opening; before = since; after = new })) event receipt
entered_next opening since old new before event counts receipt is x =
    subst (λ (s : Span). IsEntered (between s (record { opening = opening; before = since; after = new })) event receipt) is
    (entered_of opening event counts receipt old old new (prefix_self old) x)

-- what holds of all that was seen
pub holds_now :
    (opening : State) (since old new : List Line) (P : History → Type 0) → IsPrefix since old → IsPrefix old new → P (history_of opening new)
    → OfSome (record { opening = opening; before = since; after = new }) P
holds_now opening since old new P p q holds = record { moment = new; begun = prefix_trans since old new p q; seen = prefix_self new; holds = holds }

-- what held before more was seen
pub some_since : (a b : Span) (P : History → Type 0) → Moves a b → P (now_of a) → OfSome b P
some_since a b P m p =
    record {
      moment = a.after;
      begun = subst (λ (xs : List Line). IsPrefix xs a.after) (sym m.before) m.begun;
      seen = m.after;
      holds = subst (λ (o : State). P (history_of o a.after)) (sym m.opening) p;
    }
