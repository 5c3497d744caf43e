-- What was seen of one journal, and more of it.
use Rattle.std.proofs.Common.{List, [], ◌∷◌, ◌++◌, refl, ap, sym, subst, ◌∙◌, append_assoc, inl, inr}
use Rattle.std.specs.Prelude.{IfSome, Option, None, Some}
use mathlib.Core.List.{IsPrefix}
use Rattle.fleet_events.specs.declared.event.Event.{Event}
use Rattle.fleet_events.specs.declared.answer.Answer.{Answer}
use Rattle.allocation_core.specs.Idle.{IsIdle}
use Rattle.allocation_core.specs.State.{State}
use Rattle.journal_entries.specs.declared.entry.Entry.{Entry as Line}
use Rattle.alloc_desk.specs.Counts.{Counts}
use Rattle.alloc_desk.specs.History.{History, history_of}
use Rattle.alloc_desk.specs.Reached.{IsReceipt}
use Rattle.alloc_desk.specs.Seen.{IsAdded, entry_of}
use Rattle.alloc_desk.specs.declared.receipt.Receipt.{Receipt}
use Rattle.sd_server.specs.Says.{IsAnswered}
use Rattle.sd_server.specs.Spans.{IsEntered, Moves, OfSome, Span, between, from_first, now_of}

pub prefix_self : {A : Type 0} (xs : List A) → IsPrefix xs xs
prefix_self [] = ([], refl)
prefix_self (x ∷ xs) = (let r = prefix_self xs in r.0, ap (λ ys. x ∷ ys) (prefix_self xs).1)

pub prefix_trans : {A : Type 0} (xs ys zs : List A) → IsPrefix xs ys → IsPrefix ys zs → IsPrefix xs zs
prefix_trans xs ys zs p q = (p.0 ++ q.0, sym (append_assoc xs p.0 q.0) ∙ (ap (λ w. w ++ q.0) p.1 ∙ q.1))

-- where more was seen of the same journal twice, more was seen
pub moves_trans : (a b c : Span) → Moves a b → Moves b c → Moves a c
moves_trans a b c p q =
    record {
      opening = q.opening ∙ p.opening;
      before = q.before ∙ p.before;
      begun = p.begun;
      after = prefix_trans a.after b.after c.after p.after q.after;
    }

pub begun_of : (a b : Span) → Moves a b → IsPrefix b.before b.after
begun_of a b m = subst (λ (xs : List Line). IsPrefix xs b.after) (sym m.before) (prefix_trans a.before a.after b.after m.begun m.after)

-- what holds now holds at some moment
pub some_now : (a b : Span) (P : History → Type 0) → Moves a b → P (now_of b) → OfSome b P
some_now a b P m p = record { moment = b.after; begun = begun_of a b m; seen = prefix_self b.after; holds = p }

-- and it has held so once more was seen
pub some_later : (a b : Span) (P : History → Type 0) → Moves a b → OfSome a P → OfSome b P
some_later a b P m s =
    record {
      moment = s.moment;
      begun = subst (λ (xs : List Line). IsPrefix xs s.moment) (sym m.before) s.begun;
      seen = prefix_trans s.moment a.after b.after s.seen m.after;
      holds = subst (λ (o : State). P (history_of o s.moment)) (sym m.opening) s.holds;
    }

pub some_then : (a b c : Span) (P : History → Type 0) → Moves a b → Moves b c → P (now_of b) → OfSome c P
some_then a b c P m n p = some_later b c P n (some_now a b P m p)

-- it has held at some moment, from the first one on
pub some_first : (b : Span) (P : History → Type 0) → P (now_of b) → OfSome (from_first b) P
some_first b P p = record { moment = b.after; begun = (b.after, refl); seen = prefix_self b.after; holds = p }

pub entered_later : (a b : Span) (event : Event) (receipt : Receipt) → Moves a b → IsEntered a event receipt → IsEntered b event receipt
entered_later a b event receipt m x =
    record {
      earlier = x.earlier;
      begun = subst (λ (xs : List Line). IsPrefix xs x.earlier) (sym m.before) x.begun;
      stands = prefix_trans (x.earlier ++ entry_of event receipt ∷ []) a.after b.after x.stands m.after;
      told = (x.told.0, subst (λ (o : State). IsReceipt event x.told.0 receipt (history_of o x.earlier)) (sym m.opening) x.told.1);
    }

-- what was entered between two moments was entered since the request came
pub entered_within : (a b : Span) (event : Event) (receipt : Receipt) → Moves a b → IsEntered (between a b) event receipt → IsEntered b event receipt
entered_within a b event receipt m x =
    record {
      earlier = x.earlier;
      begun = subst (λ (xs : List Line). IsPrefix xs x.earlier) (sym m.before) (prefix_trans a.before a.after x.earlier m.begun x.begun);
      stands = x.stands;
      told = x.told;
    }

-- an entry that was added
pub entered_of :
    (opening : State) (event : Event) (counts : Counts) (receipt : Receipt) (before old new : List Line) → IsPrefix before old → IsAdded opening event counts receipt old new
    → IsEntered (record { opening = opening; before = before; after = new }) event receipt
entered_of opening event counts receipt before old new begun x =
    record {
      earlier = x.before;
      begun = prefix_trans before old x.before begun x.seen;
      stands = subst (λ (xs : List Line). IsPrefix (x.before ++ entry_of event receipt ∷ []) xs) (sym x.entries) (prefix_self (x.before ++ entry_of event receipt ∷ []));
      told = (counts, x.told);
    }

pub answered_later : (a b : Span) (event : Event) (answer : Answer) → Moves a b → IsAnswered a event answer → IsAnswered b event answer
answered_later a b event answer m (inl x) = inl (x.0, entered_later a b event x.0 m x.1, x.2)
answered_later a b event answer m (inr s) = inr (some_later a b (λ (h : History). IsIdle h.state event (Some answer)) m s)

-- what is so of every span is so of this one
pub some_of_all : {A : Type 0} (P : Span → A → Type 0) (span : Span) (o : Option A) → IfSome o (λ a. (s : Span) → P s a) → IfSome o (P span)
some_of_all P span (Some a) all = all span
some_of_all P span None all = tt
