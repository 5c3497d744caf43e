-- What was told while nothing was entered is told again.
use Rattle.std.proofs.Common.{◌≡◌, ℕ, List, true, length, subst, ◌∙◌, inl, inr}
use Rattle.std.specs.Prelude.{Option, Some, None}
use mathlib.Core.List.{IsPrefix}
use Rattle.fleet.specs.Fleet.{id_named}
use Rattle.fleet_events.specs.declared.answer.Answer.{Answer}
use Rattle.fleet_events.specs.declared.answer.Answer.TheVariants as answer
use Rattle.fleet_events.specs.declared.event.Event.{Event}
use Rattle.fleet_events.specs.declared.event.Event.TheVariants.{Take, Serve}
use Rattle.allocation_core.specs.Idle.{IsIdle}
use Rattle.allocation_core.specs.State.{State}
use Rattle.journal_entries.specs.declared.entry.Entry.{Entry as Line}
use Rattle.alloc_desk.specs.History.{History}
use Rattle.sd_routes.specs.declared.list_head.ListHead.{ListHead}
use Rattle.sd_routes.specs.declared.responding.Said.TheVariants.{List as ListOf}
use Rattle.sd_server.specs.Looks.{HeadIs}
use Rattle.sd_server.specs.Says.{IsAnswered, SaysGiven, SaysGone, SaysHeld, SaysList, SaysTold}
use Rattle.sd_server.specs.Spans.{OfSome, Span, at_once}
use Rattle.sd_server.specs.Telling.{Telling}
use Rattle.sd_server.proofs.SpanLemmas.{prefix_trans}

-- no list is told under a name that nobody has
gone_never : (span : Span) (head : ListHead) (groups : List ℕ) → SaysGone span (ListOf head groups) → ⊥
gone_never span head groups (inl e) = absurd (cc (e))
gone_never span head groups (inr (inl e)) = absurd (cc (e))
gone_never span head groups (inr (inr x)) = absurd (cc (x.2))

-- the head of a list may tell other times
module _ (span : Span) (head other : ListHead) (same : HeadIs head.collector head.allocation head.round head.left_out other) (place : ℕ) (job groups : List ℕ) where
  head_is : (id number opened : ℕ) (others : Option ℕ) → HeadIs id number opened others head → HeadIs id number opened others other
  head_is id number opened others is =
      record {
        collector = same.collector ∙ is.collector;
        allocation = same.allocation ∙ is.allocation;
        round = same.round ∙ is.round;
        left_out = same.left_out ∙ is.left_out;
      }

  told_with : (id : ℕ) (a : Answer) → SaysTold span None job place id a (ListOf head groups) → SaysTold span None job place id a (ListOf other groups)
  told_with id (answer.Taken allocation round held) x = (x.0, (head_is id allocation round None x.1.0, x.1.1), x.2)
  told_with id (answer.Served allocation round listed left_out) x = (x.0, (head_is id allocation round (Some (length left_out)) x.1.0, x.1.1), x.2)
  told_with id (answer.Discovered added removed) x = absurd (x.1)
  told_with id (answer.Joined number) x = absurd (x.1)
  told_with id answer.Left x = absurd (x.1)
  told_with id answer.Draining x = absurd (x.1)
  told_with id answer.LimitsSet x = absurd (x.1)
  told_with id (answer.Published number) x = absurd (x.1)
  told_with id (answer.RoundOpen round) x = absurd (x.1)
  told_with id (answer.Released count) x = absurd (x.1)
  told_with id answer.Booked x = absurd (x.1)
  told_with id (answer.Not refusal) x = absurd (x.1)

  given_with : (id : ℕ) (event : Event) → SaysGiven span None job place id event (ListOf head groups) → SaysGiven span None job place id event (ListOf other groups)
  given_with id event (inl x) = inl (x.0, x.1, told_with id x.0 x.2)
  given_with id event (inr x) = absurd (cc (x.2))

  list_with : (id : ℕ) → SaysList span None place job id true (ListOf head groups) → SaysList span None place job id true (ListOf other groups)
  list_with id (inl given) = inl (given_with id (Take id) given)
  list_with id (inr (inl given)) = inr (inl (given_with id (Serve id job) given))
  list_with id (inr (inr kept)) = absurd (cc (kept.0))

  pub held_with : (name : List ℕ) → SaysHeld span None place job name true (ListOf head groups) → SaysHeld span None place job name true (ListOf other groups)
  unfolding SaysHeld
  held_with name (inl x) = absurd (gone_never span head groups x.1)
  held_with name (inr x) = inr (x.0, x.1, list_with x.0 x.2)

-- what was told while nothing was entered has been told since any earlier moment
module _ (opening : State) (before front : List Line) (begun : IsPrefix before front) where
  some_since : (P : History → Type 0) → OfSome (at_once opening front) P → OfSome (record { opening = opening; before = before; after = front }) P
  some_since P s = record { moment = s.moment; begun = prefix_trans before front s.moment begun s.begun; seen = s.seen; holds = s.holds }

  answered_since : (event : Event) (a : Answer) → IsAnswered (at_once opening front) event a → IsAnswered (record { opening = opening; before = before; after = front }) event a
  answered_since event a (inl x) =
      inl (x.0, record { earlier = x.1.earlier; begun = prefix_trans before front x.1.earlier begun x.1.begun; stands = x.1.stands; told = x.1.told }, x.2)
  answered_since event a (inr s) = inr (some_since (λ (h : History). IsIdle h.state event (Some a)) s)

  module _ (place : ℕ) (job : List ℕ) (head : ListHead) (groups : List ℕ) where
    given_since :
        (id : ℕ) (event : Event) → SaysGiven (at_once opening front) None job place id event (ListOf head groups)
        → SaysGiven (record { opening = opening; before = before; after = front }) None job place id event (ListOf head groups)
    given_since id event (inl x) = inl (x.0, answered_since event x.0 x.1, x.2)
    given_since id event (inr x) = absurd (cc (x.2))

    list_since :
        (id : ℕ) → SaysList (at_once opening front) None place job id true (ListOf head groups)
        → SaysList (record { opening = opening; before = before; after = front }) None place job id true (ListOf head groups)
    list_since id (inl given) = inl (given_since id (Take id) given)
    list_since id (inr (inl given)) = inr (inl (given_since id (Serve id job) given))
    list_since id (inr (inr kept)) = absurd (cc (kept.0))

    pub held_since :
        (name : List ℕ) → SaysHeld (at_once opening front) None place job name true (ListOf head groups)
        → SaysHeld (record { opening = opening; before = before; after = front }) None place job name true (ListOf head groups)
    unfolding SaysHeld
    held_since name (inl x) = absurd (gone_never (at_once opening front) head groups x.1)
    held_since name (inr x) =
        inr (x.0, some_since (λ (h : History). id_named h.state.fleet.collectors name ≡ Some x.0) x.1, list_since x.0 x.2)

-- what was told of a job under a name is told again to who has seen as much
pub told_now :
    (t : Telling) (span : Span) (place : ℕ) (job name : List ℕ) → IsPrefix span.before span.after → t.place ≡ place → t.job ≡ job → t.name ≡ name → t.seen ≡ span.after
    → SaysHeld (at_once span.opening t.seen) None t.place t.job t.name true (ListOf t.head t.groups) → SaysHeld span None place job name true (ListOf t.head t.groups)
told_now t span place job name begun in_place of_job of_name as_much x =
    let Once : List Line → Type 0 = λ seen. SaysHeld (at_once span.opening seen) None t.place t.job t.name true (ListOf t.head t.groups) in
    let now = held_since span.opening span.before span.after begun t.place t.job t.head t.groups t.name (subst Once as_much x) in
    let Under : List ℕ → Type 0 = λ under. SaysHeld span None t.place t.job under true (ListOf t.head t.groups) in
    let Of : List ℕ → Type 0 = λ of. SaysHeld span None t.place of name true (ListOf t.head t.groups) in
    let In : ℕ → Type 0 = λ in_it. SaysHeld span None in_it job name true (ListOf t.head t.groups) in
    subst In in_place (subst Of of_job (subst Under of_name now))
