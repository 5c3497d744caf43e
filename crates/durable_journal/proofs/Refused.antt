-- What is refused changes nothing.
use Rattle.std.proofs.Common.{◌≡◌, cond, List, [], ◌∷◌, Option, Some, None, ap, sym, ◌∙◌, refl}
use Rattle.std.specs.Prelude.{is_some}
use Rattle.journal_entries.specs.Legal.{answers_in, events_in}
use Rattle.journal_entries.specs.declared.entry.Entry.{Entry}
use Rattle.allocation_core.specs.State.{State}
use Rattle.allocation_core.specs.Runs.{answers_of, state_of}
use Rattle.allocation_core.specs.Steps.{answer_by, answer_of, changed, granted, refusal_of, state_after}
use Rattle.fleet_events.specs.declared.answer.Answer.{Answer}
use Rattle.fleet_events.specs.declared.answer.Answer.TheVariants.{Discovered, Joined, Left, Draining, LimitsSet, Published, RoundOpen, Taken, Served, Released, Booked, Not}
use Rattle.fleet_events.specs.declared.event.Event.{Event}
use Rattle.fleet_events.specs.declared.event.Event.TheVariants.{Discover, Join, Leave, Drain, SetLimits, Install, Spread, NextRound, Take, Serve, Release, Report}
use Rattle.fleet_events.specs.declared.refusal.Refusal.{Refusal}
use Rattle.durable_journal.specs.Kept.{LeaveOutRefused, is_kept, kept_in}

refused_by : (o : Option Refusal) (m : State) (event : Event) (refusal : Refusal) → answer_by o (granted m event) ≡ Not refusal → cond (is_some o) m (changed m event) ≡ m
refused_by (Some first) m event refusal e = refl
refused_by None m (Discover name source targets) refusal e = cc
refused_by None m (Join name reach limits) refusal e = cc
refused_by None m (Leave id) refusal e = cc
refused_by None m (Drain id) refusal e = cc
refused_by None m (SetLimits id limits) refusal e = cc
refused_by None m (Install plan) refusal e = cc
refused_by None m (Spread spread) refusal e = cc
refused_by None m NextRound refusal e = cc
refused_by None m (Take id) refusal e = cc
refused_by None m (Serve id name) refusal e = cc
refused_by None m (Release id name) refusal e = cc
refused_by None m (Report report) refusal e = cc

pub unchanged : (m : State) (event : Event) (refusal : Refusal) → answer_of m event ≡ Not refusal → state_after m event ≡ m
unfolding answer_of state_after
unchanged m event refusal e = refused_by (refusal_of m event) m event refusal e

kept_or_not : (answer : Answer) (m : State) (event : Event) (events : List Event) → answer ≡ answer_of m event → state_of m (cond (is_kept answer) (event ∷ events) events) ≡ state_of (state_after m event) events
kept_or_not (Discovered added removed) m event events e = refl
kept_or_not (Joined id) m event events e = refl
kept_or_not Left m event events e = refl
kept_or_not Draining m event events e = refl
kept_or_not LimitsSet m event events e = refl
kept_or_not (Published number) m event events e = refl
kept_or_not (RoundOpen round) m event events e = refl
kept_or_not (Taken allocation round held) m event events e = refl
kept_or_not (Served allocation round listed left_out) m event events e = refl
kept_or_not (Released count) m event events e = refl
kept_or_not Booked m event events e = refl
kept_or_not (Not refusal) m event events e = ap (λ (s : State). state_of s events) (sym (unchanged m event refusal (sym e)))

left_out : (m : State) (journal : List Entry) → answers_in journal ≡ answers_of m (events_in journal) → state_of m (kept_in journal) ≡ state_of m (events_in journal)
left_out m [] e = refl
left_out m (entry ∷ journal) e =
    let heads : entry.answer ≡ answer_of m entry.event = cc in
    let tails : answers_in journal ≡ answers_of (state_after m entry.event) (events_in journal) = cc in
    kept_or_not entry.answer m entry.event (kept_in journal) heads ∙ left_out (state_after m entry.event) journal tails

pub leave_out_refused : LeaveOutRefused
leave_out_refused opening end journal legal = left_out opening journal legal.answers ∙ sym legal.state
