-- What is written from a line on is a run from the state there.
use Rattle.std.proofs.Common.{◌≡◌, ℕ, ◌+◌, List, [], ◌∷◌, ◌++◌, Option, Some, None, Bool, true, false, refl, sym, ap, subst, ◌∙◌, append_assoc}
use Rattle.std.specs.Option.{option_map_or}
use Rattle.std.specs.Str.{bytes_eq}
use Rattle.std.specs.Prelude.{if◌then◌else◌}
use Rattle.allocation_core.specs.State.{State, first_state}
use Rattle.allocation_core.specs.Steps.{answer_of, state_after}
use Rattle.allocation_core.specs.Runs.{answers_of}
use Rattle.allocation_core.specs.Best.{AlwaysBest}
use Rattle.allocation_core.specs.Booked.{AlwaysBooked}
use Rattle.fleet_events.specs.declared.event.Event.{Event}
use Rattle.fleet.specs.declared.job.JobSpec.{JobSpec}
use Rattle.replay_lines.specs.Configurations.{opened}
use Rattle.fleet_events.specs.Reading.{event_of}
use Rattle.replay_lines.specs.Replays.{Written, answered, answered_line, total_line, unreadable_at, unreadable_line, written_from, written_by, replay_of}
use Rattle.replay_lines.specs.AsRuns.{answered_lines, events_of, IsRunFrom, IsRun, IsRunOf, IsRunOfOpened, ReplaysAreRuns}

one_more : (m : State) (event : Event) (events : List Event) (rest : Written) → IsRunFrom (state_after m event) events rest → IsRunFrom m (event ∷ events) (answered (answer_of m event) rest)
one_more m event events rest run =
    record {
      last = run.last;
      text = ap (λ (t : List ℕ). answered_line (answer_of m event) ++ t) run.text ∙ sym (append_assoc (answered_line (answer_of m event)) (answered_lines (answers_of (state_after m event) events)) run.last);
      total = run.total;
    }

by_event : (number : ℕ) (m : State) (found : Option Event) (events : List Event) (rest : Event → Written) → ((event : Event) → IsRunFrom (state_after m event) events (rest event)) → IsRunFrom m (option_map_or (λ event. event ∷ events) found []) (option_map_or (λ event. answered (answer_of m event) (rest event)) found (unreadable_at number))
by_event number m None events rest runs = record { last = unreadable_line number; text = refl; total = λ e. cc }
by_event number m (Some event) events rest runs = one_more m event events (rest event) (runs event)

by_line : (m : State) (empty : Bool) (es fs : List Event) (here other : Written) → IsRunFrom m es here → IsRunFrom m fs other → IsRunFrom m (if empty then es else fs) (if empty then here else other)
by_line m true es fs here other a b = a
by_line m false es fs here other a b = b

run_from : (number : ℕ) (m : State) (lines : List (List ℕ)) → IsRunFrom m (events_of lines) (written_from number m lines)
unfolding written_from events_of
run_from number m [] = record { last = total_line m; text = refl; total = λ e. refl }
run_from number m (line ∷ lines) =
    by_line m (bytes_eq line []) (events_of lines) _ (written_from (number + 1) m lines) _ (run_from (number + 1) m lines)
    (by_event number m (event_of line) (events_of lines) (λ event. written_from (number + 1) (state_after m event) lines) (λ event. run_from (number + 1) (state_after m event) lines))

pub is_run_of_opened : (input : List ℕ) → IsRunOfOpened input (replay_of input)
unfolding replay_of written_by
is_run_of_opened input first lines m split e = subst (λ (ls : List (List ℕ)). IsRunFrom m (events_of lines) (written_by ls)) (sym split) (subst (λ (w : Written). IsRunFrom m (events_of lines) w) (sym (ap (λ (o : Option State). option_map_or (λ s. written_from 2 s lines) o (unreadable_at 1)) e)) (run_from 2 m lines))

opens : (lines : List (List ℕ)) (jobs : List JobSpec) (report_rounds : ℕ) (found : Option State) → found ≡ Some (first_state jobs report_rounds) → option_map_or (λ m. written_from 2 m lines) found (unreadable_at 1) ≡ written_from 2 (first_state jobs report_rounds) lines
opens lines jobs report_rounds found e = ap (λ (o : Option State). option_map_or (λ m. written_from 2 m lines) o (unreadable_at 1)) e

pub replays_are_runs : AlwaysBest → AlwaysBooked → ReplaysAreRuns
unfolding written_by
replays_are_runs best booked first lines jobs report_rounds e =
    let run = run_from 2 (first_state jobs report_rounds) lines in
    subst (λ (w : Written). IsRun jobs report_rounds (events_of lines) w) (sym (opens lines jobs report_rounds (opened first) e)) (record { run = run; best = best jobs report_rounds (events_of lines); booked = booked jobs report_rounds (events_of lines) })

pub replay_is_run : AlwaysBest → AlwaysBooked → (input : List ℕ) → IsRunOf input (replay_of input)
unfolding replay_of
replay_is_run best booked input first lines jobs report_rounds split e = subst (λ (ls : List (List ℕ)). IsRun jobs report_rounds (events_of lines) (written_by ls)) (sym split) (replays_are_runs best booked first lines jobs report_rounds e)
