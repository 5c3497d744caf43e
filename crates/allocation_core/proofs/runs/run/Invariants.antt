use Rattle.std.proofs.Common.{◌≡◌, ◌++◌, ◌≤◌, length, vec_len}
use Rattle.std.specs.Prelude.{vec_capacity}
use Rattle.allocation_core.specs.Runs.{answers_of, state_of}
use Rattle.allocation_core.proofs.runs.run.Given as goal

abbrev pub invariant-loop-event : goal.invariant-loop-event
invariant-loop-event l =
    record {
      answers : l.answers.items ≡ answers_of l.fn.core l.yielded;
      state : l.core ≡ state_of l.fn.core l.yielded;
      count : vec_len l.answers ≡ length l.yielded;
      room : length l.fn.events.items ≤ vec_capacity l.answers;
      rest : l.yielded ++ l.event-iterator.rest.items ≡ l.fn.events.items;
    }
