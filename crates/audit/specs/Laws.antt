-- What histories tell of states.
use Rattle.std.specs.Prelude.{◌≡◌, ◌<◌, ℕ, true, List, AllPairs, Some}
use Rattle.fleet.specs.declared.job.JobSpec.{JobSpec}
use Rattle.allocation_core.specs.Renewed.{renewed}
use Rattle.allocation_core.specs.State.{State, current_pairs, restored, with_rounds}
use Rattle.core_history.specs.History.{ReadsBack, history_said, is_allocation, slots_of, slots_said}
use Rattle.replay_lines.specs.Configurations.{opened}

-- A history leaves nothing of the state out: there is no earlier allocation, nobody took anything and nothing is booked, and the
-- allocation names known targets, in ascending order, and live collectors. Of how many rounds reports are booked another member says.
pub record IsWhole (n : State) : Type 0 where
  pub allocation : is_allocation n.fleet (current_pairs n) ≡ true
  pub is : with_rounds n.report_rounds (restored n.fleet (current_pairs n) (slots_of n.fleet (slots_said n.served.slots)) n.problem n.plan n.round 1) ≡ n

-- what a first line opens is such a state
abbrev pub OpenedAreWhole : Type 0
OpenedAreWhole = (line : List ℕ) (n : State) → opened line ≡ Some n → IsWhole n

-- what is written of both is this text
pub record ReadAlike (m n : State) : Type 0 where
  pub text : List ℕ
  pub one : ReadsBack m (history_said text)
  pub other : ReadsBack n (history_said text)

-- A renewed state and a whole one of which the same is written are the same state.
abbrev pub HistoriesTell : Type 0
HistoriesTell = (m n : State) (jobs : List JobSpec) → AllPairs (λ (a b : ℕ × ℕ). a.0 < b.0) (current_pairs m) → IsWhole n → ReadAlike (renewed m jobs n.report_rounds) n → n ≡ renewed m jobs n.report_rounds
