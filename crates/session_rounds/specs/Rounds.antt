-- The rounds of a session: the turns of each, and the lines that say what they came to.
use Rattle.std.specs.Prelude.{◌≡◌, ◌+◌, ◌⊎◌, ℕ, List, [], ◌∷◌, ◌++◌, Some, Result, All, length, sum_by}
use Rattle.sd_documents.specs.declared.config.Job.{Job}
use Rattle.http_get.specs.declared.get.Get.{Get}
use Rattle.http_get.specs.declared.reply.Reply.{Reply}
use Rattle.http_get.specs.declared.reply.FetchFault.{FetchFault}
use Rattle.allocation_core.specs.State.{State}
use Rattle.collector_pool.specs.Turns.{DidTurn}
use Rattle.collector_pool.specs.declared.turn.Turn.{Turn}
use Rattle.collector_pool.specs.declared.turn.TurnEnd.TheVariants.{Complete, NotJoined}
use Rattle.collector_pool.specs.declared.worker.Worker.{Worker}
use Rattle.session.specs.Lines.{no_sums, round_line, sums_from}

-- ---- what a round's turns did

-- all that the collector holds is reported, or no live collector has its number
abbrev pub IsDone : Turn → Type 0
IsDone turn = (turn.end ≡ Complete) ⊎ (turn.end ≡ NotJoined)

module _ {L B N S : Type 0} (may : S → Get → Result Reply FetchFault → S → Type 0) (opening : State) (jobs : List Job) where
  -- a worker, its turn, and the worker after it
  pub record HadTurn (old : Worker L B N S) (turn : Turn) (new : Worker L B N S) : Type 0 where
    pub id : new.id ≡ old.id
    pub last : new.turn ≡ Some turn
    pub did : DidTurn may opening jobs old.id old.pass new.pass old.scrape new.scrape new.turn

  -- one turn of each worker
  abbrev pub HadTurns : List (Worker L B N S) → List Turn → List (Worker L B N S) → Type 0
  HadTurns [] [] [] = Unit {0}
  HadTurns (old ∷ olds) (turn ∷ turns) (new ∷ news) = HadTurn old turn new × HadTurns olds turns news
  HadTurns _ _ _ = ⊥

  -- the turns of one round after another
  abbrev pub HadRounds : List (Worker L B N S) → List (List Turn) → List (Worker L B N S) → Type 0
  HadRounds old [] new = new ≡ old
  HadRounds old (turns ∷ rounds) new = (next : List (Worker L B N S)) × HadTurns old turns next × HadRounds next rounds new

-- ---- what is told of them

-- the lines of rounds with these turns, numbered from this number on
abbrev pub round_lines : ℕ → List (List Turn) → List ℕ
round_lines number [] = []
round_lines number (turns ∷ rounds) = round_line number (sums_from no_sums turns) ++ round_lines (number + 1) rounds

-- the samples that a round's line tells
abbrev pub samples_told : List Turn → ℕ
samples_told turns = (sums_from no_sums turns).samples

-- the entries of a round's turns: one for each Take, and one for each report that the round's line tells
abbrev pub entries_told : List Turn → ℕ
entries_told turns = length turns + ((sums_from no_sums turns).booked + (sums_from no_sums turns).refused)

abbrev pub booked_in : {L B N S : Type 0} → List (Worker L B N S) → ℕ
booked_in workers = sum_by (λ w. w.pass.booked) workers

abbrev pub calls_in : {L B N S : Type 0} → List (Worker L B N S) → ℕ
calls_in workers = sum_by (λ w. w.pass.calls) workers

-- So many rounds that came to their end. Behind the old text stands the line of each, and the workers' passes count just what the
-- lines tell.
pub record RanRounds {L B N S : Type 0} (may : S → Get → Result Reply FetchFault → S → Type 0) (opening : State) (jobs : List Job) (count : ℕ) (old new : List (Worker L B N S)) (before after : List ℕ) : Type 0 where
  pub rounds : List (List Turn)
  pub many : length rounds ≡ count
  pub turned : HadRounds may opening jobs old rounds new
  pub done : All (All IsDone) rounds
  pub text : after ≡ before ++ round_lines 1 rounds
  pub samples : booked_in new ≡ booked_in old + sum_by samples_told rounds
  pub calls : calls_in new ≡ calls_in old + sum_by entries_told rounds
