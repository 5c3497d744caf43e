-- What holds of every run of an agent, whatever it is told: by the allocator, by Prometheus and by the clock, in whatever order.
use Rattle.std.specs.Prelude.{◌≡◌, ◌≢◌, ◌⊎◌, ℕ, ◌<◌, true, count_by, List, [], ◌∷◌, Option, Some, None, All, Any, AllPairs, Contains, length}
use Rattle.agent_core.specs.Told.{Told, is_open, mark_of}
use Rattle.agent_core.specs.Agents.{Input, Asked, Cut, Gone, Over, Shown, Taken, Unknown, State, nobody, reported, reports_of, state_after}
use Rattle.agent_core.specs.Sharing.{is_near, is_of}
use Rattle.agent_core.specs.declared.sharing.LastScrape.{LastScrape}
use Rattle.agent_core.specs.declared.target.Series.{Series}
use Rattle.agent_core.specs.declared.target.Listed.{Listed}
use Rattle.agent_core.specs.declared.report.Head.{Head}
use Rattle.agent_core.specs.declared.report.Report.{Report}

-- a later report is of a later scrape where it is of the same series, and of another target where it is of the same round
pub record IsApart (before report : Report) : Type 0 where
  pub later : before.series ≡ report.series → before.time < report.time
  pub another : before.head.epoch ≡ report.head.epoch → before.head.round ≡ report.head.round → before.target ≢ report.target

-- No scrape is in two reports, and there is at most one of a target and round.
abbrev pub NeverTwice : Type 0
NeverTwice = (s : State) (inputs : List Input) → AllPairs IsApart (reports_of s inputs)

-- No two reports of one series are of one time, whatever targets they are of.
abbrev pub GivenToOne : Type 0
GivenToOne = (s : State) (inputs : List Input) → AllPairs (λ (before report : Report). before.series ≡ report.series → before.time ≢ report.time) (reports_of s inputs)

-- what was told before has no later scrape of the series, and nothing of the target in this round
pub record IsNews (told : Told) (report : Report) : Type 0 where
  pub later : mark_of told report.series < report.time
  pub unsaid : is_open told report.head.epoch report.head.round report.target ≡ true

-- What was written down before is not reported again.
abbrev pub NothingOlder : Type 0
NothingOlder = (s : State) (inputs : List Input) → All (IsNews s.told) (reports_of s inputs)

-- the list that is held behind these inputs: the one that was taken last, none where the collector was told since that it holds nothing, or is not known
abbrev pub held : Option (Head × List Listed) → List Input → Option (Head × List Listed)
held list [] = list
held list (Taken at head until targets ∷ inputs) = held (Some (head, targets)) inputs
held list (Shown at head until targets ∷ inputs) = held list inputs
held list (Gone at ∷ inputs) = held None inputs
held list (Unknown at ∷ inputs) = held None inputs
held list (Over ∷ inputs) = held list inputs
held list (Asked now said lasts ∷ inputs) = held list inputs
held list (Cut now said lasts count more ∷ inputs) = held list inputs

-- an input tells that a round of an epoch is open
abbrev pub IsTold : ℕ → ℕ → Input → Type 0
IsTold epoch round (Taken at h until ts) = (h.epoch ≡ epoch) × (h.round ≡ round)
IsTold epoch round (Shown at h until ts) = (h.epoch ≡ epoch) × (h.round ≡ round)
IsTold epoch round (Gone at) = ⊥
IsTold epoch round (Unknown at) = ⊥
IsTold epoch round Over = ⊥
IsTold epoch round (Asked now said lasts) = ⊥
IsTold epoch round (Cut now said lasts count more) = ⊥

-- A target that shares its series has a last scrape that began at a time, to 1 ms, and no other one with these labels began within 2 ms of that.
pub record IsLast (lasts : List (Series × List LastScrape)) (listed : Listed) (time : ℕ) : Type 0 where
  pub series : Series
  pub all : List LastScrape
  pub said : Contains lasts (series, all)
  pub last : LastScrape
  pub among : Contains all last
  pub of_it : is_of series last listed ≡ true
  pub began : is_near 1 last.time time ≡ true
  pub clear : count_by (λ (other : LastScrape). is_near 2 other.time time) all ≡ 1

-- Prometheus said so
abbrev pub IsSaidLast : Input → Listed → ℕ → Type 0
IsSaidLast (Asked now said lasts) listed time = IsLast lasts listed time
IsSaidLast (Taken at head until targets) listed time = ⊥
IsSaidLast (Shown at head until targets) listed time = ⊥
IsSaidLast (Gone at) listed time = ⊥
IsSaidLast (Unknown at) listed time = ⊥
IsSaidLast Over listed time = ⊥
IsSaidLast (Cut now said lasts count more) listed time = ⊥

-- A report is of a target of the list that is held behind these inputs, in a round of its epoch that was told. Whose the scrape is, is known: the
-- target has its series alone, or it is its last one by this input.
pub record IsHeld (before : List Input) (input : Input) (report : Report) : Type 0 where
  pub head : Head
  pub targets : List Listed
  pub list : held None before ≡ Some (head, targets)
  pub collector : report.head.collector ≡ head.collector
  pub epoch : report.head.epoch ≡ head.epoch
  pub number : report.head.number ≡ head.number
  pub listed : Listed
  pub among : Contains targets listed
  pub target : report.target ≡ listed.target
  pub series : report.series ≡ listed.series
  pub own : (listed.alone ≡ true) ⊎ IsSaidLast input listed report.time
  pub told : Any (IsTold report.head.epoch report.head.round) before

-- No report is under a number, an epoch or a round that was not told, nor of a target that the list does not have which is held when it is chosen.
abbrev pub OnlyHeld : Type 0
OnlyHeld = (told : Told) (lease : Option ℕ) (before : List Input) (input : Input) → All (IsHeld before input) (reported (state_after (nobody told lease) before) input)

-- the targets of the list that was taken last, none where the collector was told since that it holds nothing
abbrev pub last_taken : List Listed → List Input → List Listed
last_taken targets [] = targets
last_taken targets (Taken at head until ts ∷ inputs) = last_taken ts inputs
last_taken targets (Shown at head until ts ∷ inputs) = last_taken targets inputs
last_taken targets (Gone at ∷ inputs) = last_taken [] inputs
last_taken targets (Unknown at ∷ inputs) = last_taken targets inputs
last_taken targets (Over ∷ inputs) = last_taken targets inputs
last_taken targets (Asked now said lasts ∷ inputs) = last_taken targets inputs
last_taken targets (Cut now said lasts count more ∷ inputs) = last_taken targets inputs

-- What is served is of the list that was taken last, whatever was shown since.
pub record ServesTaken (s : State) (last : List Listed) : Type 0 where
  pub targets : s.targets ≡ last
  pub places : All (λ (place : ℕ). place < length s.targets) s.served

abbrev pub OnlyTaken : Type 0
OnlyTaken = (told : Told) (lease : Option ℕ) (inputs : List Input) → ServesTaken (state_after (nobody told lease) inputs) (last_taken [] inputs)
