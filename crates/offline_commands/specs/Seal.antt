-- What `allocd seal` writes of a journal.
use Rattle.std.specs.Prelude.{◌⊎◌, ℕ, List, Option}
use Rattle.replay_lines.specs.Replays.{unreadable_line}
use Rattle.replay_lines.specs.declared.resuming.Damage.{Damage}
use Rattle.durable_journal.specs.ByHand.{IsSealedByHand}
use Rattle.offline_commands.specs.Ending.{stop_line}
use Rattle.offline_commands.specs.Writing.{IsWritten}
use Rattle.offline_commands.specs.declared.ending.Ending.{Ending}
use Rattle.offline_commands.specs.declared.ending.Ending.TheVariants.{Answered, Stopped}
use Rattle.offline_commands.specs.declared.ending.Status.TheVariants.{Done, Unreadable}
use Rattle.offline_commands.specs.declared.ending.Stop.TheVariants.{Memory}

-- there was no memory
abbrev pub IsOutOfMemory : Option (List ℕ) → Option (List ℕ) → Ending → Type 0
IsOutOfMemory before after ending = IsWritten (Stopped Memory) (stop_line Memory) before after ending

-- the line of the damage is told, as a replay tells it
abbrev pub IsTold : Damage → Option (List ℕ) → Option (List ℕ) → Ending → Type 0
IsTold damage before after ending = IsWritten (Answered Unreadable) (unreadable_line damage.line) before after ending ⊎ IsOutOfMemory before after ending

-- A file whose digests are right and that leads where the journal does, or a line of damage.
abbrev pub Seals : List ℕ → Option (List ℕ) → Option (List ℕ) → Ending → Type 0
Seals journal before after ending =
    ((bytes : List ℕ) × IsSealedByHand journal bytes × IsWritten (Answered Done) bytes before after ending)
    ⊎ (((damage : Damage) × IsTold damage before after ending) ⊎ IsOutOfMemory before after ending)
