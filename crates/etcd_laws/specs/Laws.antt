-- What holds over every list of requests, late ones and copies too, of ends of leases and claims.
use Rattle.std.specs.Prelude.{◌≡◌, ◌≢◌, ◌<◌, ◌≤◌, ℕ, Bool, true, false, List, Option, Some}
use Rattle.std.specs.List.{list_all, list_any}
use Rattle.etcd_laws.specs.Stores.{Block, Lead, Request, Write, Remove, Switch, Step, Store, after, created_at, ends_lease, is_claimed_under, is_of, leads, passes, run, spares, those_of}

-- whoever does not lead changes nothing
abbrev pub DeposedChangesNothing : Type 0
DeposedChangesNothing = (s : Store) (term : ℕ) (r : Request) → leads s.leader term ≡ false → is_of term r ≡ true → after s r ≡ s

-- Whoever does not lead when his lease has ended changes nothing ever more: not even a late copy of his claim leads again.
abbrev pub DeposedForGood : Type 0
DeposedForGood =
    (s : Store) (term lease : ℕ) (steps : List Step) (r : Request) → leads s.leader term ≡ false → s.ended lease ≡ true → list_all (is_claimed_under term lease) steps ≡ true → is_of term r ≡ true
    → after (run s steps) r ≡ run s steps

-- As long as the lease lasts, the store is what the requests of the one who leads make of it, as if nobody else were there.
abbrev pub TheLeaderAlone : Type 0
TheLeaderAlone = (s : Store) (lead : Lead) (steps : List Step) → s.leader ≡ Some lead → list_any (ends_lease lead.lease) steps ≡ false → run s steps ≡ run s (those_of lead.term steps)

-- no epoch goes on again
abbrev pub EpochsRise : Type 0
EpochsRise = (s : Store) (steps : List Step) → s.epoch ≤ (run s steps).epoch

-- so whatever names an epoch that is over changes nothing ever more
abbrev pub OverIsOver : Type 0
OverIsOver =
    (s : Store) (term going epoch number created : ℕ) (bytes : List ℕ) (steps : List Step) → going < s.epoch
    → (after (run s steps) (Write term going epoch number bytes) ≡ run s steps) × (after (run s steps) (Remove term going epoch number created) ≡ run s steps) × (after (run s steps) (Switch term going) ≡ run s steps)

-- A block stays at its place, and those before it, whatever comes, but for a removal that names one of them as it stands.
abbrev pub BlocksStay : Type 0
BlocksStay =
    (s : Store) (epoch number : ℕ) (steps : List Step) → ((n : ℕ) → n ≤ number → 0 < created_at s epoch n) → list_all (spares s epoch number) steps ≡ true
    → (n : ℕ) → n ≤ number → (run s steps).blocks epoch n ≡ s.blocks epoch n

-- What was answered stays: a block that was kept is there with its bytes, and each copy of its request changes nothing.
pub record Stays (s : Store) (epoch number : ℕ) (bytes : List ℕ) : Type 0 where
  pub block : Block
  pub there : s.blocks epoch number ≡ Some block
  pub same : block.bytes ≡ bytes
  pub copies : (term going : ℕ) (others : List ℕ) → after s (Write term going epoch number others) ≡ s

abbrev pub AnswersStay : Type 0
AnswersStay =
    (s : Store) (term going epoch number : ℕ) (bytes : List ℕ) (steps : List Step) → passes s (Write term going epoch number bytes) ≡ true → 0 < s.revision → ((n : ℕ) → n < number → 0 < created_at s epoch n)
    → list_all (spares (after s (Write term going epoch number bytes)) epoch number) steps ≡ true → Stays (run (after s (Write term going epoch number bytes)) steps) epoch number bytes

-- A removal that was done, or whose block is gone, changes nothing ever more: no block that is written later is the one that it names.
abbrev pub RemovalsAreOnce : Type 0
RemovalsAreOnce =
    (s : Store) (term going epoch number created : ℕ) (steps : List Step) → 0 < created → created < s.revision → created_at s epoch number ≢ created
    → after (run s steps) (Remove term going epoch number created) ≡ run s steps
