-- The requests of a journal in etcd, as transactions. `scripts/check_etcd_steps.py` tries every interleaving of the same requests.
use Rattle.std.specs.Prelude.{ℕ, zero, suc, ◌+◌, List, [], ◌∷◌, decimal}
use Rattle.etcd_requests.specs.declared.key.Key.TheVariants.{Leader, Epoch, Block}
use Rattle.etcd_requests.specs.Transactions.{Compare, HasValue, WasCreated, Operation, Put, PutUnder, Get, GetKey, GetFrom, RemoveFrom, Transaction}

-- this term leads: the value of the leader's key is its text
abbrev pub leads : List ℕ → Compare
leads term = HasValue Leader term

-- this epoch goes on; before the first there is no epoch
abbrev pub goes_on : ℕ → Compare
goes_on zero = WasCreated Epoch 0
goes_on (suc before) = HasValue Epoch (decimal (before + 1))

-- Who has no leader before him leads, as long as the lease lasts.
abbrev pub claim : List ℕ → ℕ → Transaction
claim term lease =
    record {
      compares = WasCreated Leader 0 ∷ [];
      success = PutUnder Leader term lease ∷ [];
      failure = Get Leader ∷ [];
    }

-- the block before the next, which tells whether what was read still stands
abbrev pub last_read : ℕ → ℕ → List Operation
last_read epoch zero = []
last_read epoch (suc before) = GetKey (Block epoch before) ∷ []

-- Who leads, which epoch goes on, the next blocks of an epoch, at most four, and the last that was read.
abbrev pub reads : ℕ → ℕ → List Operation
reads epoch number = Get Leader ∷ Get Epoch ∷ GetFrom epoch number 4 ∷ last_read epoch number

-- A look reads all of one moment.
abbrev pub look : ℕ → ℕ → Transaction
look epoch number = record { compares = []; success = reads epoch number; failure = [] }

-- A block is written at its place, where nothing stands: of the epoch that goes on, or of the next.
abbrev pub write : List ℕ → ℕ → ℕ → ℕ → List ℕ → Transaction
write term going epoch number block =
    record {
      compares = leads term ∷ goes_on going ∷ WasCreated (Block epoch number) 0 ∷ [];
      success = Put (Block epoch number) block ∷ [];
      failure = Get Leader ∷ Get (Block epoch number) ∷ [];
    }

-- The blocks of an epoch from a number on are removed, where the first of them is the one that was seen: a torn end of the epoch
-- that goes on, or what is left of a next epoch that never went on.
abbrev pub remove : List ℕ → ℕ → ℕ → ℕ → ℕ → Transaction
remove term going epoch number created =
    record {
      compares = leads term ∷ goes_on going ∷ WasCreated (Block epoch number) created ∷ [];
      success = RemoveFrom epoch number ∷ [];
      failure = Get Leader ∷ Get (Block epoch number) ∷ [];
    }

-- The next epoch goes on.
abbrev pub switch : List ℕ → ℕ → Transaction
switch term going =
    record {
      compares = leads term ∷ goes_on going ∷ [];
      success = Put Epoch (decimal (going + 1)) ∷ [];
      failure = Get Leader ∷ Get Epoch ∷ [];
    }

-- The blocks of an epoch that is over are removed.
abbrev pub forget : List ℕ → ℕ → Transaction
forget term epoch =
    record {
      compares = leads term ∷ [];
      success = RemoveFrom epoch 0 ∷ [];
      failure = Get Leader ∷ [];
    }
