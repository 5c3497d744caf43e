-- Transactions of etcd 3.4 over the keys of a journal: what is compared, and what is done where all of it holds or where it does not.
-- What a transaction does to a store: `after` in etcd_laws/specs/Stores.antt.
use Rattle.std.specs.Prelude.{ℕ, List}
use Rattle.etcd_requests.specs.declared.key.Key.{Key}

pub data Compare : Type 0 where
  -- the key has this value
  HasValue : Key → List ℕ → Compare
  -- the key was created at this revision; at 0: it is absent
  WasCreated : Key → ℕ → Compare

pub data Operation : Type 0 where
  Put : Key → List ℕ → Operation
  -- under a lease: the key is gone when the lease ends
  PutUnder : Key → List ℕ → ℕ → Operation
  Get : Key → Operation
  -- without the value
  GetKey : Key → Operation
  -- the blocks of an epoch from a number on, at most so many
  GetFrom : ℕ → ℕ → ℕ → Operation
  -- the blocks of an epoch from a number on
  RemoveFrom : ℕ → ℕ → Operation

pub record Transaction : Type 0 where
  pub compares : List Compare
  pub success : List Operation
  pub failure : List Operation
