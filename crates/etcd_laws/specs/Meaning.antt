-- What the transactions that are posted (`etcd_requests/specs/Requests.antt`) compare and do in a store. etcd does all that a transaction names where all
-- that it compares holds, and refuses it where it would put a key under a lease that ended.
use Rattle.std.specs.Prelude.{◌≡◌, ◌<◌, ◌+◌, ◌^◌, ◌==◌, ◌&&◌, not, ℕ, Bool, true, false, List, [], ◌∷◌, Some, decimal}
use Rattle.std.specs.List.{list_all}
use Rattle.std.specs.Option.{option_map_or}
use Rattle.std.specs.Str.{bytes_eq}
use Rattle.etcd_requests.specs.declared.key.Key.{Key}
use Rattle.etcd_requests.specs.declared.key.Key.TheVariants as key
use Rattle.etcd_requests.specs.Requests as request
use Rattle.etcd_requests.specs.Transactions.{Compare, HasValue, WasCreated, Operation, Put, PutUnder, Get, GetKey, GetFrom, RemoveFrom, Transaction}
use Rattle.etcd_laws.specs.Stores.{Block, Lead, Request, Claim, Write, Remove, Switch, Forget, Store, created_at, done, is_free, passes, with_block, without_from}

-- the transaction of a request, where each term has a text
abbrev pub transaction_of : (ℕ → List ℕ) → Request → Transaction
transaction_of text (Claim term lease) = request.claim (text term) lease
transaction_of text (Write term going epoch number bytes) = request.write (text term) going epoch number bytes
transaction_of text (Remove term going epoch number created) = request.remove (text term) going epoch number created
transaction_of text (Switch term going) = request.switch (text term) going
transaction_of text (Forget term epoch) = request.forget (text term) epoch

-- Of the leader's key and the epoch's a store does not have when they were created: a request asks only whether they are absent, which is revision 0.
abbrev pub holds : (ℕ → List ℕ) → Store → Compare → Bool
holds text s (HasValue key.Leader value) = option_map_or (λ (l : Lead). bytes_eq (text l.term) value) s.leader false
holds text s (HasValue key.Epoch value) = not (s.epoch == 0) && bytes_eq (decimal s.epoch) value
holds text s (HasValue (key.Block epoch number) value) = option_map_or (λ (b : Block). bytes_eq b.bytes value) (s.blocks epoch number) false
holds text s (WasCreated key.Leader revision) = is_free s.leader && (revision == 0)
holds text s (WasCreated key.Epoch revision) = (s.epoch == 0) && (revision == 0)
holds text s (WasCreated (key.Block epoch number) revision) = created_at s epoch number == revision

-- the lease under which a key is put has not ended
abbrev pub may_put : Store → Operation → Bool
may_put s (Put k value) = true
may_put s (PutUnder k value lease) = not (s.ended lease)
may_put s (Get k) = true
may_put s (GetKey k) = true
may_put s (GetFrom epoch number most) = true
may_put s (RemoveFrom epoch number) = true

-- what one operation makes of a store; nothing else is put by any request
abbrev pub Makes : (ℕ → List ℕ) → Store → Operation → Store → Type 0
Makes text s (Put key.Leader value) new = ⊥
Makes text s (Put key.Epoch value) new = (epoch : ℕ) × (value ≡ decimal epoch) × (new ≡ record s { epoch = epoch })
Makes text s (Put (key.Block epoch number) value) new = new ≡ record s { blocks = with_block s.blocks epoch number (record { created = s.revision; bytes = value }) }
Makes text s (PutUnder key.Leader value lease) new = (term : ℕ) × (value ≡ text term) × (new ≡ record s { leader = Some (record { term = term; lease = lease }) })
Makes text s (PutUnder key.Epoch value lease) new = ⊥
Makes text s (PutUnder (key.Block epoch number) value lease) new = ⊥
Makes text s (Get k) new = new ≡ s
Makes text s (GetKey k) new = new ≡ s
Makes text s (GetFrom epoch number most) new = new ≡ s
Makes text s (RemoveFrom epoch number) new = new ≡ record s { blocks = without_from s.blocks epoch number }

-- what one operation alone makes of a store, at the next revision
pub record MakesAlone (text : ℕ → List ℕ) (s : Store) (operations : List Operation) (new : Store) : Type 0 where
  pub operation : Operation
  pub alone : operations ≡ operation ∷ []
  pub made : Store
  pub makes : Makes text s operation made
  pub next : new ≡ record made { revision = s.revision + 1 }

-- the epoch that a request names, or whose end it is
abbrev pub named_by : Request → ℕ
named_by (Claim term lease) = 0
named_by (Write term going epoch number bytes) = going
named_by (Remove term going epoch number created) = going
named_by (Switch term going) = going
named_by (Forget term epoch) = 0

-- A request passes exactly if all that its transaction compares holds and no lease under which it puts has ended; and what it does is what its transaction does.
pub record IsRequest (text : ℕ → List ℕ) (s : Store) (r : Request) : Type 0 where
  pub compares : passes s r ≡ (list_all (holds text s) (transaction_of text r).compares && list_all (may_put s) (transaction_of text r).success)
  pub does : MakesAlone text s (transaction_of text r).success (done s r)

abbrev pub RequestsAreTransactions : Type 0
RequestsAreTransactions = (text : ℕ → List ℕ) → ((a b : ℕ) → text a ≡ text b → a ≡ b) → (s : Store) (r : Request) → s.epoch < 2 ^ 64 → named_by r < 2 ^ 64 → IsRequest text s r
