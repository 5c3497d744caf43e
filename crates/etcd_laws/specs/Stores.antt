-- A store as the requests of `etcd_requests/specs/Requests.antt` find and change it, each a transaction of etcd: it changes all that it names where all
-- that it compares holds, and nothing where it does not. `scripts/check_etcd_steps.py` has the same table of steps, and tries every interleaving.
-- A term and a lease stand here as numbers for their texts.
use Rattle.std.specs.Prelude.{ℕ, ◌+◌, ◌==◌, ◌&&◌, ◌||◌, not, Bool, true, false, List, [], ◌∷◌, Option, Some, None, nat_le, if◌then◌else◌}

-- a block that is there, and the revision at which it was created
pub record Block : Type 0 where
  pub created : ℕ
  pub bytes : List ℕ

-- who leads, and under which lease
pub record Lead : Type 0 where
  pub term : ℕ
  pub lease : ℕ

pub record Store : Type 0 where
  -- that of the next change, from 1
  pub revision : ℕ
  -- which leases ended: none goes on again
  pub ended : ℕ → Bool
  pub leader : Option Lead
  -- the epoch that goes on, 0 before the first
  pub epoch : ℕ
  -- the block of an epoch that has a number
  pub blocks : ℕ → ℕ → Option Block

pub data Request : Type 0 where
  -- a term, under a lease
  Claim : ℕ → ℕ → Request
  -- of a term, where an epoch goes on: the block of an epoch that has a number
  Write : ℕ → ℕ → ℕ → ℕ → List ℕ → Request
  -- of a term, where an epoch goes on: the blocks of an epoch from a number on, where the first of them was created at a revision
  Remove : ℕ → ℕ → ℕ → ℕ → ℕ → Request
  -- of a term, where an epoch goes on: the next goes on
  Switch : ℕ → ℕ → Request
  -- of a term: all blocks of an epoch
  Forget : ℕ → ℕ → Request

abbrev pub leads : Option Lead → ℕ → Bool
leads None term = false
leads (Some l) term = l.term == term

abbrev pub is_free : Option Lead → Bool
is_free None = true
is_free (Some l) = false

-- a block that is absent was created at 0
abbrev pub created_of : Option Block → ℕ
created_of None = 0
created_of (Some b) = b.created

abbrev pub created_at : Store → ℕ → ℕ → ℕ
created_at s epoch number = created_of (s.blocks epoch number)

-- whether all that a request compares holds. A claim under a lease that ended is refused
abbrev pub passes : Store → Request → Bool
passes s (Claim term lease) = is_free s.leader && not (s.ended lease)
passes s (Write term going epoch number bytes) = leads s.leader term && ((s.epoch == going) && (created_at s epoch number == 0))
passes s (Remove term going epoch number created) = leads s.leader term && ((s.epoch == going) && (created_at s epoch number == created))
passes s (Switch term going) = leads s.leader term && (s.epoch == going)
passes s (Forget term epoch) = leads s.leader term

abbrev pub with_block : (ℕ → ℕ → Option Block) → ℕ → ℕ → Block → ℕ → ℕ → Option Block
with_block blocks epoch number block e n = if (e == epoch) && (n == number) then Some block else blocks e n

abbrev pub without_from : (ℕ → ℕ → Option Block) → ℕ → ℕ → ℕ → ℕ → Option Block
without_from blocks epoch number e n = if (e == epoch) && nat_le number n then None else blocks e n

abbrev pub done : Store → Request → Store
done s (Claim term lease) = record s { revision = s.revision + 1; leader = Some (record { term = term; lease = lease }) }
done s (Write term going epoch number bytes) = record s { revision = s.revision + 1; blocks = with_block s.blocks epoch number (record { created = s.revision; bytes = bytes }) }
done s (Remove term going epoch number created) = record s { revision = s.revision + 1; blocks = without_from s.blocks epoch number }
done s (Switch term going) = record s { revision = s.revision + 1; epoch = going + 1 }
done s (Forget term epoch) = record s { revision = s.revision + 1; blocks = without_from s.blocks epoch 0 }

abbrev pub after : Store → Request → Store
after s r = if passes s r then done s r else s

-- what comes to a store, in any order: a request of anybody, which may be late, and a copy; or the end of a lease
pub data Step : Type 0 where
  Asks : Request → Step
  Ends : ℕ → Step

-- who leads under a lease that ends does not
abbrev pub unled : Option Lead → ℕ → Option Lead
unled None lease = None
unled (Some l) lease = if l.lease == lease then None else Some l

abbrev pub next : Store → Step → Store
next s (Asks r) = after s r
next s (Ends lease) = record s { revision = s.revision + 1; ended = λ l. (l == lease) || s.ended l; leader = unled s.leader lease }

abbrev pub run : Store → List Step → Store
run s [] = s
run s (step ∷ steps) = run (next s step) steps

-- ---- what is asked of steps

-- a request of who leads in this term
abbrev pub is_of : ℕ → Request → Bool
is_of term (Claim t lease) = false
is_of term (Write t going epoch number bytes) = t == term
is_of term (Remove t going epoch number created) = t == term
is_of term (Switch t going) = t == term
is_of term (Forget t epoch) = t == term

-- the term is claimed under this lease alone
abbrev pub is_claimed_under : ℕ → ℕ → Step → Bool
is_claimed_under term lease (Ends l) = true
is_claimed_under term lease (Asks (Claim t l)) = not (t == term) || (l == lease)
is_claimed_under term lease (Asks (Write t going epoch number bytes)) = true
is_claimed_under term lease (Asks (Remove t going epoch number created)) = true
is_claimed_under term lease (Asks (Switch t going)) = true
is_claimed_under term lease (Asks (Forget t epoch)) = true

abbrev pub ends_lease : ℕ → Step → Bool
ends_lease lease (Ends l) = lease == l
ends_lease lease (Asks r) = false

-- what the term asks, and the ends of leases
abbrev pub those_of : ℕ → List Step → List Step
those_of term [] = []
those_of term (Asks r ∷ steps) = if is_of term r then Asks r ∷ those_of term steps else those_of term steps
those_of term (Ends lease ∷ steps) = Ends lease ∷ those_of term steps

-- it removes none of the first blocks of an epoch, up to a number: what it removes begins behind them, or with a block that is not the one that stands there
abbrev pub spares : Store → ℕ → ℕ → Step → Bool
spares s epoch number (Ends lease) = true
spares s epoch number (Asks (Claim t lease)) = true
spares s epoch number (Asks (Write t going e n bytes)) = true
spares s epoch number (Asks (Remove t going e n created)) = not (e == epoch) || (not (nat_le n number) || not (created_at s epoch n == created))
spares s epoch number (Asks (Switch t going)) = true
spares s epoch number (Asks (Forget t e)) = not (e == epoch)
