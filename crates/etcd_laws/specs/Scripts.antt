-- What an instance asks while it leads: one request behind the other, each made for the store as it stands.
use Rattle.std.specs.Prelude.{◌≡◌, ◌<◌, ◌≤◌, ◌⊎◌, ◌==◌, not, ℕ, Bool, true, false, List, [], ◌∷◌, Some}
use Rattle.std.specs.List.{list_all}
use Rattle.etcd_laws.specs.Stores.{Lead, Request, Claim, Write, Remove, Switch, Forget, Step, Asks, Store, after, is_of, passes, run}

-- it writes a block of this epoch
abbrev pub writes_in : ℕ → Request → Bool
writes_in epoch (Claim term lease) = false
writes_in epoch (Write term going e number bytes) = e == epoch
writes_in epoch (Remove term going e number created) = false
writes_in epoch (Switch term going) = false
writes_in epoch (Forget term e) = false

-- How it is made, behind what was asked in this term. A block is of the epoch that goes on or of a later one. What is removed stood there, and is of an epoch to
-- which nothing was written in this term. What is forgotten is over.
abbrev pub IsMade : Store → List Request → Request → Type 0
IsMade s asked (Claim term lease) = Unit {0}
IsMade s asked (Write term going epoch number bytes) = going ≤ epoch
IsMade s asked (Remove term going epoch number created) = (0 < created) × (created < s.revision) × (list_all (λ r. not (writes_in epoch r)) asked ≡ true)
IsMade s asked (Switch term going) = Unit {0}
IsMade s asked (Forget term epoch) = epoch < s.epoch

-- Each request of a term is made so, behind those that were asked before, and all that it compares holds in the store that those before it leave.
abbrev pub IsScript : ℕ → Store → List Request → List Request → Type 0
IsScript term s asked [] = Unit {0}
IsScript term s asked (r ∷ script) = ((is_of term r ≡ true) × (passes s r ≡ true) × IsMade s asked r) × IsScript term (after s r) (r ∷ asked) script

-- it is no request that removes whatever there is
abbrev pub names_all : Request → Bool
names_all (Claim term lease) = true
names_all (Write term going epoch number bytes) = true
names_all (Remove term going epoch number created) = true
names_all (Switch term going) = true
names_all (Forget term epoch) = false

abbrev pub IsAmong : Request → List Request → Type 0
IsAmong r [] = ⊥
IsAmong r (q ∷ asked) = (q ≡ r) ⊎ IsAmong r asked

-- The requests of a script come in order, since each is asked behind the answer of the one before; and between them, as late and as often as may be, copies
-- of those that came.
abbrev pub IsCopy : List Request → Request → Type 0
IsCopy asked r = IsAmong r asked × (names_all r ≡ true)

abbrev pub AreCopies : List Request → List Request → List Request → Type 0
AreCopies asked [] [] = Unit {0}
AreCopies asked (q ∷ script) [] = ⊥
AreCopies asked [] (r ∷ coming) = IsCopy asked r × AreCopies asked [] coming
AreCopies asked (q ∷ script) (r ∷ coming) = ((q ≡ r) × AreCopies (q ∷ asked) script coming) ⊎ (IsCopy asked r × AreCopies asked (q ∷ script) coming)

abbrev pub asks : List Request → List Step
asks [] = []
asks (r ∷ requests) = Asks r ∷ asks requests

-- What a leader asks is done once and in its order, however late and often copies come: the store is as if each had come once. What others ask meanwhile
-- changes nothing (`TheLeaderAlone`).
abbrev pub EachIsDoneOnce : Type 0
EachIsDoneOnce = (s : Store) (term : ℕ) (script coming : List Request) → 0 < s.revision → IsScript term s [] script → AreCopies [] script coming → run s (asks coming) ≡ run s (asks script)
