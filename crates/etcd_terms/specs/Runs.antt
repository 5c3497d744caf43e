-- What a seat comes to over a list of turns, and what it asks.
use Rattle.std.specs.Prelude.{◌≡◌, ◌≢◌, ◌<◌, ◌≤◌, ◌+◌, not, ℕ, zero, suc, Bool, true, false, List, [], ◌∷◌, ◌++◌, Option, Some, None, if◌then◌else◌}
use Rattle.std.specs.List.{list_all}
use Rattle.etcd_laws.specs.Stores.{Request, Write, Remove, Switch as Switches, Forget as Forgets, Store, after, created_at, leads}
use Rattle.etcd_laws.specs.Scripts.{writes_in}
use Rattle.etcd_answers.specs.Verdicts.{found_at}
use Rattle.etcd_answers.specs.declared.answer.Answer.{Answer}
use Rattle.etcd_answers.specs.declared.verdict.Verdict.TheVariants.{Kept}
use Rattle.etcd_terms.specs.declared.seat.Seat.{Seat}
use Rattle.etcd_terms.specs.declared.seat.Wish.{Wish}
use Rattle.etcd_terms.specs.declared.seat.Wish.TheVariants.{Append, Cut, Look, Clear, Fill, Switch, Forget}
use Rattle.etcd_terms.specs.declared.seat.Ahead.{Ahead}
use Rattle.etcd_terms.specs.declared.seat.Ahead.TheVariants.{Unknown, Left, Has}
use Rattle.etcd_terms.specs.Seats.{ahead_of, ended, filled, heard, is_granted, leads_verdict, left_at, up, wished}

-- what comes to a seat: a wish of its instance; any answer, whatever it says and whenever it comes; the end of its lease
pub data Turn : Type 0 where
  Wishes : Wish → Turn
  Hears : Answer → Turn
  Ends : Turn

abbrev pub turned : List ℕ → Seat → Turn → Seat
turned term s (Wishes wish) = wished s wish
turned term s (Hears answer) = heard term s answer
turned term s Ends = ended s

abbrev pub run : List ℕ → Seat → List Turn → Seat
run term s [] = s
run term s (turn ∷ turns) = run term (turned term s turn) turns

-- the request of a wish, with a number for the term's text; a look changes nothing
abbrev pub requests_of : ℕ → Seat → Wish → List Request
requests_of t s (Append block) = Write t s.going s.going s.next block ∷ []
requests_of t s Cut = Remove t s.going s.going s.next s.torn ∷ []
requests_of t s Look = []
requests_of t s Clear = Remove t s.going (up s.going) 0 (left_at s.ahead) ∷ []
requests_of t s (Fill block) = Write t s.going (up s.going) (filled s.ahead) block ∷ []
requests_of t s Switch = Switches t s.going ∷ []
requests_of t s (Forget epoch) = Forgets t epoch ∷ []

-- what is asked anew in a turn
abbrev pub asked_in : ℕ → Seat → Turn → List Request
asked_in t s (Wishes wish) = if is_granted s wish then requests_of t s wish else []
asked_in t s (Hears answer) = []
asked_in t s Ends = []

-- what is asked one after the other, each of it as often as nothing is known of it
abbrev pub script : ℕ → List ℕ → Seat → List Turn → List Request
script t term s [] = []
script t term s (turn ∷ turns) = asked_in t s turn ++ script t term (turned term s turn) turns

-- ---- a seat that knows what stands in a store

-- nothing was written to an epoch in this term
abbrev pub IsUnwritten : ℕ → List Request → Type 0
IsUnwritten epoch asked = list_all (λ r. not (writes_in epoch r)) asked ≡ true

-- from a number on no block of an epoch is there
abbrev pub IsFree : Store → ℕ → ℕ → Type 0
IsFree store epoch number = (n : ℕ) → number ≤ n → created_at store epoch n ≡ 0

-- the block that has a number was created at a revision
pub record IsSeen (store : Store) (epoch number created : ℕ) : Type 0 where
  pub some : 0 < created
  pub before : created < store.revision
  pub there : created_at store epoch number ≡ created

abbrev pub IsAhead : Store → List Request → ℕ → Ahead → Type 0
IsAhead store asked epoch Unknown = IsUnwritten epoch asked
IsAhead store asked epoch (Left created) = IsSeen store epoch 0 created × IsUnwritten epoch asked
IsAhead store asked epoch (Has zero) = IsFree store epoch 0 × IsUnwritten epoch asked
IsAhead store asked epoch (Has (suc before)) = IsFree store epoch (suc before)

-- behind the last block nothing stands, or a torn end that was seen
abbrev pub IsEnd : Store → List Request → ℕ → ℕ → ℕ → Type 0
IsEnd store asked epoch next zero = IsFree store epoch next
IsEnd store asked epoch next (suc before) = IsSeen store epoch next (suc before) × IsUnwritten epoch asked

-- the next epoch has a number, where anything is known of it
abbrev pub HasNext : Ahead → ℕ → Type 0
HasNext Unknown going = going ≤ 4294967295
HasNext (Left created) going = going < 4294967295
HasNext (Has count) going = (going < 4294967295) × (count ≤ 4294967295)

-- Behind what was asked in this term the seat's term leads, and what the seat says stands there.
pub record Stands (t : ℕ) (store : Store) (asked : List Request) (s : Seat) : Type 0 where
  pub leads : leads store.leader t ≡ true
  pub epoch : store.epoch ≡ s.going
  pub some : 0 < store.revision
  pub numbers : HasNext s.ahead s.going
  pub «end» : IsEnd store asked s.going s.next s.torn
  pub ahead : IsAhead store asked (s.going + 1) s.ahead
  pub later : (epoch : ℕ) → s.going + 1 < epoch → IsUnwritten epoch asked

abbrev pub is_looking : Option Wish → Type 0
is_looking None = ⊥
is_looking (Some (Append block)) = ⊥
is_looking (Some Cut) = ⊥
is_looking (Some Look) = Unit {0}
is_looking (Some Clear) = ⊥
is_looking (Some (Fill block)) = ⊥
is_looking (Some Switch) = ⊥
is_looking (Some (Forget epoch)) = ⊥

-- what a look found stands in the store
abbrev pub IsFound : Store → ℕ → Ahead → Type 0
IsFound store epoch Unknown = Unit {0}
IsFound store epoch (Left created) = IsSeen store epoch 0 created
IsFound store epoch (Has count) = IsFree store epoch 0

abbrev pub done_all : Store → List Request → Store
done_all store [] = store
done_all store (r ∷ requests) = done_all (after store r) requests

-- Of all answers, only those to looks are taken to be true, and only where they tell that the term leads and what stands in the next epoch.
abbrev pub AreTrue : ℕ → List ℕ → Store → Seat → List Turn → Type 0
AreTrue t term store s [] = Unit {0}
AreTrue t term store s (Wishes wish ∷ turns) = AreTrue t term (done_all store (asked_in t s (Wishes wish))) (wished s wish) turns
AreTrue t term store s (Hears answer ∷ turns) = (is_looking s.asked → leads_verdict term s.going answer ≡ Kept → IsFound store (s.going + 1) (ahead_of (found_at 2 answer))) × AreTrue t term store (heard term s answer) turns
AreTrue t term store s (Ends ∷ turns) = AreTrue t term store (ended s) turns
