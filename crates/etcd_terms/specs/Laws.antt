-- What holds over every list of answers.
use Rattle.std.specs.Prelude.{◌≡◌, ◌≢◌, ◌⊎◌, ℕ, true, false, List, [], ◌∷◌, Some, None}
use Rattle.etcd_laws.specs.Meaning.{transaction_of as means}
use Rattle.etcd_laws.specs.Scripts.{IsScript}
use Rattle.etcd_laws.specs.Stores.{Request, Store}
use Rattle.etcd_requests.specs.Transactions.{Transaction}
use Rattle.etcd_answers.specs.Answers.{answer_said}
use Rattle.etcd_answers.specs.Laws.{IsThere}
use Rattle.etcd_answers.specs.declared.answer.Answer.{Answer}
use Rattle.etcd_answers.specs.declared.answer.Answer.TheVariants.{Told as IsTold, Unknown as NotKnown}
use Rattle.etcd_answers.specs.declared.answer.Told.{Told}
use Rattle.etcd_terms.specs.declared.seat.Seat.{Seat}
use Rattle.etcd_terms.specs.declared.seat.Wish.{Wish}
use Rattle.etcd_terms.specs.declared.seat.Wish.TheVariants.{Append, Fill}
use Rattle.etcd_terms.specs.Runs.{AreTrue, Stands, Turn, requests_of, run, script}
use Rattle.etcd_terms.specs.Seats.{heard, transaction_of, up}

-- where nothing is known the seat stays as it is: the very same request is asked again
abbrev pub UnknownAsksAgain : Type 0
UnknownAsksAgain = (term : List ℕ) (s : Seat) → heard term s NotKnown ≡ s

-- any status but 200 is such an answer
abbrev pub OthersChangeNothing : Type 0
OthersChangeNothing = (term body : List ℕ) (status : ℕ) (s : Seat) → status ≢ 200 → heard term s (answer_said status body) ≡ s

-- whoever leads no more asks nothing any more, whatever he wishes and hears
abbrev pub OverIsSilent : Type 0
OverIsSilent = (t : ℕ) (term : List ℕ) (s : Seat) (turns : List Turn) → s.is_over ≡ true → s.asked ≡ None → (run term s turns ≡ s) × (script t term s turns ≡ [])

-- A block counts as kept only by an answer that says that it was written, or that it is there with these bytes while the term leads.
abbrev pub IsKeptBy : List ℕ → List ℕ → Answer → Type 0
IsKeptBy term block NotKnown = ⊥
IsKeptBy term block (IsTold told) = (told.succeeded ≡ true) ⊎ IsThere term block told

abbrev pub CountsWhatIsKept : Type 0
CountsWhatIsKept =
    (term block : List ℕ) (s : Seat) (answer : Answer) → (s.asked ≡ Some (Append block)) ⊎ (s.asked ≡ Some (Fill block)) → s.is_over ≡ false → (heard term s answer).is_over ≡ false → (heard term s answer).asked ≡ None
    → IsKeptBy term block answer

-- what is posted is the transaction of the request of which the laws of a store speak
abbrev pub AreMeant : (ℕ → List ℕ) → List Request → Transaction → Type 0
AreMeant text [] transaction = Unit {0}
AreMeant text (r ∷ requests) transaction = means text r ≡ transaction

abbrev pub AsksWhatIsPosted : Type 0
AsksWhatIsPosted = (text : ℕ → List ℕ) (t : ℕ) (s : Seat) (wish : Wish) → AreMeant text (requests_of t s wish) (transaction_of (text t) s wish)

-- Over every list of wishes and answers, what a seat that stands in a store asks is a script of its term: each request is made for the store as those before it
-- leave it. So it is done once and in its order, however late and often copies come (`EachIsDoneOnce` of etcd_laws).
abbrev pub AsksAScript : Type 0
AsksAScript =
    (t : ℕ) (term : List ℕ) (store : Store) (s : Seat) (turns : List Turn) → Stands t store [] s → s.asked ≡ None → AreTrue t term store s turns → IsScript t store [] (script t term s turns)
