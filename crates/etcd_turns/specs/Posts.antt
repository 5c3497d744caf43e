-- What was posted, and what was heard of it.
use Rattle.std.specs.Prelude.{◌≡◌, ◌⊎◌, ℕ, zero, suc, List, Option, Some, None, codes}
use Rattle.serde_json.specs.Written.{compact_text}
use Rattle.etcd_requests.specs.Requests as request
use Rattle.etcd_requests.specs.Texts.{transaction_data}
use Rattle.etcd_requests.specs.Transactions.{Transaction}
use Rattle.etcd_answers.specs.Answers.{answer_said}
use Rattle.etcd_answers.specs.Verdicts.{claim_verdict}
use Rattle.etcd_answers.specs.declared.answer.Answer.{Answer}
use Rattle.etcd_answers.specs.declared.answer.Answer.TheVariants.{Unknown}
use Rattle.etcd_answers.specs.declared.verdict.Verdict.TheVariants.{Kept}
use Rattle.etcd_terms.specs.Readings.{leader_in, looked_at}
use Rattle.etcd_terms.specs.Seats.{body_of, ended, heard, leads_verdict}
use Rattle.etcd_terms.specs.declared.seat.Seat.{Seat}
use Rattle.etcd_terms.specs.declared.reading.Reading.{Reading}
use Rattle.etcd_terms.specs.declared.reading.Looked.TheVariants.{Whole}
use Rattle.etcd_turns.specs.declared.reply.Reply.{Reply}

-- what may come of a post
abbrev pub MayPost : Type 0 → Type 1
MayPost S = S → List ℕ → List ℕ → Option Reply → S → Type 0

-- the answer that a reply is; where there is none it is not known
abbrev pub answer_of : Option Reply → Answer
answer_of None = Unknown
answer_of (Some reply) = answer_said reply.status reply.body

-- a transaction was posted, and this was heard
pub record Posted {S : Type 0} (may_post : MayPost S) (body : List ℕ) (old : S) (answer : Answer) (new : S) : Type 0 where
  pub reply : Option Reply
  pub posted : may_post old (codes "/v3/kv/txn") body reply new
  pub is : answer ≡ answer_of reply

abbrev pub text_of : List ℕ → Transaction → List ℕ
text_of prefix transaction = compact_text (transaction_data prefix transaction)

-- ---- a seat

-- a body was posted, and the seat heard the answer
pub record Heard {S : Type 0} (may_post : MayPost S) (term body : List ℕ) (old : S) (s : Seat) (new : S) (t : Seat) : Type 0 where
  pub answer : Answer
  pub posted : Posted may_post body old answer new
  pub heard : t ≡ heard term s answer

-- the body of what it asks
pub record Asked {S : Type 0} (may_post : MayPost S) (prefix term : List ℕ) (old : S) (s : Seat) (new : S) (t : Seat) : Type 0 where
  pub body : List ℕ
  pub is : body_of prefix term s ≡ Some body
  pub heard : Heard may_post term body old s new t

-- or it leads no more
abbrev pub Steps : {S : Type 0} → MayPost S → List ℕ → List ℕ → S → Seat → S → Seat → Type 0
Steps may_post prefix term old s new t = Asked may_post prefix term old s new t ⊎ ((new ≡ old) × (t ≡ ended s))

-- so many steps, one after the other
abbrev pub Asks : {S : Type 0} → MayPost S → List ℕ → List ℕ → ℕ → S → Seat → S → Seat → Type 0
Asks may_post prefix term zero old s new t = (new ≡ old) × (t ≡ s)
Asks {S} may_post prefix term (suc count) old s new t = (mid : S) × ((m : Seat) × (Asks may_post prefix term count old s mid m × Steps may_post prefix term mid m new t))

-- It was asked until it was known, or the seat leads no more.
pub record Settled {S : Type 0} (may_post : MayPost S) (prefix term : List ℕ) (old : S) (s : Seat) (new : S) (t : Seat) : Type 0 where
  pub count : ℕ
  pub asks : Asks may_post prefix term count old s new t
  pub known : t.asked ≡ None

-- ---- beside a seat

-- the last that was posted is a claim of this term, and it leads
pub record Claimed {S : Type 0} (may_post : MayPost S) (prefix term : List ℕ) (lease : ℕ) (new : S) : Type 0 where
  pub old : S
  pub answer : Answer
  pub posted : Posted may_post (text_of prefix (request.claim term lease)) old answer new
  pub leads : claim_verdict term answer ≡ Kept

-- the last that was posted is a look, by which the term leads and the epoch goes on
pub record Led {S : Type 0} (may_post : MayPost S) (prefix term : List ℕ) (going next : ℕ) (new : S) : Type 0 where
  pub old : S
  pub answer : Answer
  pub posted : Posted may_post (text_of prefix (request.look going next)) old answer new
  pub leads : leads_verdict term going answer ≡ Kept

-- the last that was posted is a look behind all that was read, by which the term leads and there is no more
pub record ReadAll {S : Type 0} (may_post : MayPost S) (prefix term : List ℕ) (reading : Reading) (new : S) : Type 0 where
  pub old : S
  pub answer : Answer
  pub posted : Posted may_post (text_of prefix (request.look reading.epoch reading.count)) old answer new
  pub whole : looked_at reading answer ≡ Whole
  pub leads : leader_in answer ≡ Some term
