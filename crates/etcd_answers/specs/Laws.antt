-- What a verdict rests on.
use Rattle.std.specs.Prelude.{◌≡◌, ◌≢◌, ℕ, false, List, [], ◌∷◌}
use Rattle.etcd_answers.specs.Answers.{answer_said}
use Rattle.etcd_answers.specs.Verdicts.{write_verdict}
use Rattle.etcd_answers.specs.declared.answer.Answer.{Answer}
use Rattle.etcd_answers.specs.declared.answer.Answer.TheVariants.{Told as IsTold, Unknown as IsUnknown}
use Rattle.etcd_answers.specs.declared.answer.Told.{Told}
use Rattle.etcd_answers.specs.declared.found.Found.{Found}
use Rattle.etcd_answers.specs.declared.response.Response.{Response}
use Rattle.etcd_answers.specs.declared.verdict.Verdict.TheVariants.{Kept, Deposed, Unknown}

-- a key was found, and it has this value
pub record HasFound (bytes : List ℕ) (response : Response) : Type 0 where
  pub found : Found
  pub only : response.found ≡ found ∷ []
  pub value : found.value ≡ bytes

-- the leader's value is the term, and the block that is there has these bytes
pub record IsThere (term block : List ℕ) (told : Told) : Type 0 where
  pub leader : Response
  pub other : Response
  pub both : told.responses ≡ leader ∷ other ∷ []
  pub leads : HasFound term leader
  pub written : HasFound block other

-- a block is told to be kept, though the transaction did not succeed, only where it is there and the term leads
abbrev pub KeptIsThere : Type 0
KeptIsThere = (term block : List ℕ) (told : Told) → told.succeeded ≡ false → write_verdict term block (IsTold told) ≡ Kept → IsThere term block told

-- no body tells of a block both that it is kept and that its sender is deposed
abbrev pub NeverBoth : Type 0
NeverBoth = (term block : List ℕ) (answer : Answer) → write_verdict term block answer ≡ Kept → write_verdict term block answer ≡ Deposed → ⊥

-- any status but 200 says nothing
abbrev pub OthersSayNothing : Type 0
OthersSayNothing = (term block body : List ℕ) (status : ℕ) → status ≢ 200 → write_verdict term block (answer_said status body) ≡ Unknown
