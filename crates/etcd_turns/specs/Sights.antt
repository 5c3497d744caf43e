-- What one look came to.
use Rattle.std.specs.Prelude.{◌≡◌, ℕ, List}
use Rattle.etcd_requests.specs.Requests as request
use Rattle.etcd_answers.specs.declared.answer.Answer.{Answer}
use Rattle.etcd_terms.specs.Readings.{leader_in, looked_at, read}
use Rattle.etcd_terms.specs.declared.reading.Reading.{Reading}
use Rattle.etcd_turns.specs.Posts.{MayPost, Posted, text_of}
use Rattle.etcd_turns.specs.declared.looking.Sight.{Sight}

-- an answer was read
pub record Saw (answer : Answer) (reading : Reading) (sight : Sight) (more : Reading) : Type 0 where
  pub read : more ≡ read reading answer
  pub looked : sight.looked ≡ looked_at reading answer
  pub leader : sight.leader ≡ leader_in answer

-- it was looked behind what was read, and the answer was read
pub record Seen {S : Type 0} (may_post : MayPost S) (prefix : List ℕ) (old : S) (reading : Reading) (sight : Sight) (new : S) (more : Reading) : Type 0 where
  pub answer : Answer
  pub posted : Posted may_post (text_of prefix (request.look reading.epoch reading.count)) old answer new
  pub saw : Saw answer reading sight more
