-- A device over memory.
use Rattle.std.specs.Prelude.{◌≡◌, ◌⊎◌, ◌+◌, ℕ, List, [], ◌∷◌, ◌++◌, Result, Ok, Err, min, drop}
use Rattle.http_get.specs.declared.get.Get.{Get}
use Rattle.http_get.specs.declared.reply.Reply.{Reply}
use Rattle.http_get.specs.declared.reply.FetchFault.{FetchFault}
use Rattle.http_get.specs.declared.reply.FetchFault.TheVariants.{Device, TooLong, Memory}

-- what is left to answer, what was asked, and how many fetches came to Device
pub record ScriptState : Type 0 where
  pub replies : List (Result Reply FetchFault)
  pub asked : List Get
  pub failures : ℕ

abbrev pub next_reply : List (Result Reply FetchFault) → Result Reply FetchFault
next_reply [] = Err Device
next_reply (reply ∷ replies) = reply

-- one more failure, up to the greatest number of 64 bits
abbrev pub counted : Result Reply FetchFault → ℕ → ℕ
counted (Err Device) failures = min (failures + 1) 18446744073709551615
counted (Err TooLong) failures = failures
counted (Err Memory) failures = failures
counted (Ok reply) failures = failures

abbrev pub after_fetch : ScriptState → Get → ScriptState
after_fetch s get = record { replies = drop 1 s.replies; asked = s.asked ++ get ∷ []; failures = counted (next_reply s.replies) s.failures }

-- the next answer, or want of memory, which leaves the script as it is
abbrev pub MayFetch : ScriptState → Get → Result Reply FetchFault → ScriptState → Type 0
MayFetch s get result t = ((result ≡ next_reply s.replies) × (t ≡ after_fetch s get)) ⊎ ((result ≡ Err Memory) × (t ≡ s))
