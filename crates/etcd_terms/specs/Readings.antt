-- What an instance reads of the epoch that goes on, and what the answer to a look makes of it.
use Rattle.std.specs.Prelude.{ℕ, ◌+◌, ◌-◌, ◌*◌, ◌==◌, ◌&&◌, ◌||◌, not, Bool, true, false, List, [], ◌∷◌, ◌++◌, Option, Some, None, fold, length, nat_le, nat_lt, unwrap_or, if◌then◌else◌}
use Rattle.std.specs.Option.{option_and_then}
use Rattle.etcd_answers.specs.Verdicts.{found_at}
use Rattle.etcd_answers.specs.declared.answer.Answer.{Answer}
use Rattle.etcd_answers.specs.declared.answer.Answer.TheVariants as answer_is
use Rattle.etcd_answers.specs.declared.found.Found.{Found}
use Rattle.journal_blocks.specs.Blocks.{ends_line}
use Rattle.etcd_terms.specs.Seats.{seated, up}
use Rattle.etcd_terms.specs.declared.seat.Seat.{Seat}
use Rattle.etcd_terms.specs.declared.reading.Reading.{Reading}
use Rattle.etcd_terms.specs.declared.reading.Looked.{Looked}
use Rattle.etcd_terms.specs.declared.reading.Looked.TheVariants.{Unknown, Anew, More, Whole}

abbrev pub begun : ℕ → Reading
begun epoch = record { epoch = epoch; count = 0; last = 0; whole = 0; length = 0; torn = 0; text = [] }

-- one more block: where it ends a line all are whole, and where it does not a torn end may begin with it
abbrev pub absorbed : Reading → Found → Reading
absorbed r f =
    if ends_line f.value then
    record { epoch = r.epoch; count = up r.count; last = f.created; whole = up r.count; length = length (r.text ++ f.value); torn = 0; text = r.text ++ f.value }
    else
    record { epoch = r.epoch; count = up r.count; last = f.created; whole = r.whole; length = r.length; torn = if r.torn == 0 then f.created else r.torn; text = r.text ++ f.value }

-- ---- the epoch that goes on, in decimal

abbrev pub with_digit : ℕ → ℕ → Option ℕ
with_digit number digit = if (nat_le 48 digit && nat_le digit 57) && nat_le (number * 10 + (digit - 48)) 4294967295 then Some (number * 10 + (digit - 48)) else None

abbrev pub number_from : ℕ → List ℕ → Option ℕ
number_from number [] = Some number
number_from number (digit ∷ digits) = option_and_then (λ n. number_from n digits) (with_digit number digit)

abbrev pub number_said : List ℕ → Option ℕ
number_said [] = None
number_said (digit ∷ digits) = number_from 0 (digit ∷ digits)

abbrev pub epoch_said : List Found → Option ℕ
epoch_said [] = Some 0
epoch_said (f ∷ []) = number_said f.value
epoch_said (f ∷ g ∷ more) = None

-- ---- a look

-- of the last block it is asked only where there is one
abbrev pub is_shaped : ℕ → ℕ → Bool
is_shaped count responses = if count == 0 then responses == 3 else responses == 4

abbrev pub is_last : ℕ → List Found → Bool
is_last last [] = false
is_last last (f ∷ []) = f.created == last
is_last last (f ∷ g ∷ more) = false

-- the last block that was read is there as it was read: nothing before it was cut
abbrev pub still : Reading → List Found → Bool
still r found = (r.count == 0) || is_last r.last found

abbrev pub is_none_of : List Found → Bool
is_none_of [] = true
is_none_of (f ∷ more) = false

abbrev pub at_epoch : Reading → Answer → Option ℕ → Looked
at_epoch r answer None = Unknown
at_epoch r answer (Some epoch) = if (epoch == r.epoch) && still r (found_at 3 answer) then (if is_none_of (found_at 2 answer) then Whole else More) else Anew

abbrev pub looked_at : Reading → Answer → Looked
looked_at r answer_is.Unknown = Unknown
looked_at r (answer_is.Told told) =
    if told.succeeded && is_shaped r.count (length told.responses) then at_epoch r (answer_is.Told told) (epoch_said (found_at 1 (answer_is.Told told))) else Unknown

abbrev pub read_by : Reading → Answer → Looked → Reading
read_by r answer Unknown = r
read_by r answer Anew = begun (unwrap_or (epoch_said (found_at 1 answer)) 0)
read_by r answer More = fold absorbed r (found_at 2 answer)
read_by r answer Whole = r

abbrev pub read : Reading → Answer → Reading
read r answer = read_by r answer (looked_at r answer)

-- who leads by an answer to a look
abbrev pub leader_of : List Found → Option (List ℕ)
leader_of [] = None
leader_of (f ∷ []) = Some f.value
leader_of (f ∷ g ∷ more) = None

abbrev pub leader_in : Answer → Option (List ℕ)
leader_in answer = leader_of (found_at 0 answer)

abbrev pub seat_of : Reading → Seat
seat_of r = seated r.epoch r.whole r.torn
