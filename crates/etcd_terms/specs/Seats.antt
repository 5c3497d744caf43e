-- What an instance knows while it leads, what it asks, and what an answer makes of it.
use Rattle.std.specs.Prelude.{ℕ, ◌+◌, ◌==◌, ◌&&◌, not, Bool, true, false, List, [], ◌∷◌, Option, Some, None, decimal, is_none, min, nat_lt, if◌then◌else◌}
use Rattle.std.specs.Option.{option_map, option_map_or}
use Rattle.serde_json.specs.Written.{compact_text}
use Rattle.etcd_requests.specs.Requests as request
use Rattle.etcd_requests.specs.Texts.{transaction_data}
use Rattle.etcd_requests.specs.Transactions.{Transaction}
use Rattle.etcd_answers.specs.Verdicts.{found_at, forget_verdict, has_value, judged as both_hold, remove_verdict, switch_verdict, verdict, write_verdict}
use Rattle.etcd_answers.specs.declared.answer.Answer.{Answer}
use Rattle.etcd_answers.specs.declared.answer.Answer.TheVariants as answer_is
use Rattle.etcd_answers.specs.declared.answer.Told.{Told}
use Rattle.etcd_answers.specs.declared.found.Found.{Found}
use Rattle.etcd_answers.specs.declared.response.Response.{Response}
use Rattle.etcd_answers.specs.declared.verdict.Verdict.{Verdict}
use Rattle.etcd_answers.specs.declared.verdict.Verdict.TheVariants.{Kept, Deposed, Unknown as NotKnown}
use Rattle.etcd_terms.specs.declared.seat.Seat.{Seat}
use Rattle.etcd_terms.specs.declared.seat.Wish.{Wish}
use Rattle.etcd_terms.specs.declared.seat.Wish.TheVariants.{Append, Cut, Look, Clear, Fill, Switch, Forget}
use Rattle.etcd_terms.specs.declared.seat.Ahead.{Ahead}
use Rattle.etcd_terms.specs.declared.seat.Ahead.TheVariants.{Unknown, Left, Has}

-- that of whoever has read the epoch that goes on
abbrev pub seated : ℕ → ℕ → ℕ → Seat
seated going next torn = record { is_over = false; going = going; next = next; torn = torn; ahead = Unknown; asked = None }

-- ---- what may be asked

abbrev pub is_unknown : Ahead → Bool
is_unknown Unknown = true
is_unknown (Left created) = false
is_unknown (Has count) = false

abbrev pub is_left : Ahead → Bool
is_left Unknown = false
is_left (Left created) = true
is_left (Has count) = false

abbrev pub may_fill : Ahead → Bool
may_fill Unknown = false
may_fill (Left created) = false
may_fill (Has count) = nat_lt count 4294967295

abbrev pub is_filled : Ahead → Bool
is_filled Unknown = false
is_filled (Left created) = false
is_filled (Has count) = nat_lt 0 count

-- A torn end is cut before anything is appended. Of the next epoch it is looked first what stands there; what was left there is cleared; and it goes on
-- once it has a block. Only an epoch that is over is forgotten.
abbrev pub may : Seat → Wish → Bool
may s (Append block) = (s.torn == 0) && (not (s.going == 0) && nat_lt s.next 4294967295)
may s Cut = not (s.torn == 0)
may s Look = is_unknown s.ahead && nat_lt s.going 4294967295
may s Clear = is_left s.ahead
may s (Fill block) = may_fill s.ahead
may s Switch = is_filled s.ahead
may s (Forget epoch) = nat_lt epoch s.going

-- one at a time, and none when it is over
abbrev pub is_granted : Seat → Wish → Bool
is_granted s wish = not s.is_over && (is_none s.asked && may s wish)

abbrev pub wished : Seat → Wish → Seat
wished s wish = if is_granted s wish then record s { asked = Some wish } else s

abbrev pub ended : Seat → Seat
ended s = record s { is_over = true; asked = None }

-- ---- what is asked

-- the next number, as far as there is one
abbrev pub up : ℕ → ℕ
up n = min (n + 1) 4294967295

abbrev pub left_at : Ahead → ℕ
left_at Unknown = 0
left_at (Left created) = created
left_at (Has count) = 0

abbrev pub filled : Ahead → ℕ
filled Unknown = 0
filled (Left created) = 0
filled (Has count) = count

abbrev pub transaction_of : List ℕ → Seat → Wish → Transaction
transaction_of term s (Append block) = request.write term s.going s.going s.next block
transaction_of term s Cut = request.remove term s.going s.going s.next s.torn
transaction_of term s Look = request.look (up s.going) 0
transaction_of term s Clear = request.remove term s.going (up s.going) 0 (left_at s.ahead)
transaction_of term s (Fill block) = request.write term s.going (up s.going) (filled s.ahead) block
transaction_of term s Switch = request.switch term s.going
transaction_of term s (Forget epoch) = request.forget term epoch

-- the body that is posted
abbrev pub body_of : List ℕ → List ℕ → Seat → Option (List ℕ)
body_of prefix term s = option_map (λ wish. compact_text (transaction_data prefix (transaction_of term s wish))) s.asked

-- ---- what an answer makes of it

-- what a look reads: the term leads, and the epoch goes on; before the first there is none
abbrev pub goes_on : ℕ → List Found → Option Bool
goes_on going [] = Some (going == 0)
goes_on going (f ∷ found) = if going == 0 then Some false else has_value (decimal going) (f ∷ found)

abbrev pub looked : List ℕ → ℕ → List Response → Verdict
looked term going [] = NotKnown
looked term going (r ∷ []) = NotKnown
looked term going (r ∷ s ∷ []) = NotKnown
looked term going (r ∷ s ∷ t ∷ more) = both_hold (has_value term r.found) (goes_on going s.found)

-- by a look: who leads is told only by an answer of the form
abbrev pub leads_verdict : List ℕ → ℕ → Answer → Verdict
leads_verdict term going answer_is.Unknown = NotKnown
leads_verdict term going (answer_is.Told told) = if told.succeeded then looked term going told.responses else NotKnown

abbrev pub verdict_of : List ℕ → Seat → Answer → Wish → Verdict
verdict_of term s answer (Append block) = write_verdict term block answer
verdict_of term s answer Cut = remove_verdict term s.torn answer
verdict_of term s answer Look = leads_verdict term s.going answer
verdict_of term s answer Clear = remove_verdict term (left_at s.ahead) answer
verdict_of term s answer (Fill block) = write_verdict term block answer
verdict_of term s answer Switch = switch_verdict term s.going answer
verdict_of term s answer (Forget epoch) = forget_verdict term answer

-- the revision at which the first of these was created
abbrev pub ahead_of : List Found → Ahead
ahead_of [] = Has 0
ahead_of (f ∷ more) = Left f.created

-- what is known when it is done, but for what a look found
abbrev pub settled : Seat → Wish → Seat
settled s (Append block) = record s { next = up s.next; asked = None }
settled s Cut = record s { torn = 0; asked = None }
settled s Look = record s { asked = None }
settled s Clear = record s { ahead = Has 0; asked = None }
settled s (Fill block) = record s { ahead = Has (up (filled s.ahead)); asked = None }
settled s Switch = record s { going = up s.going; next = filled s.ahead; torn = 0; ahead = Unknown; asked = None }
settled s (Forget epoch) = record s { asked = None }

abbrev pub is_look : Wish → Bool
is_look (Append block) = false
is_look Cut = false
is_look Look = true
is_look Clear = false
is_look (Fill block) = false
is_look Switch = false
is_look (Forget epoch) = false

-- the same with what a look found
abbrev pub kept : Seat → Answer → Wish → Seat
kept s answer wish = if is_look wish then record s { ahead = ahead_of (found_at 2 answer); asked = None } else settled s wish

abbrev pub judged : Seat → Answer → Wish → Verdict → Seat
judged s answer wish Kept = kept s answer wish
judged s answer wish Deposed = ended s
judged s answer wish NotKnown = s

-- where nothing is asked nothing is heard
abbrev pub heard : List ℕ → Seat → Answer → Seat
heard term s answer = option_map_or (λ wish. judged s answer wish (verdict_of term s answer wish)) s.asked s
