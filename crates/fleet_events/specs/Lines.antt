-- The text of an answer: its name, then its values after one space each, numbers in decimal.
use Rattle.std.specs.Prelude.{ℕ, List, [], ◌∷◌, ◌++◌, Option, Some, None, codes}
use Rattle.std.specs.Fmt.{decimal}
use Rattle.price_certificate.specs.Lines.{fault_line}
use Rattle.spread_certificate.specs.Lines.{spread_line}
use Rattle.fleet_events.specs.declared.answer.Answer.{Answer}
use Rattle.fleet_events.specs.declared.answer.Answer.TheVariants.{Discovered, Joined, Left, Draining, LimitsSet, Published, RoundOpen, Taken, Served, Released, Booked, Not}
use Rattle.fleet_events.specs.declared.refusal.Refusal.{Refusal}
use Rattle.fleet_events.specs.declared.refusal.Refusal.TheVariants.{UnknownJob, UnknownSource, TooManyLive, TooManyKnown, AlreadyJoined, TooManyCollectors, IdsSpent, UnknownCollector, AlreadyDraining, Refused, RefusedSpread, Unchanged, NumbersSpent, RoundsSpent, NotTaken, UnknownTarget, NotHolder, StillServed, RoundClosed, RoundNotOpen, AlreadyBooked}

-- a holder's number, or none
abbrev pub holder_line : Option ℕ → List ℕ
holder_line (Some holder) = decimal holder
holder_line None = codes "none"

-- numbers, each after a comma
abbrev pub after_commas : List ℕ → List ℕ
after_commas [] = []
after_commas (number ∷ numbers) = codes "," ++ (decimal number ++ after_commas numbers)

-- numbers joined by commas, or - for none
abbrev pub numbers_line : List ℕ → List ℕ
numbers_line [] = codes "-"
numbers_line (number ∷ numbers) = decimal number ++ after_commas numbers

abbrev pub refusal_line : Refusal → List ℕ
refusal_line UnknownJob = codes "UnknownJob"
refusal_line UnknownSource = codes "UnknownSource"
refusal_line TooManyLive = codes "TooManyLive"
refusal_line TooManyKnown = codes "TooManyKnown"
refusal_line (AlreadyJoined collector) = codes "AlreadyJoined " ++ decimal collector
refusal_line TooManyCollectors = codes "TooManyCollectors"
refusal_line IdsSpent = codes "IdsSpent"
refusal_line UnknownCollector = codes "UnknownCollector"
refusal_line AlreadyDraining = codes "AlreadyDraining"
refusal_line (Refused fault) = codes "Refused " ++ fault_line fault
refusal_line (RefusedSpread fault) = codes "RefusedSpread " ++ spread_line fault
refusal_line (Unchanged number) = codes "Unchanged " ++ decimal number
refusal_line NumbersSpent = codes "NumbersSpent"
refusal_line RoundsSpent = codes "RoundsSpent"
refusal_line (NotTaken number) = codes "NotTaken " ++ decimal number
refusal_line UnknownTarget = codes "UnknownTarget"
refusal_line (NotHolder holder) = codes "NotHolder " ++ holder_line holder
refusal_line (StillServed collector) = codes "StillServed " ++ decimal collector
refusal_line (RoundClosed round) = codes "RoundClosed " ++ decimal round
refusal_line (RoundNotOpen round) = codes "RoundNotOpen " ++ decimal round
refusal_line AlreadyBooked = codes "AlreadyBooked"

abbrev pub answer_line : Answer → List ℕ
answer_line (Discovered added removed) = codes "Discovered " ++ (decimal added ++ (codes " " ++ decimal removed))
answer_line (Joined collector) = codes "Joined " ++ decimal collector
answer_line Left = codes "Left"
answer_line Draining = codes "Draining"
answer_line LimitsSet = codes "LimitsSet"
answer_line (Published number) = codes "Published " ++ decimal number
answer_line (RoundOpen round) = codes "RoundOpen " ++ decimal round
answer_line (Taken allocation round held) = codes "Taken " ++ (decimal allocation ++ (codes " " ++ (decimal round ++ (codes " " ++ numbers_line held))))
answer_line (Served allocation round listed left_out) =
    codes "Served " ++ (decimal allocation ++ (codes " " ++ (decimal round ++ (codes " " ++ (numbers_line listed ++ (codes " " ++ numbers_line left_out))))))
answer_line (Released count) = codes "Released " ++ decimal count
answer_line Booked = codes "Booked"
answer_line (Not refusal) = refusal_line refusal
