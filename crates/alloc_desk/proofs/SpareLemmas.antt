-- The list that was made before an event fits the answer to it.
use Rattle.served_lists.specs.declared.list.ServedList.{ServedList as Lists}
use Rattle.std.specs.Prelude.{Option, Some, None}
use Rattle.allocation_core.specs.State.{State}
use Rattle.allocation_core.specs.Steps.{answer_of, answer_by, refusal_of, granted}
use Rattle.fleet_events.specs.declared.event.Event.{Event}
use Rattle.fleet_events.specs.declared.event.Event.TheVariants.{Discover, Join, Leave, Drain, SetLimits, Install, Spread, NextRound, Take, Serve, Release, Report}
use Rattle.fleet_events.specs.declared.answer.Answer.{Answer}
use Rattle.fleet_events.specs.declared.refusal.Refusal.{Refusal}
use Rattle.alloc_desk.specs.Spare.{IsSpareOf, IsSpareFor}

fits_granted : (m : State) (e : Event) (s : Option Lists) → IsSpareOf m e s → IsSpareFor (granted m e) s
fits_granted m (Discover name source targets) s is = tt
fits_granted m (Join name reach limits) s is = tt
fits_granted m (Leave id) s is = tt
fits_granted m (Drain id) s is = tt
fits_granted m (SetLimits id limits) s is = tt
fits_granted m (Install plan) s is = tt
fits_granted m (Spread spread) s is = tt
fits_granted m NextRound s is = tt
fits_granted m (Take id) s is = is
fits_granted m (Serve id name) s is = is
fits_granted m (Release id name) s is = tt
fits_granted m (Report report) s is = tt

fits_by : (r : Option Refusal) (granted : Answer) (s : Option Lists) → IsSpareFor granted s → IsSpareFor (answer_by r granted) s
fits_by None granted s fits = fits
fits_by (Some refusal) granted s fits = tt

pub spare_fits : (m : State) (e : Event) (s : Option Lists) → IsSpareOf m e s → IsSpareFor (answer_of m e) s
unfolding answer_of
spare_fits m e s is = fits_by (refusal_of m e) (granted m e) s (fits_granted m e s is)
