-- What the answers to an Install and to a Spread say of an attempt.
use Rattle.std.proofs.Common.{◌≡◌, ◌+◌, ℕ, IsTrue, sym, arith, true≢false}
use Rattle.price_certificate.specs.Certificate.{IsCertified}
use Rattle.price_certificate.specs.Problem.{Problem}
use Rattle.price_certificate.specs.declared.plan.Plan.{Plan}
use Rattle.allocation_core.specs.State.{State, instance_at}
use Rattle.allocation_core.specs.Steps.{state_after}
use Rattle.allocation_core.specs.Answers.{is_install_answer, is_spread_answer}
use Rattle.fleet_events.specs.declared.event.Event.{Event}
use Rattle.fleet_events.specs.declared.event.Event.TheVariants.{Install}
use Rattle.fleet_events.specs.declared.answer.Answer.{Answer}
use Rattle.fleet_events.specs.declared.answer.Answer.TheVariants.{Discovered, Joined, Left, Draining, LimitsSet, Published, RoundOpen, Taken, Served, Released, Booked, Not}
use Rattle.fleet_events.specs.declared.refusal.Refusal.TheVariants.{UnknownJob, UnknownSource, TooManyLive, TooManyKnown, AlreadyJoined, TooManyCollectors, IdsSpent, UnknownCollector, AlreadyDraining, Refused, RefusedSpread, Unchanged, NumbersSpent, RoundsSpent, NotTaken, UnknownTarget, NotHolder, StillServed, RoundClosed, RoundNotOpen, AlreadyBooked}
use Rattle.journal_entries.specs.declared.entry.Entry.{Entry}
use Rattle.alloc_desk.specs.declared.receipt.Receipt.{Receipt}
use Rattle.alloc_desk.specs.Attempts.{attempted_by}
use Rattle.alloc_desk.specs.Counts.{Counts}
use Rattle.alloc_desk.specs.Reached.{Reached, IsReceipt}
use Rattle.alloc_desk.specs.Reallocating.{EndsIn, CameTo}
use Rattle.alloc_desk.proofs.JournalLemmas.{legal_push}
use Rattle.std.specs.Prelude.{Option}
use Rattle.spread_certificate.specs.declared.spread.Spread.{Spread as SpreadPlan}
use Rattle.alloc_desk.specs.Spreading.{Spreads, CameToSpread, spread_attempted_by}

-- a receipt's answer ends a journal
pub ends_in : (opening : State) (counts : Counts) (event : Event) (r : Receipt) → Reached opening counts (IsReceipt event counts r) → EndsIn opening (counts.calls + 1) event r.answer
ends_in opening counts event r told =
    let e : Entry = record { event = event; seat = r.seat; answer = r.answer } in
    record {
      before = told.history.journal;
      seat = r.seat;
      end = state_after told.history.state event;
      legal = legal_push opening told.history.journal told.history.state e told.legal told.holds.answer;
      long = omega (arith, told.calls);
    }

pub came_to :
    (opening : State) (counts : Counts) (instance : Problem) (plan : Plan) (a : Answer) → Reached opening counts (λ h. instance ≡ instance_at h.state)
    → IsCertified instance plan.pairs plan.item_prices plan.bin_prices → IsTrue (is_install_answer a)
    → EndsIn opening (counts.calls + 1) (Install plan) a → CameTo opening counts (attempted_by a instance plan)
came_to opening counts instance plan (Published number) searched certified h e = (plan, e)
came_to opening counts instance plan (Not (Unchanged number)) searched certified h e = (plan, e)
came_to opening counts instance plan (Not NumbersSpent) searched certified h e = (plan, e)
came_to opening counts instance plan (Not (Refused fault)) searched certified h e = record { searched = searched; certified = certified; refused = e }
came_to opening counts instance plan (Not (RefusedSpread fault)) searched certified h e = absurd (true≢false (sym h))
came_to opening counts instance plan (Not UnknownJob) searched certified h e = absurd (true≢false (sym h))
came_to opening counts instance plan (Not UnknownSource) searched certified h e = absurd (true≢false (sym h))
came_to opening counts instance plan (Not TooManyLive) searched certified h e = absurd (true≢false (sym h))
came_to opening counts instance plan (Not TooManyKnown) searched certified h e = absurd (true≢false (sym h))
came_to opening counts instance plan (Not (AlreadyJoined id)) searched certified h e = absurd (true≢false (sym h))
came_to opening counts instance plan (Not TooManyCollectors) searched certified h e = absurd (true≢false (sym h))
came_to opening counts instance plan (Not IdsSpent) searched certified h e = absurd (true≢false (sym h))
came_to opening counts instance plan (Not UnknownCollector) searched certified h e = absurd (true≢false (sym h))
came_to opening counts instance plan (Not AlreadyDraining) searched certified h e = absurd (true≢false (sym h))
came_to opening counts instance plan (Not RoundsSpent) searched certified h e = absurd (true≢false (sym h))
came_to opening counts instance plan (Not (NotTaken number)) searched certified h e = absurd (true≢false (sym h))
came_to opening counts instance plan (Not UnknownTarget) searched certified h e = absurd (true≢false (sym h))
came_to opening counts instance plan (Not (NotHolder holder)) searched certified h e = absurd (true≢false (sym h))
came_to opening counts instance plan (Not (StillServed other)) searched certified h e = absurd (true≢false (sym h))
came_to opening counts instance plan (Not (RoundClosed round)) searched certified h e = absurd (true≢false (sym h))
came_to opening counts instance plan (Not (RoundNotOpen round)) searched certified h e = absurd (true≢false (sym h))
came_to opening counts instance plan (Not AlreadyBooked) searched certified h e = absurd (true≢false (sym h))
came_to opening counts instance plan (Discovered added removed) searched certified h e = absurd (true≢false (sym h))
came_to opening counts instance plan (Joined id) searched certified h e = absurd (true≢false (sym h))
came_to opening counts instance plan Left searched certified h e = absurd (true≢false (sym h))
came_to opening counts instance plan Draining searched certified h e = absurd (true≢false (sym h))
came_to opening counts instance plan LimitsSet searched certified h e = absurd (true≢false (sym h))
came_to opening counts instance plan (RoundOpen round) searched certified h e = absurd (true≢false (sym h))
came_to opening counts instance plan (Taken number round held) searched certified h e = absurd (true≢false (sym h))
came_to opening counts instance plan (Served number round listed left_out) searched certified h e = absurd (true≢false (sym h))
came_to opening counts instance plan (Released count) searched certified h e = absurd (true≢false (sym h))
came_to opening counts instance plan Booked searched certified h e = absurd (true≢false (sym h))

-- What the answer to a Spread says of an attempt.

pub came_to_spread :
    (opening : State) (counts : Counts) (slack : ℕ) (most_moves : Option ℕ) (question : Problem × ℕ) (spread : SpreadPlan) (a : Answer)
    → IsTrue (is_spread_answer a) → Spreads opening counts slack most_moves question spread a → CameToSpread opening counts slack most_moves (spread_attempted_by a)
came_to_spread opening counts slack most_moves question spread (Published number) h s = (question, (spread, s))
came_to_spread opening counts slack most_moves question spread (Not (Unchanged number)) h s = (question, (spread, s))
came_to_spread opening counts slack most_moves question spread (Not NumbersSpent) h s = (question, (spread, s))
came_to_spread opening counts slack most_moves question spread (Not (RefusedSpread fault)) h s = (question, (spread, s))
came_to_spread opening counts slack most_moves question spread (Not (Refused fault)) h s = absurd (true≢false (sym h))
came_to_spread opening counts slack most_moves question spread (Not UnknownJob) h s = absurd (true≢false (sym h))
came_to_spread opening counts slack most_moves question spread (Not UnknownSource) h s = absurd (true≢false (sym h))
came_to_spread opening counts slack most_moves question spread (Not TooManyLive) h s = absurd (true≢false (sym h))
came_to_spread opening counts slack most_moves question spread (Not TooManyKnown) h s = absurd (true≢false (sym h))
came_to_spread opening counts slack most_moves question spread (Not (AlreadyJoined id)) h s = absurd (true≢false (sym h))
came_to_spread opening counts slack most_moves question spread (Not TooManyCollectors) h s = absurd (true≢false (sym h))
came_to_spread opening counts slack most_moves question spread (Not IdsSpent) h s = absurd (true≢false (sym h))
came_to_spread opening counts slack most_moves question spread (Not UnknownCollector) h s = absurd (true≢false (sym h))
came_to_spread opening counts slack most_moves question spread (Not AlreadyDraining) h s = absurd (true≢false (sym h))
came_to_spread opening counts slack most_moves question spread (Not RoundsSpent) h s = absurd (true≢false (sym h))
came_to_spread opening counts slack most_moves question spread (Not (NotTaken number)) h s = absurd (true≢false (sym h))
came_to_spread opening counts slack most_moves question spread (Not UnknownTarget) h s = absurd (true≢false (sym h))
came_to_spread opening counts slack most_moves question spread (Not (NotHolder holder)) h s = absurd (true≢false (sym h))
came_to_spread opening counts slack most_moves question spread (Not (StillServed other)) h s = absurd (true≢false (sym h))
came_to_spread opening counts slack most_moves question spread (Not (RoundClosed round)) h s = absurd (true≢false (sym h))
came_to_spread opening counts slack most_moves question spread (Not (RoundNotOpen round)) h s = absurd (true≢false (sym h))
came_to_spread opening counts slack most_moves question spread (Not AlreadyBooked) h s = absurd (true≢false (sym h))
came_to_spread opening counts slack most_moves question spread (Discovered added removed) h s = absurd (true≢false (sym h))
came_to_spread opening counts slack most_moves question spread (Joined id) h s = absurd (true≢false (sym h))
came_to_spread opening counts slack most_moves question spread Left h s = absurd (true≢false (sym h))
came_to_spread opening counts slack most_moves question spread Draining h s = absurd (true≢false (sym h))
came_to_spread opening counts slack most_moves question spread LimitsSet h s = absurd (true≢false (sym h))
came_to_spread opening counts slack most_moves question spread (RoundOpen round) h s = absurd (true≢false (sym h))
came_to_spread opening counts slack most_moves question spread (Taken number round held) h s = absurd (true≢false (sym h))
came_to_spread opening counts slack most_moves question spread (Served number round listed left_out) h s = absurd (true≢false (sym h))
came_to_spread opening counts slack most_moves question spread (Released count) h s = absurd (true≢false (sym h))
came_to_spread opening counts slack most_moves question spread Booked h s = absurd (true≢false (sym h))
