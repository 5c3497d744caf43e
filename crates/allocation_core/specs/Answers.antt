-- Which answers an event can have.
use Rattle.std.specs.Prelude.{Bool, true, false, IsTrue}
use Rattle.fleet_events.specs.declared.event.Event.{Event}
use Rattle.fleet_events.specs.declared.event.Event.TheVariants.{Discover, Join, Leave, Drain, SetLimits, Install, Spread, NextRound, Take, Serve, Release, Report}
use Rattle.fleet_events.specs.declared.answer.Answer.{Answer}
use Rattle.fleet_events.specs.declared.answer.Answer.TheVariants.{Discovered, Joined, Left, Draining, LimitsSet, Published, RoundOpen, Taken, Served, Released, Booked, Not}
use Rattle.fleet_events.specs.declared.refusal.Refusal.TheVariants.{UnknownJob, UnknownSource, TooManyLive, TooManyKnown, AlreadyJoined, TooManyCollectors, IdsSpent, UnknownCollector, AlreadyDraining, Refused, RefusedSpread, Unchanged, NumbersSpent, RoundsSpent, NotTaken, UnknownTarget, NotHolder, StillServed, RoundClosed, RoundNotOpen, AlreadyBooked}

abbrev pub is_discover_answer : Answer → Bool
is_discover_answer (Discovered added removed) = true
is_discover_answer (Not UnknownJob) = true
is_discover_answer (Not UnknownSource) = true
is_discover_answer (Not TooManyLive) = true
is_discover_answer (Not TooManyKnown) = true
is_discover_answer _ = false

abbrev pub is_join_answer : Answer → Bool
is_join_answer (Joined id) = true
is_join_answer (Not UnknownJob) = true
is_join_answer (Not (AlreadyJoined id)) = true
is_join_answer (Not TooManyCollectors) = true
is_join_answer (Not IdsSpent) = true
is_join_answer _ = false

abbrev pub is_leave_answer : Answer → Bool
is_leave_answer Left = true
is_leave_answer (Not UnknownCollector) = true
is_leave_answer _ = false

abbrev pub is_drain_answer : Answer → Bool
is_drain_answer Draining = true
is_drain_answer (Not UnknownCollector) = true
is_drain_answer (Not AlreadyDraining) = true
is_drain_answer _ = false

abbrev pub is_limits_answer : Answer → Bool
is_limits_answer LimitsSet = true
is_limits_answer (Not UnknownCollector) = true
is_limits_answer (Not UnknownJob) = true
is_limits_answer _ = false

abbrev pub is_install_answer : Answer → Bool
is_install_answer (Published number) = true
is_install_answer (Not (Refused fault)) = true
is_install_answer (Not (Unchanged number)) = true
is_install_answer (Not NumbersSpent) = true
is_install_answer _ = false

abbrev pub is_spread_answer : Answer → Bool
is_spread_answer (Published number) = true
is_spread_answer (Not (RefusedSpread fault)) = true
is_spread_answer (Not (Unchanged number)) = true
is_spread_answer (Not NumbersSpent) = true
is_spread_answer _ = false

abbrev pub is_round_answer : Answer → Bool
is_round_answer (RoundOpen round) = true
is_round_answer (Not RoundsSpent) = true
is_round_answer _ = false

abbrev pub is_take_answer : Answer → Bool
is_take_answer (Taken number round held) = true
is_take_answer (Not UnknownCollector) = true
is_take_answer _ = false

abbrev pub is_serve_answer : Answer → Bool
is_serve_answer (Served number round listed left_out) = true
is_serve_answer (Not UnknownJob) = true
is_serve_answer (Not UnknownCollector) = true
is_serve_answer _ = false

abbrev pub is_release_answer : Answer → Bool
is_release_answer (Released count) = true
is_release_answer (Not UnknownJob) = true
is_release_answer (Not UnknownCollector) = true
is_release_answer _ = false

abbrev pub is_report_answer : Answer → Bool
is_report_answer Booked = true
is_report_answer (Not UnknownCollector) = true
is_report_answer (Not (NotTaken number)) = true
is_report_answer (Not UnknownTarget) = true
is_report_answer (Not (NotHolder holder)) = true
is_report_answer (Not (StillServed other)) = true
is_report_answer (Not (RoundClosed round)) = true
is_report_answer (Not (RoundNotOpen round)) = true
is_report_answer (Not AlreadyBooked) = true
is_report_answer _ = false

abbrev pub IsAnswerTo : Event → Answer → Type 0
IsAnswerTo (Discover job source targets) answer = IsTrue (is_discover_answer answer)
IsAnswerTo (Join name reach limits) answer = IsTrue (is_join_answer answer)
IsAnswerTo (Leave id) answer = IsTrue (is_leave_answer answer)
IsAnswerTo (Drain id) answer = IsTrue (is_drain_answer answer)
IsAnswerTo (SetLimits id limits) answer = IsTrue (is_limits_answer answer)
IsAnswerTo (Install plan) answer = IsTrue (is_install_answer answer)
IsAnswerTo (Spread spread) answer = IsTrue (is_spread_answer answer)
IsAnswerTo NextRound answer = IsTrue (is_round_answer answer)
IsAnswerTo (Take id) answer = IsTrue (is_take_answer answer)
IsAnswerTo (Serve id name) answer = IsTrue (is_serve_answer answer)
IsAnswerTo (Release id name) answer = IsTrue (is_release_answer answer)
IsAnswerTo (Report report) answer = IsTrue (is_report_answer answer)

-- the events that take no memory
abbrev pub needs_no_memory : Event → Bool
needs_no_memory (Leave id) = true
needs_no_memory (Drain id) = true
needs_no_memory (SetLimits id limits) = true
needs_no_memory NextRound = true
needs_no_memory (Release id name) = true
needs_no_memory _ = false

-- the events that want memory only where nothing is against them
abbrev pub checks_first : Event → Bool
checks_first (Join name reach limits) = true
checks_first (Take id) = true
checks_first (Serve id name) = true
checks_first (Report report) = true
checks_first _ = false
