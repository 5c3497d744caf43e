-- What becomes of a list, of a joining, a draining, other limits and a leaving is the machine's answer and its next state.
use Rattle.std.proofs.Common.{◌≡◌, ℕ, List, Bool, true, false, Option, Some, None, cond, refl, ap, ◌∙◌}
use Rattle.std.specs.Prelude.{is_some, if◌then◌else◌}
use Rattle.std.specs.Option.{option_map}
use Rattle.label_sets.specs.Target.{FinalTarget}
use Rattle.reach_rules.specs.OwnLimits.{LimitList}
use Rattle.reach_rules.specs.declared.rule.ReachRule.{ReachRule}
use Rattle.fleet.specs.Changes.{drain_refusal, draining_by, draining_of, fleet_after_drain, fleet_after_join, fleet_after_leave, fleet_after_limits, fleet_after_list, join_refusal, joining_by, joining_of, limiting_by, limiting_of, limits_refusal, list_refusal, listing_by, listing_of, with_collector, with_draining, with_limits, with_listing, without_collector}
use Rattle.fleet.specs.Fleet.{FleetState, is_joined}
use Rattle.fleet.specs.declared.outcome.DrainRefusal.{DrainRefusal}
use Rattle.fleet.specs.declared.outcome.Draining.{Draining as Drained}
use Rattle.fleet.specs.declared.outcome.JoinRefusal.{JoinRefusal}
use Rattle.fleet.specs.declared.outcome.Joining.{Joining}
use Rattle.fleet.specs.declared.outcome.Limiting.{Limiting}
use Rattle.fleet.specs.declared.outcome.LimitsRefusal.{LimitsRefusal}
use Rattle.fleet.specs.declared.outcome.Listing.{Listing}
use Rattle.fleet.specs.declared.outcome.ListRefusal.{ListRefusal}
use Rattle.fleet_events.specs.declared.answer.Answer.{Answer}
use Rattle.fleet_events.specs.declared.answer.Answer.TheVariants.{Draining, Joined, Left, LimitsSet, Not}
use Rattle.fleet_events.specs.declared.event.Event.TheVariants.{Discover, Drain, Join, Leave, SetLimits}
use Rattle.fleet_events.specs.declared.refusal.Refusal.{Refusal}
use Rattle.fleet_events.specs.declared.refusal.Refusal.TheVariants.{UnknownCollector}
use Rattle.allocation_core.specs.State.{State}
use Rattle.allocation_core.specs.Steps.{answer_by, answer_of, draining_answer, joining_answer, limiting_answer, listing_answer, state_after, undrained, unjoined, unlimited, unlisted}

listed_by : (o : Option ListRefusal) (listing : Listing) → listing_answer (listing_by o listing) ≡ answer_by (option_map unlisted o) (listing_answer listing)
listed_by None listing = refl
listed_by (Some r) listing = refl

pub listing_is : (m : State) (name : List ℕ) (source : ℕ) (targets : List FinalTarget) → listing_answer (listing_of m.fleet name source targets) ≡ answer_of m (Discover name source targets)
unfolding listing_of answer_of
listing_is m name source targets = listed_by (list_refusal m.fleet name source targets) _

-- the state stays where the fleet refuses
fleet_by : {R : Type 0} (why : R → Refusal) (m : State) (o : Option R) (other : FleetState) → (let r : State = record m { fleet = if is_some o then m.fleet else other } in r) ≡ (if is_some (option_map why o) then m else record m { fleet = other })
fleet_by why m None other = refl
fleet_by why m (Some r) other = refl

pub listed_is : (m : State) (name : List ℕ) (source : ℕ) (targets : List FinalTarget) → (let r : State = record m { fleet = fleet_after_list m.fleet name source targets } in r) ≡ state_after m (Discover name source targets)
unfolding fleet_after_list state_after
listed_is m name source targets = fleet_by unlisted m (list_refusal m.fleet name source targets) (with_listing m.fleet name source targets)

joined_by : (o : Option JoinRefusal) (id : ℕ) → joining_answer (joining_by o id) ≡ answer_by (option_map unjoined o) (Joined id)
joined_by None id = refl
joined_by (Some r) id = refl

pub joining_is : (m : State) (name : List ℕ) (reach : List ReachRule) (limits : LimitList) → joining_answer (joining_of m.fleet name limits) ≡ answer_of m (Join name reach limits)
unfolding joining_of answer_of
joining_is m name reach limits = joined_by (join_refusal m.fleet name limits) _

pub joined_is : (m : State) (name : List ℕ) (reach : List ReachRule) (limits : LimitList) → (let r : State = record m { fleet = fleet_after_join m.fleet name reach limits } in r) ≡ state_after m (Join name reach limits)
unfolding fleet_after_join state_after
joined_is m name reach limits = fleet_by unjoined m (join_refusal m.fleet name limits) (with_collector m.fleet name reach limits)

drained_by : (o : Option DrainRefusal) → draining_answer (draining_by o) ≡ answer_by (option_map undrained o) Draining
drained_by None = refl
drained_by (Some r) = refl

draining_is : (m : State) (id : ℕ) → draining_answer (draining_of m.fleet id) ≡ answer_of m (Drain id)
unfolding draining_of answer_of
draining_is m id = drained_by (drain_refusal m.fleet id)

drained_is : (m : State) (id : ℕ) → (let r : State = record m { fleet = fleet_after_drain m.fleet id } in r) ≡ state_after m (Drain id)
unfolding fleet_after_drain state_after
drained_is m id = fleet_by undrained m (drain_refusal m.fleet id) (with_draining m.fleet id)

limited_by : (o : Option LimitsRefusal) → limiting_answer (limiting_by o) ≡ answer_by (option_map unlimited o) LimitsSet
limited_by None = refl
limited_by (Some r) = refl

limiting_is : (m : State) (id : ℕ) (limits : LimitList) → limiting_answer (limiting_of m.fleet id limits) ≡ answer_of m (SetLimits id limits)
unfolding limiting_of answer_of
limiting_is m id limits = limited_by (limits_refusal m.fleet id limits)

limited_is : (m : State) (id : ℕ) (limits : LimitList) → (let r : State = record m { fleet = fleet_after_limits m.fleet id limits } in r) ≡ state_after m (SetLimits id limits)
unfolding fleet_after_limits state_after
limited_is m id limits = fleet_by unlimited m (limits_refusal m.fleet id limits) (with_limits m.fleet id limits)

left_by : (m : State) (joined : Bool) (other : FleetState) → (let r : State = record m { fleet = if joined then other else m.fleet } in r) ≡ (if is_some (cond joined (let n : Option Refusal = None in n) (Some UnknownCollector)) then m else record m { fleet = other })
left_by m true other = refl
left_by m false other = refl

pub left_is : (m : State) (id : ℕ) → (let r : State = record m { fleet = fleet_after_leave m.fleet id } in r) ≡ state_after m (Leave id)
unfolding fleet_after_leave state_after
left_is m id = left_by m (is_joined m.fleet id) (without_collector m.fleet id)

-- the same, of a state that is seen as another
pub list_state :
    (s m : State) (fleet : FleetState) (text name : List ℕ) (source : ℕ) (targets : List FinalTarget) → s ≡ m → text ≡ name → fleet ≡ fleet_after_list s.fleet text source targets → (let r : State = record s { fleet = fleet } in r) ≡ state_after m (Discover name source targets)
list_state s m fleet text name source targets same read is =
    (λ i. record s { fleet = is i }) ∙ (λ i. record s { fleet = fleet_after_list s.fleet (read i) source targets }) ∙ listed_is s name source targets ∙ ap (λ (n : State). state_after n (Discover name source targets)) same

pub list_answer :
    (s m : State) (answer : Answer) (listing : Listing) (text name : List ℕ) (source : ℕ) (targets : List FinalTarget) → s ≡ m → text ≡ name → listing ≡ listing_of s.fleet text source targets → answer ≡ listing_answer listing → answer ≡ answer_of m (Discover name source targets)
list_answer s m answer listing text name source targets same read is told =
    told ∙ ap listing_answer is ∙ (λ i. listing_answer (listing_of s.fleet (read i) source targets)) ∙ listing_is s name source targets ∙ ap (λ (n : State). answer_of n (Discover name source targets)) same

pub join_state : (s m : State) (fleet : FleetState) (name : List ℕ) (reach : List ReachRule) (limits : LimitList) → s ≡ m → fleet ≡ fleet_after_join s.fleet name reach limits → (let r : State = record s { fleet = fleet } in r) ≡ state_after m (Join name reach limits)
join_state s m fleet name reach limits same is = (λ i. record s { fleet = is i }) ∙ joined_is s name reach limits ∙ ap (λ (n : State). state_after n (Join name reach limits)) same

pub join_answer : (s m : State) (answer : Answer) (joining : Joining) (name : List ℕ) (reach : List ReachRule) (limits : LimitList) → s ≡ m → joining ≡ joining_of s.fleet name limits → answer ≡ joining_answer joining → answer ≡ answer_of m (Join name reach limits)
join_answer s m answer joining name reach limits same is told = told ∙ ap joining_answer is ∙ joining_is s name reach limits ∙ ap (λ (n : State). answer_of n (Join name reach limits)) same

pub drain_state : (s m : State) (fleet : FleetState) (id : ℕ) → s ≡ m → fleet ≡ fleet_after_drain s.fleet id → (let r : State = record s { fleet = fleet } in r) ≡ state_after m (Drain id)
drain_state s m fleet id same is = (λ i. record s { fleet = is i }) ∙ drained_is s id ∙ ap (λ (n : State). state_after n (Drain id)) same

pub drain_answer : (s m : State) (answer : Answer) (draining : Drained) (id : ℕ) → s ≡ m → draining ≡ draining_of s.fleet id → answer ≡ draining_answer draining → answer ≡ answer_of m (Drain id)
drain_answer s m answer draining id same is told = told ∙ ap draining_answer is ∙ draining_is s id ∙ ap (λ (n : State). answer_of n (Drain id)) same

pub limits_state : (s m : State) (fleet : FleetState) (id : ℕ) (limits : LimitList) → s ≡ m → fleet ≡ fleet_after_limits s.fleet id limits → (let r : State = record s { fleet = fleet } in r) ≡ state_after m (SetLimits id limits)
limits_state s m fleet id limits same is = (λ i. record s { fleet = is i }) ∙ limited_is s id limits ∙ ap (λ (n : State). state_after n (SetLimits id limits)) same

pub limits_answer : (s m : State) (answer : Answer) (limiting : Limiting) (id : ℕ) (limits : LimitList) → s ≡ m → limiting ≡ limiting_of s.fleet id limits → answer ≡ limiting_answer limiting → answer ≡ answer_of m (SetLimits id limits)
limits_answer s m answer limiting id limits same is told = told ∙ ap limiting_answer is ∙ limiting_is s id limits ∙ ap (λ (n : State). answer_of n (SetLimits id limits)) same

pub leave_state : (s m : State) (fleet : FleetState) (id : ℕ) → s ≡ m → fleet ≡ fleet_after_leave s.fleet id → (let r : State = record s { fleet = fleet } in r) ≡ state_after m (Leave id)
leave_state s m fleet id same is = (λ i. record s { fleet = is i }) ∙ left_is s id ∙ ap (λ (n : State). state_after n (Leave id)) same

leave_by : (joined : Bool) → (if joined then Left else Not UnknownCollector) ≡ answer_by (cond joined (let n : Option Refusal = None in n) (Some UnknownCollector)) Left
leave_by true = refl
leave_by false = refl

leaving_is : (m : State) (id : ℕ) → (if is_joined m.fleet id then Left else Not UnknownCollector) ≡ answer_of m (Leave id)
unfolding answer_of
leaving_is m id = leave_by (is_joined m.fleet id)

pub leave_answer : (s m : State) (id : ℕ) (was : Bool) → s ≡ m → was ≡ is_joined s.fleet id → (if was then Left else Not UnknownCollector) ≡ answer_of m (Leave id)
leave_answer s m id was same is = ap (λ (b : Bool). if b then Left else Not UnknownCollector) is ∙ leaving_is s id ∙ ap (λ (n : State). answer_of n (Leave id)) same
