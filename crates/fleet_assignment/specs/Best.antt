-- Which allocations of a fleet are sound, and which are the best.
use Rattle.std.specs.Prelude.{◌≡◌, ◌≢◌, ◌≤◌, ◌<◌, ◌==◌, ◌&&◌, ◌↔◌, not, Bool, ℕ, List, All, AllPairs, Some, true, count_by, find, length, slice_get}
use Rattle.std.specs.List.{list_any}
use Rattle.std.specs.Option.{option_map_or}
use Rattle.reach_rules.specs.Rules.{reaches}
use Rattle.price_certificate.specs.Assignment.{IsFeasible, IsOptimal, left, moved}
use Rattle.price_certificate.specs.Problem.{IsProblem}
use Rattle.fleet.specs.declared.job.JobSpec.{JobSpec}
use Rattle.fleet.specs.declared.known_target.KnownTarget.{KnownTarget}
use Rattle.fleet.specs.declared.collector.Collector.{Collector}
use Rattle.reach_rules.specs.OwnLimits.{own_limit}
use Rattle.fleet.specs.Fleet.{FleetState, is_draining, is_joined, is_live}
use Rattle.fleet.specs.IsFleet.{IsFleet}
use Rattle.fleet.specs.Orderly.{is_of}
use Rattle.fleet_assignment.specs.Allocation.{allocation_of}
use Rattle.fleet_assignment.specs.Instance.{instance_of}

-- a live collector of this number reaches the target
pub record IsReached (fleet : FleetState) (target collector : ℕ) : Type 0 where
  pub place : ℕ
  pub reacher : Collector
  pub known_as : KnownTarget
  pub is_live_one : slice_get fleet.collectors place ≡ Some reacher
  pub number : reacher.id ≡ collector
  pub is_known : slice_get fleet.known target ≡ Some known_as
  pub reached : reaches reacher.reach known_as.target ≡ true

-- the target is of the job
abbrev pub is_of_job : FleetState → ℕ → ℕ → Bool
is_of_job fleet job target = is_of fleet.known job target

-- how many of a job's targets a collector has
abbrev pub share_of : FleetState → List (ℕ × ℕ) → ℕ → ℕ → ℕ
share_of fleet pairs collector job = count_by (λ (q : ℕ × ℕ). (q.1 == collector) && is_of_job fleet job q.0) pairs

-- the limit of a job, where 0 is no limit
abbrev pub limit_at : FleetState → ℕ → ℕ
limit_at fleet job = option_map_or (λ (j : JobSpec). j.target_limit) (slice_get fleet.jobs job) 0

-- the own limit of the live collector of a number for a job, where 0 is no limit
abbrev pub own_limit_at : FleetState → ℕ → ℕ → ℕ
own_limit_at fleet collector job =
    option_map_or (λ (c : Collector). option_map_or (λ (j : JobSpec). own_limit c.limits j.name) (slice_get fleet.jobs job) 0) (find (λ (c : Collector). c.id == collector) fleet.collectors) 0

-- no collector more of a job's targets than the job's limit or its own, only live targets, each at most once, and only at
-- collectors that reach them
pub record IsSound (fleet : FleetState) (pairs : List (ℕ × ℕ)) : Type 0 where
  pub live : All (λ (q : ℕ × ℕ). is_live fleet q.0 ≡ true) pairs
  pub once : (target : ℕ) → count_by (λ (q : ℕ × ℕ). q.0 == target) pairs ≤ 1
  pub reaching : All (λ (q : ℕ × ℕ). IsReached fleet q.0 q.1) pairs
  pub within : (collector job : ℕ) → limit_at fleet job ≢ 0 → share_of fleet pairs collector job ≤ limit_at fleet job
  pub within_own : (collector job : ℕ) → own_limit_at fleet collector job ≢ 0 → share_of fleet pairs collector job ≤ own_limit_at fleet collector job

-- how many targets are at draining collectors
abbrev pub left_by : FleetState → List (ℕ × ℕ) → ℕ
left_by fleet pairs = count_by (λ (q : ℕ × ℕ). is_draining fleet q.1) pairs

-- the pair stands in the allocation
abbrev pub stands_in : List (ℕ × ℕ) → ℕ × ℕ → Bool
stands_in pairs q = list_any (λ (other : ℕ × ℕ). (other.0 == q.0) && (other.1 == q.1)) pairs

-- how many pairs of the preceding allocation are lost of which target and collector are live, so that they could have been kept
abbrev pub moved_by : FleetState → List (ℕ × ℕ) → List (ℕ × ℕ) → ℕ
moved_by fleet before pairs = count_by (λ (q : ℕ × ℕ). is_live fleet q.0 && is_joined fleet q.1 && not (stands_in pairs q)) before

-- Sound; no sound allocation of the fleet covers more targets, none that covers as many leaves fewer at draining collectors, and
-- none equal in both moves fewer from the preceding one.
pub record IsBest (fleet : FleetState) (before pairs : List (ℕ × ℕ)) : Type 0 where
  pub sound : IsSound fleet pairs
  pub covers : (others : List (ℕ × ℕ)) → IsSound fleet others → length others ≤ length pairs
  pub leaves : (others : List (ℕ × ℕ)) → IsSound fleet others → length others ≡ length pairs → left_by fleet pairs ≤ left_by fleet others
  pub moves : (others : List (ℕ × ℕ)) → IsSound fleet others → length others ≡ length pairs → left_by fleet others ≡ left_by fleet pairs → moved_by fleet before pairs ≤ moved_by fleet before others

-- no target stands twice
abbrev pub IsOnce : List (ℕ × ℕ) → Type 0
IsOnce pairs = (target : ℕ) → count_by (λ (q : ℕ × ℕ). q.0 == target) pairs ≤ 1

-- the instance of a fleet and a preceding allocation is one
abbrev pub InstancesAreProblems : Type 0
InstancesAreProblems = (fleet : FleetState) (before : List (ℕ × ℕ)) → IsFleet fleet → IsProblem (instance_of fleet before)

-- a feasible plan's allocation is sound, in order of target, and covers, leaves and moves what the plan does
pub record IsCarriedOver (fleet : FleetState) (before plan : List (ℕ × ℕ)) : Type 0 where
  pub sound : IsSound fleet (allocation_of fleet plan)
  pub ascending : AllPairs (λ (a b : ℕ × ℕ). a.0 < b.0) (allocation_of fleet plan)
  pub covers : length (allocation_of fleet plan) ≡ length plan
  pub leaves : left (instance_of fleet before) plan ≡ left_by fleet (allocation_of fleet plan)
  pub moves : moved (instance_of fleet before) plan ≡ moved_by fleet before (allocation_of fleet plan)

abbrev pub FeasibleAreCarriedOver : Type 0
FeasibleAreCarriedOver = (fleet : FleetState) (before plan : List (ℕ × ℕ)) → IsFleet fleet → IsOnce before → IsFeasible (instance_of fleet before) plan → IsCarriedOver fleet before plan

-- a feasible plan is optimal for the instance exactly if its allocation is a best one
abbrev pub OptimalIsBest : Type 0
OptimalIsBest = (fleet : FleetState) (before plan : List (ℕ × ℕ)) → IsFleet fleet → IsOnce before → IsFeasible (instance_of fleet before) plan → IsOptimal (instance_of fleet before) plan ↔ IsBest fleet before (allocation_of fleet plan)

-- no target stands twice in an allocation, whatever the plan
abbrev pub AllocationsAreOnce : Type 0
AllocationsAreOnce = (fleet : FleetState) (plan : List (ℕ × ℕ)) → IsOnce (allocation_of fleet plan)
