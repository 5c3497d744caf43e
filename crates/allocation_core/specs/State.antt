-- What the allocator knows.
use Rattle.std.specs.Prelude.{◌≤◌, ℕ, ◌+◌, ◌-◌, max, nat_le, nat_lt, ◌&&◌, Bool, if◌then◌else◌, List, [], length, Option, Some, None}
use Rattle.price_certificate.specs.Problem.{Problem}
use Rattle.price_certificate.specs.declared.plan.Plan.{Plan}
use Rattle.price_certificate.specs.declared.version.Version.TheVariants.{Two}
use Rattle.handover.specs.Handover.{last_of, held_in, only}
use Rattle.served_lists.specs.Served.{Served, left_out_of, listed_of, nothing_served, with_list}
use Rattle.scrape_books.specs.declared.report.Entry.{Entry}
use Rattle.fleet.specs.Fleet.{FleetState, first_fleet, is_joined}
use Rattle.fleet.specs.declared.job.JobSpec.{JobSpec}
use Rattle.fleet_assignment.specs.Allocation.{allocation_of}
use Rattle.fleet_assignment.specs.Instance.{instance_of}

-- of so many of the last rounds reports can be booked
abbrev pub IsCount : ℕ → Type 0
IsCount count = (1 ≤ count) × (count ≤ 64)

-- the same number, where reports can be booked of so many rounds
abbrev pub counted : ℕ → Option ℕ
counted count = if nat_le 1 count && nat_le count 64 then Some count else None

pub record State : Type 0 where
  -- jobs, targets and collectors
  pub fleet : FleetState
  -- the allocations from number 1 on, each a list of (target, collector), strictly ascending by target. Number 0 is empty
  pub published : List (List (ℕ × ℕ))
  -- the plan of the last allocation, and the instance that its prices certify it for, which has the caps of a spread for limits
  pub problem : Problem
  pub plan : Plan
  -- the collectors that took an allocation, in order of their first time, each beside the number of the one that it took last
  pub taken : List (ℕ × ℕ)
  -- the lists that collectors were served last
  pub served : Served
  -- the open round
  pub round : ℕ
  -- the reports that are booked, beside their targets, in order of booking
  pub booked : List (ℕ × Entry)
  -- the round in which it began: the first one, or that of its renewal
  pub begun : ℕ
  -- of how many of the last rounds a report is booked, the open one among them
  pub report_rounds : ℕ

-- the first round of which a report is booked
abbrev pub first_round : State → ℕ
first_round m = max m.begun (m.round + 1 - m.report_rounds)

-- the state that books reports of so many of the last rounds
abbrev pub with_rounds : ℕ → State → State
with_rounds report_rounds m = record m { report_rounds = report_rounds }

-- nothing is listed, known, published, served or booked, and nobody joined
abbrev pub first_state : List JobSpec → ℕ → State
first_state jobs report_rounds =
    record {
      fleet = first_fleet jobs;
      published = [];
      problem = record { version = Two; limits = []; draining = []; rows = []; before = [] };
      plan = record { pairs = []; item_prices = []; bin_prices = [] };
      taken = [];
      served = nothing_served;
      round = 1;
      booked = [];
      begun = 1;
      report_rounds = report_rounds;
    }

-- The state that a renewal leaves, from what it keeps: the allocation is the first and only one, or there is none where it is
-- empty. The lists that were served last still have their targets. Nobody has taken anything, and nothing is booked: earlier rounds are
-- closed.
abbrev pub restored : FleetState → List (ℕ × ℕ) → List ℕ → Problem → Plan → ℕ → ℕ → State
restored fleet pairs slots problem plan round report_rounds =
    record {
      fleet = fleet;
      published = only pairs;
      problem = problem;
      plan = plan;
      taken = [];
      served = record { slots = slots; numbers = [] };
      round = round;
      booked = [];
      begun = round;
      report_rounds = report_rounds;
    }

-- the number of the current allocation
abbrev pub current_of : State → ℕ
current_of m = length m.published

-- the current allocation
abbrev pub current_pairs : State → List (ℕ × ℕ)
current_pairs m = last_of m.published

-- what a collector holds in the current allocation
abbrev pub held_by : State → ℕ → List ℕ
held_by m collector = held_in m.published (current_of m) collector

-- the assignment problem of the fleet after the current allocation
abbrev pub instance_at : State → Problem
instance_at m = instance_of m.fleet (current_pairs m)

-- a plan's pairs as pairs of a target and a collector
abbrev pub allocation_at : State → List (ℕ × ℕ) → List (ℕ × ℕ)
allocation_at m pairs = allocation_of m.fleet pairs

-- a collector joined under the number once
abbrev pub was_given : State → ℕ → Bool
was_given m id = nat_lt 0 id && nat_le id m.fleet.last_collector

-- what is served of: what a live collector holds, and nothing where it has left
abbrev pub held_live : State → ℕ → List ℕ
held_live m id = if is_joined m.fleet id then held_by m id else []

-- the list of a job that a collector is served, of the job at a place where there is one
abbrev pub list_at : State → ℕ → Option ℕ → List ℕ
list_at m id None = []
list_at m id (Some job) = listed_of m.fleet.known m.served.slots id job (held_live m id)

-- what that list leaves out
abbrev pub left_out_at : State → ℕ → Option ℕ → List ℕ
left_out_at m id None = []
left_out_at m id (Some job) = left_out_of m.fleet.known m.served.slots id job (held_live m id)

-- the lists that were served last, once it is served
abbrev pub served_at : State → ℕ → Option ℕ → Served
served_at m id None = m.served
served_at m id (Some job) = with_list m.fleet.known m.served id job (current_of m) (held_live m id)
