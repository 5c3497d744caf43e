-- What is shown of a state.
use Rattle.std.specs.Prelude.{◌≡◌, ◌==◌, ℕ, List, [], ◌∷◌, ◌++◌, Option, Some, None, if◌then◌else◌, map, length, slice_get}
use Rattle.std.specs.Option.{option_map}
use Rattle.scrape_books.specs.Books.{total_of}
use Rattle.label_sets.specs.Target.{FinalTarget}
use Rattle.fleet.specs.declared.collector.Collector.{Collector}
use Rattle.fleet.specs.declared.known_target.KnownTarget.{KnownTarget}
use Rattle.allocation_core.specs.State.{State, current_of, held_by, instance_at}
use Rattle.alloc_desk.specs.declared.view.View.{View}
use Rattle.alloc_desk.specs.declared.view.CollectorView.{CollectorView}
use Rattle.target_shares.specs.declared.numbered_target.NumberedTarget.{NumberedTarget}
use Rattle.target_shares.specs.declared.share.Share.{Share}

abbrev pub collector_view_of : State → Collector → CollectorView
collector_view_of m c = record { id = c.id; name = c.name; draining = c.draining; held = held_by m c.id }

abbrev pub view_of : State → View
view_of m =
    record {
      instance = instance_at m;
      published_instance = m.problem;
      published_plan = m.plan;
      collectors = map (collector_view_of m) m.fleet.collectors;
      current = current_of m;
      round = m.round;
      total = total_of m.booked;
    }

-- a known target and its job
abbrev pub target_of : State → ℕ → Option (ℕ × FinalTarget)
target_of m number = option_map (λ (known : KnownTarget). (known.job, known.target)) (slice_get m.fleet.known number)

-- a known target, where it is of the job
abbrev pub numbered_in : ℕ → ℕ → Option KnownTarget → List NumberedTarget
numbered_in job number (Some known) = if known.job == job then record { number = number; target = known.target } ∷ [] else []
numbered_in job number None = []

-- the targets of a job among those of these numbers, in their order
abbrev pub numbered_of : State → ℕ → List ℕ → List NumberedTarget
numbered_of m job [] = []
numbered_of m job (number ∷ numbers) = numbered_in job number (slice_get m.fleet.known number) ++ numbered_of m job numbers

-- what a collector holds of a job
abbrev pub share_of : State → ℕ → Collector → Share
share_of m job c = record { collector = c.name; targets = numbered_of m job (held_by m c.id) }

-- what each live collector holds of it
abbrev pub shares_of : State → ℕ → List Share
shares_of m job = map (share_of m job) m.fleet.collectors
