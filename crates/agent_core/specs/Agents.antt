-- An agent that stands between the allocator and its Prometheus, as a machine: what it is told, and what comes of it.
use Rattle.std.specs.Prelude.{ℕ, ◌-◌, ◌==◌, ◌&&◌, Bool, true, false, List, [], ◌∷◌, ◌++◌, Option, None, Some, nat_lt, nat_le, not, filter, length, slice_get, if◌then◌else◌}
use Rattle.std.specs.List.{list_any, range_with_len}
use Rattle.std.specs.Option.{option_map_or}
use Rattle.std.specs.Cmp.Lexicographic.{pointwise}
use Rattle.agent_core.specs.Targets.{same_group}
use Rattle.agent_core.specs.Told.{Told, carried}
use Rattle.agent_core.specs.Offered.{all_after, all_chosen, part_after}
use Rattle.agent_core.specs.declared.target.Series.{Series}
use Rattle.agent_core.specs.declared.target.Listed.{Listed}
use Rattle.agent_core.specs.declared.slot.Point.{Point}
use Rattle.agent_core.specs.declared.sharing.LastScrape.{LastScrape}
use Rattle.agent_core.specs.declared.report.Head.{Head}
use Rattle.agent_core.specs.declared.report.Report.{Report}
use Rattle.agent_core.specs.declared.serving.Standing.{Standing}
use Rattle.agent_core.specs.declared.serving.Standing.TheVariants.{Nobody, Holding, Following}
use Rattle.agent_core.specs.declared.serving.Serving.{Serving}
use Rattle.agent_core.specs.declared.serving.Serving.TheVariants as serving

pub record State : Type 0 where
  -- what is written down
  pub told : Told
  pub standing : Standing
  -- the head of the list that is held, with the last round that was told; and the time up to which that is open
  pub head : Head
  pub until : ℕ
  -- the list that was taken last, and which of its targets are served, by their places
  pub targets : List Listed
  pub served : List ℕ
  -- whether anything is known of what is to be served
  pub known : Bool
  -- when the allocator was heard last
  pub heard : ℕ
  pub lease : Option ℕ

-- what an agent is told, with the time
pub data Input : Type 0 where
  -- a list was taken
  Taken : (at : ℕ) (head : Head) (until : ℕ) (targets : List Listed) → Input
  -- a list was shown, and not given
  Shown : (at : ℕ) (head : Head) (until : ℕ) (targets : List Listed) → Input
  -- the collector holds nothing
  Gone : (at : ℕ) → Input
  -- the collector is not known
  Unknown : (at : ℕ) → Input
  -- a report was refused
  Over : Input
  -- Prometheus said of each series these scrapes, and of those that targets share these last ones
  Asked : (now : ℕ) (said : List (Series × List Point)) (lasts : List (Series × List LastScrape)) → Input
  -- the same, and memory ended behind so many targets and points of shared series: what was chosen is lost
  Cut : (now : ℕ) (said : List (Series × List Point)) (lasts : List (Series × List LastScrape)) (count more : ℕ) → Input

abbrev pub no_head : Head
no_head = record { collector = 0; epoch = 0; number = 0; round = 0 }

-- an agent as it starts, with what was written down
abbrev pub nobody : Told → Option ℕ → State
nobody told lease = record { told = told; standing = Nobody; head = no_head; until = 0; targets = []; served = []; known = false; heard = 0; lease = lease }

abbrev pub is_nobody : Standing → Bool
is_nobody Nobody = true
is_nobody Holding = false
is_nobody (Following since) = false

-- the places below a number
abbrev pub places : ℕ → List ℕ
places n = range_with_len 0 n

-- these are the lists that it holds
abbrev pub is_same : State → Head → List Listed → Bool
is_same s head targets = (s.head.epoch == head.epoch) && (s.head.number == head.number) && pointwise same_group s.targets targets

-- who holds other lists than the current ones follows
abbrev pub shown_standing : Standing → Bool → ℕ → Standing
shown_standing Nobody same at = Nobody
shown_standing Holding same at = if same then Holding else Following at
shown_standing (Following since) same at = Following since

-- the target at a place is in lists
abbrev pub is_listed : List Listed → List Listed → ℕ → Bool
is_listed targets lists place = option_map_or (λ (listed : Listed). list_any (same_group listed) lists) (slice_get targets place) false

abbrev pub with_lists : State → ℕ → Head → ℕ → List Listed → State
with_lists s at head until targets = record s { standing = Holding; head = head; until = until; targets = targets; known = true; heard = at }

-- the round that is open in its epoch: reports go on under the number that is held
abbrev pub with_round : State → Head → ℕ → State
with_round s head until =
    if s.head.epoch == head.epoch then record s { head = record s.head { round = head.round }; until = until }
    else record s { until = 0 }

-- it holds a list, and its round is open
abbrev pub may_report : State → ℕ → Bool
may_report s now = not (is_nobody s.standing) && nat_lt now s.until

abbrev pub next : State → Input → State
next s (Taken at head until targets) = with_lists (record s { told = carried s.told at targets; served = places (length targets) }) at head until targets
next s (Shown at head until targets) =
    record (with_round s head until) {
      standing = shown_standing s.standing (is_same s head targets) at;
      served = filter (is_listed s.targets targets) s.served;
      heard = at;
    }
next s (Gone at) = record s { standing = Nobody; until = 0; targets = []; served = []; known = true; heard = at }
next s (Unknown at) = record s { standing = Nobody; until = 0; heard = at }
next s Over = record s { until = 0 }
next s (Asked now said lasts) = if may_report s now then record s { told = all_after s.told s.head said lasts s.targets } else s
next s (Cut now said lasts count more) = if may_report s now then record s { told = part_after s.told s.head said lasts s.targets count more } else s

-- the reports that it chooses
abbrev pub reported : State → Input → List Report
reported s (Taken at head until targets) = []
reported s (Shown at head until targets) = []
reported s (Gone at) = []
reported s (Unknown at) = []
reported s Over = []
reported s (Cut now said lasts count more) = []
reported s (Asked now said lasts) = if may_report s now then all_chosen s.told s.head said lasts s.targets else []

-- a whole run: its reports, and what it leaves
abbrev pub reports_of : State → List Input → List Report
reports_of s [] = []
reports_of s (input ∷ inputs) = reported s input ++ reports_of (next s input) inputs

abbrev pub state_after : State → List Input → State
state_after s [] = s
state_after s (input ∷ inputs) = state_after (next s input) inputs

-- nothing was heard of the allocator for as long as the lease
abbrev pub is_expired : Option ℕ → ℕ → ℕ → Bool
is_expired None heard now = false
is_expired (Some lease) heard now = nat_le lease (now - heard)

-- what is served: where the lease is over, or the collector holds nothing, empty lists
abbrev pub serving_of : State → ℕ → Serving
serving_of s now = if s.known then (if is_expired s.lease s.heard now then serving.Nothing else serving.Served) else serving.Unknown
