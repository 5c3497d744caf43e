-- The lists that collectors were served last, one for a collector and a job, by targets.
use Rattle.std.specs.Prelude.{ℕ, zero, suc, ◌==◌, ◌&&◌, ◌||◌, not, Bool, true, List, [], ◌∷◌, ◌++◌, if◌then◌else◌, length, slice_index_or, filter, Option, Some, None}
use Rattle.fleet.specs.Live.{count_below, is_in}
use Rattle.fleet.specs.Orderly.{is_of}
use Rattle.fleet.specs.declared.known_target.KnownTarget.{KnownTarget}

pub record Served : Type 0 where
  -- for each target the collector of which the list of the target's job that was served last has it, 0 where none has. Past the end
  -- none has
  pub slots : List ℕ
  -- the collectors and jobs of which a list was served, in order of their first time, each beside the number of the allocation that
  -- its last list is of
  pub numbers : List ((ℕ × ℕ) × ℕ)

-- no list was served
abbrev pub nothing_served : Served
nothing_served = record { slots = []; numbers = [] }

-- what f has for each number below n
abbrev pub tabulated : (ℕ → ℕ) → ℕ → List ℕ
tabulated f zero = []
tabulated f (suc n) = tabulated f n ++ f n ∷ []

-- whose list has a target, 0 where none has it
abbrev pub slot_of : List ℕ → ℕ → ℕ
slot_of slots target = slice_index_or slots target 0

-- no list has the target, or one of this collector has it
abbrev pub is_free : List ℕ → ℕ → ℕ → Bool
is_free slots collector target = (slot_of slots target == 0) || (slot_of slots target == collector)

-- what a list of a job has of all that its collector holds: what no list of another collector has
abbrev pub listed_of : List KnownTarget → List ℕ → ℕ → ℕ → List ℕ → List ℕ
listed_of known slots collector job held = filter (is_free slots collector) (filter (is_of known job) held)

-- and what it leaves out
abbrev pub left_out_of : List KnownTarget → List ℕ → ℕ → ℕ → List ℕ → List ℕ
left_out_of known slots collector job held = filter (λ (target : ℕ). not (is_free slots collector target)) (filter (is_of known job) held)

-- the target is one of the job, or of any where none is named
abbrev pub is_of_any : List KnownTarget → Option ℕ → ℕ → Bool
is_of_any known None target = true
is_of_any known (Some job) target = is_of known job target

-- a list of the collector, of the job where one is named, has the target
abbrev pub has : List KnownTarget → List ℕ → ℕ → Option ℕ → ℕ → Bool
has known slots collector job target = (slot_of slots target == collector) && is_of_any known job target

-- whose list has a target once those of a collector are let go, that of a job where one is named
abbrev pub slot_let_go : List KnownTarget → List ℕ → ℕ → Option ℕ → ℕ → ℕ
slot_let_go known slots collector job target = if has known slots collector job target then 0 else slot_of slots target

-- whose list has a target once a collector was served these targets of a job
abbrev pub slot_served : List KnownTarget → List ℕ → ℕ → ℕ → List ℕ → ℕ → ℕ
slot_served known slots collector job targets target = if is_in targets target then collector else slot_let_go known slots collector (Some job) target

-- the number beside a collector and a job, if a list was served
abbrev pub number_of : List ((ℕ × ℕ) × ℕ) → ℕ → ℕ → Option ℕ
number_of [] collector job = None
number_of (q ∷ numbers) collector job = if (q.0.0 == collector) && (q.0.1 == job) then Some q.1 else number_of numbers collector job

-- the same, with one number set
abbrev pub with_number : List ((ℕ × ℕ) × ℕ) → ℕ → ℕ → ℕ → List ((ℕ × ℕ) × ℕ)
with_number [] collector job number = ((collector, job), number) ∷ []
with_number (q ∷ numbers) collector job number =
    if (q.0.0 == collector) && (q.0.1 == job) then ((collector, job), number) ∷ numbers else q ∷ with_number numbers collector job number

-- a collector that holds these targets was served the list of a job of an allocation
abbrev pub with_list : List KnownTarget → Served → ℕ → ℕ → ℕ → List ℕ → Served
with_list known served collector job number held =
    record {
      slots = tabulated (slot_served known served.slots collector job (listed_of known served.slots collector job held)) (length known);
      numbers = with_number served.numbers collector job number;
    }

-- the job is the one, or none is named
abbrev pub is_job_or_any : Option ℕ → ℕ → Bool
is_job_or_any None j = true
is_job_or_any (Some job) j = j == job

-- the numbers without those of a collector, that of a job where one is named
abbrev pub without_numbers : List ((ℕ × ℕ) × ℕ) → ℕ → Option ℕ → List ((ℕ × ℕ) × ℕ)
without_numbers numbers collector job = filter (λ (q : (ℕ × ℕ) × ℕ). not ((q.0.0 == collector) && is_job_or_any job q.0.1)) numbers

-- the lists of a collector are let go, that of a job where one is named, and the allocations that they are of are forgotten
abbrev pub without_list : List KnownTarget → Served → ℕ → Option ℕ → Served
without_list known served collector job =
    record {
      slots = tabulated (slot_let_go known served.slots collector job) (length served.slots);
      numbers = without_numbers served.numbers collector job;
    }

-- how many targets they have
abbrev pub count_had : List KnownTarget → Served → ℕ → Option ℕ → ℕ
count_had known served collector job = count_below (has known served.slots collector job) (length served.slots)
