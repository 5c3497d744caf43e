-- What a list keeps that is to let targets go, until it is acknowledged.
use Rattle.std.specs.Prelude.{ℕ, ◌<◌, ◌==◌, List, Bool, not, filter, map, length, Some}
use Rattle.fleet.specs.Orderly.{is_of}
use Rattle.fleet.specs.declared.known_target.KnownTarget.{KnownTarget}
use Rattle.served_lists.specs.Served.{slot_of}
use Rattle.allocation_core.specs.State.{State, current_pairs, held_by}
use Rattle.sd_server.specs.Looks.{Finds}
use Rattle.sd_server.specs.declared.look.Look.{Look}

-- the list that the collector was served last has the target
abbrev pub is_had : List ℕ → ℕ → ℕ → Bool
is_had slots collector target = slot_of slots target == collector

-- of these targets, those of the job at a place that the list has
abbrev pub kept_among : List KnownTarget → List ℕ → ℕ → ℕ → List ℕ → List ℕ
kept_among known slots place collector held = filter (is_had slots collector) (filter (is_of known place) held)

-- and those that it has not
abbrev pub put_off_among : List KnownTarget → List ℕ → ℕ → ℕ → List ℕ → List ℕ
put_off_among known slots place collector held = filter (λ (target : ℕ). not (is_had slots collector target)) (filter (is_of known place) held)

-- what the collector's last list of the job keeps, now that it holds what it holds
abbrev pub kept_of : State → ℕ → ℕ → List ℕ
kept_of m place id = kept_among m.fleet.known m.served.slots place id (held_by m id)

-- what it holds and is put off until that list is acknowledged
abbrev pub put_off_of : State → ℕ → ℕ → List ℕ
put_off_of m place id = put_off_among m.fleet.known m.served.slots place id (held_by m id)

-- the targets of the job that its last list has, and another collector holds now
abbrev pub goes_of : State → ℕ → ℕ → List ℕ
goes_of m place id =
    map (λ (p : ℕ × ℕ). p.0)
    (filter (λ (p : ℕ × ℕ). is_of m.fleet.known place p.0) (filter (λ (p : ℕ × ℕ). is_had m.served.slots id p.0) (filter (λ (p : ℕ × ℕ). not (p.1 == id)) (current_pairs m))))

-- the look finds what that list keeps
abbrev pub FindsStaying : State → ℕ → ℕ → Look → Type 0
FindsStaying m place id look = Finds m (kept_of m place id) (Some (length (put_off_of m place id))) look

-- and it is to let targets go that another collector holds
abbrev pub FindsKept : State → ℕ → ℕ → Look → Type 0
FindsKept m place id look = (0 < length (goes_of m place id)) × FindsStaying m place id look
