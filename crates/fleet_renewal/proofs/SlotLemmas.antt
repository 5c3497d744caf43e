-- The slots that are carried over: what the code makes by its marks, how many they are, and what holds of each.
use Rattle.std.proofs.Common.{◌≡◌, ℕ, ◌<◌, ◌&&◌, ◌||◌, List, [], ◌∷◌, Bool, true, false, Some, All, get_or, length, map, refl, sym, ap, subst, ◌∙◌, inl, inr, arith}
use Rattle.std.specs.Prelude.{◌==◌, not, slice_get}
use Rattle.std.specs.List.{filter_map}
use Rattle.std.proofs.lemmas.Bool.{cases_lt}
use Rattle.std.proofs.lemmas.List.{get_or_past, length-map}
use Rattle.std.proofs.lemmas.List.Elements.{All-map}
use Rattle.std.proofs.lemmas.Option.{get_or_from_slice_get}
use Rattle.fleet.specs.Fleet.{FleetState, is_live}
use Rattle.fleet.specs.Live.{AreMarks, chosen_below, count_below, mark_at}
use Rattle.fleet.specs.declared.job.JobSpec.{JobSpec}
use Rattle.fleet.proofs.LiveLemmas.{length-chosen}
use Rattle.fleet.proofs.Marks.{chosen_alike}
use Rattle.served_lists.specs.Served.{slot_of}
use Rattle.fleet_renewal.specs.Renewed.{has_place, is_held, new_places, renewed_fleet, renewed_slots, survives}
use Rattle.fleet_renewal.proofs.Counting.{made_at}
use Rattle.fleet_renewal.proofs.Gets.{map_at}
use Rattle.fleet_renewal.proofs.Moving.{known_after, known_count, survivor_within}

pub slots_are :
    (fleet : FleetState) (pairs : List (ℕ × ℕ)) (slots others : List ℕ) (jobs : List JobSpec) (marks : List Bool) → length marks ≡ length fleet.known → AreMarks (survives fleet pairs slots jobs) marks
    → others ≡ map (slot_of slots) (chosen_below (mark_at marks) (length marks)) → others ≡ renewed_slots fleet pairs slots jobs
unfolding renewed_slots
slots_are fleet pairs slots others jobs marks each are is =
    let stays = survives fleet pairs slots jobs in
    is ∙ ap (map (slot_of slots)) (chosen_alike (mark_at marks) stays (length marks) are.at ∙ ap (chosen_below stays) each)

-- ---- one for each known target of the renewed fleet

slots_count : (fleet : FleetState) (pairs : List (ℕ × ℕ)) (slots : List ℕ) (jobs : List JobSpec) → length (renewed_slots fleet pairs slots jobs) ≡ length (known_after fleet pairs slots jobs)
unfolding renewed_slots
slots_count fleet pairs slots jobs =
    let stays = survives fleet pairs slots jobs in
    length-map (chosen_below stays (length fleet.known)) (slot_of slots) ∙ length-chosen stays (length fleet.known) ∙ sym (known_count fleet pairs slots jobs)

known_is : (fleet : FleetState) (pairs : List (ℕ × ℕ)) (slots : List ℕ) (jobs : List JobSpec) → (renewed_fleet fleet pairs slots jobs).known ≡ known_after fleet pairs slots jobs
unfolding renewed_fleet
known_is fleet pairs slots jobs = refl

pub renewed_slots_fit : (fleet : FleetState) (pairs : List (ℕ × ℕ)) (slots : List ℕ) (jobs : List JobSpec) → length (renewed_slots fleet pairs slots jobs) ≡ length (renewed_fleet fleet pairs slots jobs).known
renewed_slots_fit fleet pairs slots jobs = slots_count fleet pairs slots jobs ∙ sym (ap length (known_is fleet pairs slots jobs))

-- the same, of a fleet and slots that are the renewed ones
pub slots_fit :
    (fleet after : FleetState) (pairs : List (ℕ × ℕ)) (slots others : List ℕ) (jobs : List JobSpec) → after ≡ renewed_fleet fleet pairs slots jobs → others ≡ renewed_slots fleet pairs slots jobs → length others ≡ length after.known
slots_fit fleet after pairs slots others jobs are is = ap length is ∙ renewed_slots_fit fleet pairs slots jobs ∙ ap (λ (f : FleetState). length f.known) (sym are)

-- ---- each is one of the slots before, or 0

slot_keeps : (P : ℕ → Type 0) (slots : List ℕ) (target : ℕ) → All P slots → P 0 → P (slot_of slots target)
slot_keeps P slots target all none = elim (cases_lt target (length slots)) [
  | inl l ↦ all target 0 l
  | inr g ↦ subst P (sym (get_or_past slots target 0 (omega (arith, g)))) none
]

pub renewed_slots_all : (P : ℕ → Type 0) (fleet : FleetState) (pairs : List (ℕ × ℕ)) (slots : List ℕ) (jobs : List JobSpec) → All P slots → P 0 → All P (renewed_slots fleet pairs slots jobs)
unfolding renewed_slots
renewed_slots_all P fleet pairs slots jobs all none =
    let stay = chosen_below (survives fleet pairs slots jobs) (length fleet.known) in
    All-map P (slot_of slots) stay (λ i d l. slot_keeps P slots (get_or stay i d) all none)

-- ---- each stands at its target's new number

some_all : (xs : List ℕ) → filter_map Some xs ≡ xs
some_all [] = refl
some_all (x ∷ xs) = ap (λ (ys : List ℕ). x ∷ ys) (some_all xs)

chosen_at : (p : ℕ → Bool) (n k : ℕ) → k < n → p k ≡ true → slice_get (chosen_below p n) (count_below p k) ≡ Some k
chosen_at p n k l e = ap (λ (xs : List ℕ). slice_get xs (count_below p k)) (sym (some_all (chosen_below p n))) ∙ made_at p Some n (λ i less passes. (i, refl)) k l e

pub renewed_slot_at :
    (fleet : FleetState) (pairs : List (ℕ × ℕ)) (slots : List ℕ) (jobs : List JobSpec) (target : ℕ) → survives fleet pairs slots jobs target ≡ true
    → slot_of (renewed_slots fleet pairs slots jobs) (count_below (survives fleet pairs slots jobs) target) ≡ slot_of slots target
unfolding renewed_slots
renewed_slot_at fleet pairs slots jobs target e =
    let stays = survives fleet pairs slots jobs in
    let stay = chosen_below stays (length fleet.known) in
    let place = count_below stays target in
    let here = chosen_at stays (length fleet.known) target (survivor_within fleet pairs slots jobs target e) e in
    get_or_from_slice_get (map (slot_of slots) stay) place (slot_of slots target) 0 (map_at (slot_of slots) stay place target here)

-- ---- a target that no list has goes on as if no list was served

or_false : (a : Bool) → (a || false) ≡ a
or_false true = refl
or_false false = refl

pub unserved_survives :
    (fleet : FleetState) (pairs : List (ℕ × ℕ)) (slots : List ℕ) (jobs : List JobSpec) (target : ℕ) → slot_of slots target ≡ 0
    → survives fleet pairs slots jobs target ≡ (has_place fleet.known (new_places fleet.jobs jobs) target && (is_live fleet target || is_held fleet pairs target))
unserved_survives fleet pairs slots jobs target none =
    let needed = is_live fleet target || is_held fleet pairs target in
    ap (λ (b : Bool). has_place fleet.known (new_places fleet.jobs jobs) target && b) (ap (λ (slot : ℕ). needed || not (slot == 0)) none ∙ or_false needed)

pub nothing_served_survives :
    (fleet : FleetState) (pairs : List (ℕ × ℕ)) (jobs : List JobSpec) (target : ℕ) → survives fleet pairs [] jobs target ≡ (has_place fleet.known (new_places fleet.jobs jobs) target && (is_live fleet target || is_held fleet pairs target))
nothing_served_survives fleet pairs jobs target = unserved_survives fleet pairs [] jobs target refl
