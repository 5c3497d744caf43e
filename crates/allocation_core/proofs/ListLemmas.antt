-- The slots tell the lists that were served last, over every list of events.
use Rattle.std.proofs.Common.{◌≡◌, ℕ, List, [], ◌∷◌, Bool, true, false, Option, Some, None, refl, sym, ap, subst, ◌∙◌}
use Rattle.std.specs.Prelude.{is_some, if◌then◌else◌, filter, not, ◌&&◌}
use Rattle.fleet.specs.Live.{is_in}
use Rattle.fleet.specs.Orderly.{is_of}
use Rattle.fleet.specs.declared.job.JobSpec.{JobSpec}
use Rattle.fleet.specs.declared.known_target.KnownTarget.{KnownTarget}
use Rattle.fleet_events.specs.declared.event.Event.{Event}
use Rattle.fleet_events.specs.declared.event.Event.TheVariants.{Discover, Join, Leave, Drain, SetLimits, Install, Spread, NextRound, Take, Serve, Release, Report}
use Rattle.fleet_events.specs.declared.answer.Answer.{Answer}
use Rattle.fleet_events.specs.declared.answer.Answer.TheVariants.{Served, Not}
use Rattle.fleet_events.specs.declared.refusal.Refusal.{Refusal}
use Rattle.served_lists.specs.Served.{is_free}
use Rattle.served_lists.specs.Told.{Tells, no_lists}
use Rattle.served_lists.proofs.Telling.{growing_tells, is_in-filter, left_out_for_another, letting_go_tells, lists_are_disjoint, none_tell, serving_tells}
use Rattle.allocation_core.specs.State.{State, current_of, first_state, held_live, left_out_at, list_at, served_at}
use Rattle.allocation_core.specs.Steps.{answer_by, answer_of, changed, granted, place_named, place_of, refusal_of, state_after, unless_served}
use Rattle.allocation_core.specs.Runs.{state_of}
use Rattle.allocation_core.specs.Kept.{IsKept}
use Rattle.allocation_core.specs.Lists.{AlwaysDisjoint, AlwaysWhole, IsWhole, last_lists, lists_at, lists_by, lists_from}
use Rattle.allocation_core.proofs.StepLemmas.{given_when, listing_grown, served_given, start_kept, step_kept}

-- the state's slots tell these lists
abbrev TellsAt : State → (ℕ → ℕ → List ℕ) → Type 0
TellsAt m lists = Tells m.fleet.known m.served.slots lists

-- an event that is refused changes no list
tell_by :
    (m n : State) (lists : ℕ → ℕ → List ℕ) (e : Event) (o : Option Refusal) (a : Answer) → ((r : Refusal) → TellsAt m (lists_by m lists e (Not r))) → (o ≡ None → TellsAt n (lists_by m lists e a))
    → TellsAt (if is_some o then m else n) (lists_by m lists e (answer_by o a))
tell_by m n lists e None a old new = new refl
tell_by m n lists e (Some r) a old new = old r

-- a list that is served
served_by :
    (m : State) (lists : ℕ → ℕ → List ℕ) (id : ℕ) (job : Option ℕ) → IsKept m → TellsAt m lists → unless_served m id job ≡ None → Tells m.fleet.known (served_at m id job).slots (lists_at lists id job (list_at m id job))
served_by m lists id None kept tells free = tells
served_by m lists id (Some job) kept tells free =
    serving_tells m.fleet.known m.served lists id job (current_of m) (held_live m id) (given_when m id (served_given m id job free)).0 tells

pub step_tells : (m : State) (lists : ℕ → ℕ → List ℕ) (e : Event) → IsKept m → TellsAt m lists → TellsAt (state_after m e) (lists_by m lists e (answer_of m e))
unfolding state_after answer_of
step_tells m lists (Discover name source targets) kept tells =
    let grown = listing_grown m.fleet name source targets in
    tell_by m (changed m (Discover name source targets)) lists (Discover name source targets) (refusal_of m (Discover name source targets)) (granted m (Discover name source targets)) (λ r. tells)
    (λ free. subst (λ (known : List KnownTarget). Tells known m.served.slots lists) (sym grown.is) (growing_tells m.fleet.known grown.more m.served.slots lists kept.few_slots tells))
step_tells m lists (Join name reach limits) kept tells = tell_by m (changed m (Join name reach limits)) lists (Join name reach limits) (refusal_of m (Join name reach limits)) (granted m (Join name reach limits)) (λ r. tells) (λ free. tells)
step_tells m lists (Leave id) kept tells = tell_by m (changed m (Leave id)) lists (Leave id) (refusal_of m (Leave id)) (granted m (Leave id)) (λ r. tells) (λ free. tells)
step_tells m lists (Drain id) kept tells = tell_by m (changed m (Drain id)) lists (Drain id) (refusal_of m (Drain id)) (granted m (Drain id)) (λ r. tells) (λ free. tells)
step_tells m lists (SetLimits id limits) kept tells = tell_by m (changed m (SetLimits id limits)) lists (SetLimits id limits) (refusal_of m (SetLimits id limits)) (granted m (SetLimits id limits)) (λ r. tells) (λ free. tells)
step_tells m lists (Install plan) kept tells = tell_by m (changed m (Install plan)) lists (Install plan) (refusal_of m (Install plan)) (granted m (Install plan)) (λ r. tells) (λ free. tells)
step_tells m lists (Spread spread) kept tells = tell_by m (changed m (Spread spread)) lists (Spread spread) (refusal_of m (Spread spread)) (granted m (Spread spread)) (λ r. tells) (λ free. tells)
step_tells m lists NextRound kept tells = tell_by m (changed m NextRound) lists NextRound (refusal_of m NextRound) (granted m NextRound) (λ r. tells) (λ free. tells)
step_tells m lists (Take id) kept tells = tell_by m (changed m (Take id)) lists (Take id) (refusal_of m (Take id)) (granted m (Take id)) (λ r. tells) (λ free. tells)
step_tells m lists (Serve id name) kept tells =
    tell_by m (changed m (Serve id name)) lists (Serve id name) (refusal_of m (Serve id name)) (granted m (Serve id name)) (λ r. tells) (served_by m lists id (place_of m name) kept tells)
step_tells m lists (Release id name) kept tells =
    tell_by m (changed m (Release id name)) lists (Release id name) (refusal_of m (Release id name)) (granted m (Release id name)) (λ r. tells) (λ free. letting_go_tells m.fleet.known m.served lists id (place_named m name) tells)
step_tells m lists (Report report) kept tells = tell_by m (changed m (Report report)) lists (Report report) (refusal_of m (Report report)) (granted m (Report report)) (λ r. tells) (λ free. tells)

run_tells : (m : State) (lists : ℕ → ℕ → List ℕ) (es : List Event) → IsKept m → TellsAt m lists → TellsAt (state_of m es) (lists_from m lists es)
run_tells m lists [] kept tells = tells
run_tells m lists (e ∷ es) kept tells = run_tells (state_after m e) (lists_by m lists e (answer_of m e)) es (step_kept m e kept) (step_tells m lists e kept tells)

pub always_told : (jobs : List JobSpec) (report_rounds : ℕ) (events : List Event) → TellsAt (state_of (first_state jobs report_rounds) events) (last_lists jobs report_rounds events)
always_told jobs report_rounds events = run_tells (first_state jobs report_rounds) no_lists events (start_kept jobs report_rounds) (none_tell (first_state jobs report_rounds).fleet.known)

pub always_disjoint : AlwaysDisjoint
always_disjoint jobs report_rounds events one other one_job other_job target one_given other_given differ here =
    let m : State = state_of (first_state jobs report_rounds) events in
    lists_are_disjoint m.fleet.known m.served.slots (last_lists jobs report_rounds events) one one_job other other_job target (always_told jobs report_rounds events) one_given other_given differ here

-- what a Serve was answered
answered_by :
    (o : Option Refusal) (number round : ℕ) (listed left_out : List ℕ) (allocation opened : ℕ) (list rest : List ℕ) → answer_by o (Served number round listed left_out) ≡ Served allocation opened list rest → (listed ≡ list) × (left_out ≡ rest)
answered_by None number round listed left_out allocation opened list rest e = (cc, cc)
answered_by (Some r) number round listed left_out allocation opened list rest e = cc

served_is :
    (m : State) (id job allocation round : ℕ) (name listed left_out : List ℕ) → place_of m name ≡ Some job → answer_of m (Serve id name) ≡ Served allocation round listed left_out → (list_at m id (Some job) ≡ listed) × (left_out_at m id (Some job) ≡ left_out)
unfolding answer_of
served_is m id job allocation round name listed left_out at answered =
    let is = answered_by (refusal_of m (Serve id name)) (current_of m) m.round (list_at m id (place_of m name)) (left_out_at m id (place_of m name)) allocation round listed left_out answered in
    (ap (λ (o : Option ℕ). list_at m id o) (sym at) ∙ is.0, ap (λ (o : Option ℕ). left_out_at m id o) (sym at) ∙ is.1)

-- what is of the job and not listed is left out
left_by : (free is : Bool) → (free && is) ≡ false → is ≡ true → (not free && is) ≡ true
left_by true is e s = cc
left_by false is e s = s

listed_held : (free is : Bool) → (free && is) ≡ true → is ≡ true
listed_held true is e = e
listed_held false is e = cc

whole : (m : State) (lists : ℕ → ℕ → List ℕ) (id job : ℕ) → TellsAt m lists → IsWhole m lists id job (list_at m id (Some job)) (left_out_at m id (Some job))
whole m lists id job tells =
    let free : ℕ → Bool = is_free m.served.slots id in
    let held : List ℕ = filter (is_of m.fleet.known job) (held_live m id) in
    let left = left_out_for_another m.fleet.known m.served.slots lists id job in
    record {
      held = λ target there. listed_held (free target) (is_in held target) (sym (is_in-filter free held target) ∙ there);
      whole =
          λ target there missing. left target (held_live m id) tells
          (is_in-filter (λ (t : ℕ). not (free t)) held target ∙ left_by (free target) (is_in held target) (sym (is_in-filter free held target) ∙ missing) there);
      told = λ target there. left target (held_live m id) tells there;
    }

pub always_whole : AlwaysWhole
always_whole jobs report_rounds events id job allocation round name listed left_out at answered =
    let m : State = state_of (first_state jobs report_rounds) events in
    let is = served_is m id job allocation round name listed left_out at answered in
    subst (λ (list : List ℕ). IsWhole m (last_lists jobs report_rounds events) id job list left_out) is.0
    (subst (λ (rest : List ℕ). IsWhole m (last_lists jobs report_rounds events) id job (list_at m id (Some job)) rest) is.1 (whole m (last_lists jobs report_rounds events) id job (always_told jobs report_rounds events)))
