-- The lists that were served last, over events from any state.
use Rattle.std.proofs.Common.{◌≡◌, ◌==◌, ◌<◌, ◌≤◌, ◌&&◌, ◌||◌, ℕ, zero, suc, Bool, true, false, cond, List, [], ◌∷◌, Option, Some, None, length, refl, sym, ap, subst, ◌∙◌, inl, inr, arith}
use Rattle.std.specs.Prelude.{filter, not}
use Rattle.std.proofs.lemmas.Bool.{cases_eq, eq-eqb, ne_eqb}
use Rattle.std.proofs.lemmas.List.Folds.{list_any-append}
use Rattle.fleet.specs.Live.{chosen_below, is_in}
use Rattle.fleet.specs.Orderly.{is_of}
use Rattle.fleet_events.specs.declared.answer.Answer.TheVariants.{Served}
use Rattle.fleet_events.specs.declared.event.Event.{Event}
use Rattle.fleet_events.specs.declared.event.Event.TheVariants.{Serve}
use Rattle.fleet_events.specs.declared.refusal.Refusal.{Refusal}
use Rattle.served_lists.specs.Served.{is_free, slot_of}
use Rattle.served_lists.specs.Told.{Tells}
use Rattle.served_lists.proofs.SlotLemmas.{homes}
use Rattle.served_lists.proofs.Telling.{is_in-filter, left_out_for_another, lists_are_disjoint}
use Rattle.allocation_core.specs.Kept.{IsKept}
use Rattle.allocation_core.specs.Lists.{IsWhole, lists_by, lists_from}
use Rattle.allocation_core.specs.Runs.{state_of}
use Rattle.allocation_core.specs.State.{State, current_of, held_live, left_out_at, list_at}
use Rattle.allocation_core.specs.Steps.{answer_by, answer_of, place_of, refusal_of, state_after}
use Rattle.allocation_core.proofs.ListLemmas.{step_tells}
use Rattle.allocation_core.proofs.StepLemmas.{step_kept}
use Rattle.history_laws.specs.Promises.{AreDisjoint, ServesWhole, lists_told}

-- ---- the lists of a state's slots

in_one : (b : Bool) (n t : ℕ) → is_in (cond b (n ∷ []) []) t ≡ (b && (n == t))
in_one true n t = or_none (n == t)
  where
    or_none : (b : Bool) → (b || false) ≡ b
    or_none true = refl
    or_none false = refl
in_one false n t = refl

here_by : (a b c d : Bool) → a ≡ false → b ≡ d → c ≡ true → (a || (b && c)) ≡ d
here_by true b c d none same is = cc
here_by false true true d none same is = same
here_by false false true d none same is = same
here_by false b false d none same is = cc

elsewhere_by : (a b c : Bool) → c ≡ false → (a || (b && c)) ≡ a
elsewhere_by a b true other = cc
elsewhere_by true b false other = refl
elsewhere_by false true false other = refl
elsewhere_by false false false other = refl

-- whether a number is chosen
in_chosen : (p : ℕ → Bool) (n t : ℕ) → (t < n → is_in (chosen_below p n) t ≡ p t) × (n ≤ t → is_in (chosen_below p n) t ≡ false)
in_chosen p zero t = (λ l. absurd (omega arith), λ l. refl)
in_chosen p (suc n) t =
    let rest = in_chosen p n t in
    let all : is_in (chosen_below p (suc n)) t ≡ (is_in (chosen_below p n) t || (p n && (n == t))) =
    list_any-append (λ (other : ℕ). other == t) (chosen_below p n) (cond (p n) (n ∷ []) []) ∙ ap (λ (b : Bool). is_in (chosen_below p n) t || b) (in_one (p n) n t) in
    elim (cases_eq n t) [
      | inl e ↦ (λ l. all ∙ here_by (is_in (chosen_below p n) t) (p n) (n == t) (p t) (rest.1 (omega (arith, e))) (ap p e) (eq-eqb n t e), λ l. absurd (omega (arith, e)))
      | inr d ↦
          let elsewhere = all ∙ elsewhere_by (is_in (chosen_below p n) t) (p n) (n == t) (ne_eqb n t d) in
          (λ l. elsewhere ∙ rest.0 (omega (arith, d)), λ l. elsewhere ∙ rest.1 (omega arith))
    ]

and_no : (a b : Bool) → b ≡ false → (a && b) ≡ false
and_no true b e = e
and_no false b e = refl

pub told_of : (m : State) → Tells m.fleet.known m.served.slots (lists_told m)
told_of m collector job target given =
    let known = m.fleet.known in
    let chosen = in_chosen (λ (t : ℕ). (slot_of m.served.slots t == collector) && is_of known job t) (length known) target in
    elim (homes known target) [
      | inl past ↦ chosen.1 past.0 ∙ sym (and_no (slot_of m.served.slots target == collector) (is_of known job target) (past.1 job))
      | inr home ↦ chosen.0 home.1
    ]

-- ---- over events

pub run_tells : (m : State) (lists : ℕ → ℕ → List ℕ) (es : List Event) → IsKept m → Tells m.fleet.known m.served.slots lists → Tells (state_of m es).fleet.known (state_of m es).served.slots (lists_from m lists es)
run_tells m lists [] kept tells = tells
run_tells m lists (e ∷ es) kept tells = run_tells (state_after m e) (lists_by m lists e (answer_of m e)) es (step_kept m e kept) (step_tells m lists e kept tells)

pub disjoint : (m : State) (lists : ℕ → ℕ → List ℕ) → Tells m.fleet.known m.served.slots lists → AreDisjoint lists
disjoint m lists tells one other one_job other_job target one_given other_given differ here =
    lists_are_disjoint m.fleet.known m.served.slots lists one one_job other other_job target tells one_given other_given differ here

-- ---- lists that are served

answered_by :
    (o : Option Refusal) (number round : ℕ) (listed left_out : List ℕ) (allocation opened : ℕ) (list rest : List ℕ) → answer_by o (Served number round listed left_out) ≡ Served allocation opened list rest → (listed ≡ list) × (left_out ≡ rest)
answered_by None number round listed left_out allocation opened list rest e = (cc, cc)
answered_by (Some r) number round listed left_out allocation opened list rest e = cc

served_is :
    (m : State) (id job allocation round : ℕ) (name listed left_out : List ℕ) → place_of m name ≡ Some job → answer_of m (Serve id name) ≡ Served allocation round listed left_out → (list_at m id (Some job) ≡ listed) × (left_out_at m id (Some job) ≡ left_out)
unfolding answer_of
served_is m id job allocation round name listed left_out at answered =
    let is = answered_by (refusal_of m (Serve id name)) (current_of m) m.round (list_at m id (place_of m name)) (left_out_at m id (place_of m name)) allocation round listed left_out answered in
    (ap (λ (o : Option ℕ). list_at m id o) (sym at) ∙ is.0, ap (λ (o : Option ℕ). left_out_at m id o) (sym at) ∙ is.1)

left_by : (free is : Bool) → (free && is) ≡ false → is ≡ true → (not free && is) ≡ true
left_by true is e s = cc
left_by false is e s = s

held_by : (free is : Bool) → (free && is) ≡ true → is ≡ true
held_by true is e = e
held_by false is e = cc

is_whole : (m : State) (lists : ℕ → ℕ → List ℕ) (id job : ℕ) → Tells m.fleet.known m.served.slots lists → IsWhole m lists id job (list_at m id (Some job)) (left_out_at m id (Some job))
is_whole m lists id job tells =
    let free : ℕ → Bool = is_free m.served.slots id in
    let held : List ℕ = filter (is_of m.fleet.known job) (held_live m id) in
    let left = left_out_for_another m.fleet.known m.served.slots lists id job in
    record {
      held = λ target there. held_by (free target) (is_in held target) (sym (is_in-filter free held target) ∙ there);
      whole =
          λ target there missing. left target (held_live m id) tells
          (is_in-filter (λ (t : ℕ). not (free t)) held target ∙ left_by (free target) (is_in held target) (sym (is_in-filter free held target) ∙ missing) there);
      told = λ target there. left target (held_live m id) tells there;
    }

pub serves_whole : (m : State) (lists : ℕ → ℕ → List ℕ) → Tells m.fleet.known m.served.slots lists → ServesWhole m lists
serves_whole m lists tells id job allocation round name listed left_out at answered =
    let is = served_is m id job allocation round name listed left_out at answered in
    subst (λ (list : List ℕ). IsWhole m lists id job list left_out) is.0
    (subst (λ (rest : List ℕ). IsWhole m lists id job (list_at m id (Some job)) rest) is.1 (is_whole m lists id job tells))
