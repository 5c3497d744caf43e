-- What the checks of a history come to.
use Rattle.std.proofs.Common.{◌≡◌, ◌==◌, ◌<◌, ◌≤◌, ◌+◌, ◌-◌, ℕ, zero, suc, Bool, true, false, not, cond, List, [], ◌∷◌, map, length, get_or, All, AllPairs, Option, Some, None, option_map, option_and_then, Result, Ok, Err, refl, sym, ap, inl, inr, ◌∙◌, ne_eqb, arith}
use Rattle.std.specs.Prelude.{nat_le}
use Rattle.std.specs.List.{list_all}
use Rattle.std.proofs.lemmas.Bool.{and_from, and_parts, cases_lt, eqb-true, le-leb, leb-true}
use Rattle.std.proofs.lemmas.List.Elements.{All-cons, All-nil, All-push}
use Rattle.std.proofs.lemmas.List.{get_or-map, length-map}
use Rattle.std.proofs.lemmas.List.Kept.{AllPairs-from_increasing}
use Rattle.lists.specs.Rising.{rises}
use Rattle.lists.proofs.RisingLemmas.{all_from, rises_from, rises_to}
use Rattle.fleet.specs.Fleet.{FleetState}
use Rattle.fleet.specs.Parts.{fleet_of, parts_fault}
use Rattle.fleet.specs.declared.error.PartsError.{PartsError}
use Rattle.served_lists.specs.Served.{slot_of, tabulated}
use Rattle.served_lists.proofs.SlotLemmas.{is_tabulated, length-tabulated, slot_past}
use Rattle.allocation_core.specs.State.{State}
use Rattle.serde_json.specs.Data.{Data}
use Rattle.json_values.specs.Spelling.{number_in, pair_in, list_in}
use Rattle.fleet.specs.declared.fleet_parts.FleetParts.{FleetParts}
use Rattle.core_history.specs.Parts.{fleet_parts_in}
use Rattle.core_history.specs.declared.history.Certificate.{Certificate}
use Rattle.core_history.specs.History.{ReadsBack, are_slots, by_fault, certificate_in, checked, checked_in, history_in, history_object, history_of, is_allocation, kept_of, parts_in, said_slots, served_object, slots_of, slots_said, state_of}
use Rattle.core_history.specs.declared.error.HistoryError.{HistoryError}
use Rattle.core_history.specs.declared.error.HistoryError.TheVariants.{BadAllocation, BadRound, BadServed}
use Rattle.core_history.specs.declared.history.History.{History}

passes : (b c d : Bool) (m : State) → b ≡ true → c ≡ false → d ≡ true → ◌≡◌ {A = Result State HistoryError} (cond (not b) (Err BadAllocation) (cond c (Err BadRound) (cond (not d) (Err BadServed) (Ok m)))) (Ok m)
passes true true d m e f g = cc
passes true false true m e f g = refl
passes true false false m e f g = cc
passes false c d m e f g = cc

-- a history without a fault
pub good_history : (h : History) → parts_fault (fleet_of h.fleet) ≡ None → is_allocation (fleet_of h.fleet) h.allocation ≡ true → 1 ≤ h.round → are_slots (fleet_of h.fleet) h.served ≡ true → checked h ≡ Ok (state_of h)
unfolding checked
good_history h none pairs round slots =
    ap (λ (o : Option PartsError). by_fault o h) none
    ∙ passes (is_allocation (fleet_of h.fleet) h.allocation) (h.round == 0) (are_slots (fleet_of h.fleet) h.served) (state_of h) pairs (ne_eqb h.round 0 (λ e. omega (arith, e, round))) slots

-- ---- whose lists have which targets

-- not more slots than known targets, of collectors that joined once
pub record Fit (fleet : FleetState) (slots : List ℕ) : Type 0 where
  pub few : length slots ≤ length fleet.known
  pub given : All (λ (collector : ℕ). collector ≤ fleet.last_collector) slots

fits_by : (nothing : Bool) (fleet : FleetState) (slots : List ℕ) → Fit fleet slots → are_slots fleet (cond nothing None (Some slots)) ≡ true
fits_by true fleet slots fit = refl
fits_by false fleet slots fit =
    and_from (nat_le (length slots) (length fleet.known)) (list_all (λ (collector : ℕ). nat_le collector fleet.last_collector) slots) (le-leb (length slots) (length fleet.known) fit.few)
    (all_from (λ (collector : ℕ). nat_le collector fleet.last_collector) (λ (collector : ℕ). collector ≤ fleet.last_collector) (λ collector less. le-leb collector fleet.last_collector less) slots fit.given)

pub said_fits : (fleet : FleetState) (slots : List ℕ) → Fit fleet slots → are_slots fleet (slots_said slots) ≡ true
said_fits fleet slots fit = fits_by (list_all (λ (collector : ℕ). collector == 0) slots) fleet slots fit

-- a slot for each known target, of collectors that joined once
pub length-slots_of : (fleet : FleetState) (served : Option (List ℕ)) → length (slots_of fleet served) ≡ length fleet.known
length-slots_of fleet served = length-tabulated (slot_of (said_slots served)) (length fleet.known)

each_given : (last : ℕ) (slots : List ℕ) → list_all (λ (collector : ℕ). nat_le collector last) slots ≡ true → All (λ (collector : ℕ). collector ≤ last) slots
each_given last [] all = All-nil (λ (collector : ℕ). collector ≤ last)
each_given last (slot ∷ slots) all =
    let both = and_parts (nat_le slot last) (list_all (λ (collector : ℕ). nat_le collector last) slots) all in
    All-cons (λ (collector : ℕ). collector ≤ last) slot slots (leb-true slot last both.0) (each_given last slots both.1)

said_given : (fleet : FleetState) (served : Option (List ℕ)) → are_slots fleet served ≡ true → All (λ (collector : ℕ). collector ≤ fleet.last_collector) (said_slots served)
said_given fleet None fits = All-nil (λ (collector : ℕ). collector ≤ fleet.last_collector)
said_given fleet (Some slots) fits =
    let both = and_parts (nat_le (length slots) (length fleet.known)) (list_all (λ (collector : ℕ). nat_le collector fleet.last_collector) slots) fits in
    each_given fleet.last_collector slots both.1

slot_given : (last : ℕ) (slots : List ℕ) (target : ℕ) → All (λ (collector : ℕ). collector ≤ last) slots → slot_of slots target ≤ last
slot_given last slots target all = elim (cases_lt target (length slots)) [
  | inl l ↦ all target 0 l
  | inr past ↦ omega (arith, slot_past slots target past)
]

all_given : (last : ℕ) (slots : List ℕ) (n : ℕ) → All (λ (collector : ℕ). collector ≤ last) slots → All (λ (collector : ℕ). collector ≤ last) (tabulated (slot_of slots) n)
all_given last slots zero all = All-nil (λ (collector : ℕ). collector ≤ last)
all_given last slots (suc n) all = All-push (λ (collector : ℕ). collector ≤ last) (tabulated (slot_of slots) n) (slot_of slots n) (all_given last slots n all) (slot_given last slots n all)

pub slots_given : (fleet : FleetState) (served : Option (List ℕ)) → are_slots fleet served ≡ true → All (λ (collector : ℕ). collector ≤ fleet.last_collector) (slots_of fleet served)
slots_given fleet served fits = all_given fleet.last_collector (said_slots served) (length fleet.known) (said_given fleet served fits)

zero_at : (slots : List ℕ) (target : ℕ) → list_all (λ (collector : ℕ). collector == 0) slots ≡ true → slot_of slots target ≡ 0
zero_at [] target all = refl
zero_at (slot ∷ slots) zero all = eqb-true slot 0 (and_parts (slot == 0) (list_all (λ (collector : ℕ). collector == 0) slots) all).0
zero_at (slot ∷ slots) (suc target) all = zero_at slots target (and_parts (slot == 0) (list_all (λ (collector : ℕ). collector == 0) slots) all).1

said_by_all : (nothing : Bool) (fleet : FleetState) (slots : List ℕ) → list_all (λ (collector : ℕ). collector == 0) slots ≡ nothing → length slots ≡ length fleet.known → slots_of fleet (cond nothing None (Some slots)) ≡ slots
said_by_all true fleet slots is same = sym (is_tabulated (slot_of []) slots (length fleet.known) same (λ k l. zero_at slots k is))
said_by_all false fleet slots is same = sym (is_tabulated (slot_of slots) slots (length fleet.known) same (λ k l. refl))

-- slots of all known targets are said as they are
pub whole_said : (fleet : FleetState) (slots : List ℕ) → length slots ≡ length fleet.known → slots_of fleet (slots_said slots) ≡ slots
whole_said fleet slots same = said_by_all (list_all (λ (collector : ℕ). collector == 0) slots) fleet slots refl same

-- ---- pairs in order of target

abbrev pub targets_of : List (ℕ × ℕ) → List ℕ
targets_of pairs = map (λ (q : ℕ × ℕ). q.0) pairs

target_at : (pairs : List (ℕ × ℕ)) (k : ℕ) (d : ℕ × ℕ) → k < length pairs → get_or (targets_of pairs) k 0 ≡ (get_or pairs k d).0
target_at pairs k d l = get_or-map (λ (q : ℕ × ℕ). q.0) pairs k d 0 l

pub pairs_rise : (pairs : List (ℕ × ℕ)) → ((k : ℕ) → k + 1 < length pairs → (get_or pairs k (0, 0)).0 < (get_or pairs (k + 1) (0, 0)).0) → rises (targets_of pairs) ≡ true
pairs_rise pairs h =
    rises_from (targets_of pairs) (λ k l.
    let inside : k + 1 < length pairs = omega (arith, l, length-map pairs (λ (q : ℕ × ℕ). q.0)) in
    omega (arith, h k inside, target_at pairs k (0, 0) (omega arith), target_at pairs (k + 1) (0, 0) inside))

pub ascending : (pairs : List (ℕ × ℕ)) → rises (targets_of pairs) ≡ true → AllPairs (λ (a b : ℕ × ℕ). a.0 < b.0) pairs
ascending pairs e i j d l m =
    let size = length-map pairs (λ (q : ℕ × ℕ). q.0) in
    let up = AllPairs-from_increasing (targets_of pairs) (rises_to (targets_of pairs) e) i j 0 l (omega (arith, m, size)) in
    omega (arith, up, target_at pairs i d (omega arith), target_at pairs j d m)

not_true : (b : Bool) → (b ≡ true → ⊥) → b ≡ false
not_true true h = absurd (h refl)
not_true false h = refl

pub pairs_fall : (pairs : List (ℕ × ℕ)) (i : ℕ) → 1 ≤ i → i < length pairs → (get_or pairs i (0, 0)).0 ≤ (get_or pairs (i - 1) (0, 0)).0 → rises (targets_of pairs) ≡ false
pairs_fall pairs i first inside low =
    not_true (rises (targets_of pairs)) (λ e.
    let up = ascending pairs e (i - 1) i (0, 0) (omega (arith, first)) inside in
    omega (arith, up, low))

-- ---- what is written

bind : {A B : Type 0} (f : A → Option B) (o : Option A) (x : A) → o ≡ Some x → option_and_then f o ≡ f x
bind f o x e = ap (option_and_then f) e

members_back :
    (a c f r : Data) (o : Option (Option (List ℕ))) (allocation : List (ℕ × ℕ)) (certificate : Certificate) (fleet : FleetParts) (round : ℕ) (served : Option (List ℕ)) → list_in pair_in a ≡ Some allocation → certificate_in c ≡ Some certificate → fleet_parts_in f ≡ Some fleet → number_in r ≡ Some round → o ≡ Some served
    → option_and_then (λ x. option_and_then (λ y. option_and_then (λ z. option_and_then (λ n. option_map (history_of x y z n) o) (number_in r)) (fleet_parts_in f)) (certificate_in c)) (list_in pair_in a) ≡ Some (history_of allocation certificate fleet round served)
members_back a c f r o allocation certificate fleet round served xs cs fs rs os =
    bind (λ x. option_and_then (λ y. option_and_then (λ z. option_and_then (λ n. option_map (history_of x y z n) o) (number_in r)) (fleet_parts_in f)) (certificate_in c)) (list_in pair_in a) allocation xs
    ∙ (bind (λ y. option_and_then (λ z. option_and_then (λ n. option_map (history_of allocation y z n) o) (number_in r)) (fleet_parts_in f)) (certificate_in c) certificate cs
    ∙ (bind (λ z. option_and_then (λ n. option_map (history_of allocation certificate z n) o) (number_in r)) (fleet_parts_in f) fleet fs
    ∙ (bind (λ n. option_map (history_of allocation certificate fleet n) o) (number_in r) round rs ∙ ap (option_map (history_of allocation certificate fleet round)) os)))

pub parts_back : (a c f r : Data) (allocation : List (ℕ × ℕ)) (certificate : Certificate) (fleet : FleetParts) (round : ℕ) → list_in pair_in a ≡ Some allocation → certificate_in c ≡ Some certificate → fleet_parts_in f ≡ Some fleet → number_in r ≡ Some round → parts_in (history_object a c f r) ≡ Some (history_of allocation certificate fleet round None)
unfolding parts_in
parts_back a c f r allocation certificate fleet round xs cs fs rs = members_back a c f r (Some None) allocation certificate fleet round None xs cs fs rs refl

pub served_parts_back :
    (a c f r s : Data) (allocation : List (ℕ × ℕ)) (certificate : Certificate) (fleet : FleetParts) (round : ℕ) (slots : List ℕ) → list_in pair_in a ≡ Some allocation → certificate_in c ≡ Some certificate → fleet_parts_in f ≡ Some fleet → number_in r ≡ Some round → list_in number_in s ≡ Some slots
    → parts_in (served_object a c f r s) ≡ Some (history_of allocation certificate fleet round (Some slots))
unfolding parts_in
served_parts_back a c f r s allocation certificate fleet round slots xs cs fs rs ss =
    members_back a c f r (option_map (λ (l : List ℕ). (let o : Option (List ℕ) = Some l in o)) (list_in number_in s)) allocation certificate fleet round (Some slots) xs cs fs rs (ap (option_map (λ (l : List ℕ). (let o : Option (List ℕ) = Some l in o))) ss)

pub object_same : (a b c d e f g h : Data) → a ≡ b → c ≡ d → e ≡ f → g ≡ h → history_object a c e g ≡ history_object b d f h
object_same a b c d e f g h p q r s = cc

pub served_object_same : (a b c d e f g h i j : Data) → a ≡ b → c ≡ d → e ≡ f → g ≡ h → i ≡ j → served_object a c e g i ≡ served_object b d f h j
served_object_same a b c d e f g h i j p q r s t = cc

-- which of the two forms it is
pub nothing_said : (slots : List ℕ) → list_all (λ (collector : ℕ). collector == 0) slots ≡ true → slots_said slots ≡ None
nothing_said slots e = ap (λ (b : Bool). (let o : Option (List ℕ) = cond b None (Some slots) in o)) e

pub something_said : (slots : List ℕ) → list_all (λ (collector : ℕ). collector == 0) slots ≡ false → slots_said slots ≡ Some slots
something_said slots e = ap (λ (b : Bool). (let o : Option (List ℕ) = cond b None (Some slots) in o)) e

pub reads_back : (m : State) (d : Data) → parts_in d ≡ Some (kept_of m) → parts_fault m.fleet ≡ None → 1 ≤ m.round → Fit m.fleet m.served.slots → ReadsBack m (history_in d)
unfolding history_in
reads_back m d parts none round fit whole = ap checked_in parts ∙ good_history (kept_of m) none whole round (said_fits m.fleet m.served.slots fit)
