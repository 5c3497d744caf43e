-- Targets of one job that the same collectors reach may use the same bins.
use Rattle.std.proofs.Common.{◌≡◌, ℕ, zero, suc, ◌+◌, ◌*◌, ◌<◌, Bool, false, List, [], ◌∷◌, ◌++◌, Option, Some, All, cond, get_or, length, map, inl, inr, refl, sym, ap, subst, ◌∙◌, arith, length-append}
use Rattle.std.specs.Prelude.{slice_get}
use Rattle.std.specs.Option.{option_map_or}
use Rattle.std.proofs.lemmas.Bool.{cases_lt}
use Rattle.std.proofs.lemmas.List.{get_or_append_left, get_or_push, get_or-map, length-map, map-append}
use Rattle.std.proofs.lemmas.List.Elements.{All-append, All-cons, All-head, All-nil, All-tail, All-weaker}
use Rattle.std.proofs.lemmas.Option.{same_Some, slice_get_within}
use Rattle.price_certificate.specs.Rows.{row_at}
use Rattle.reach_rules.specs.Rules.{reaches}
use Rattle.reach_rules.specs.declared.rule.ReachRule.{ReachRule}
use Rattle.fleet.specs.Fleet.{FleetState}
use Rattle.fleet.specs.Reached.{reaches_at}
use Rattle.fleet.specs.declared.collector.Collector.{Collector}
use Rattle.fleet.specs.declared.known_target.KnownTarget.{KnownTarget}
use Rattle.fleet_assignment.specs.Instance.{row_for, row_from}
use Rattle.fleet_assignment.specs.Sharing.{AreAsked, IsAsked, IsListOf, IsSharing}

-- ---- the collectors that are asked

pub asked_more : (collectors : List Collector) (asked : List ℕ) (one place : ℕ) → IsAsked collectors asked place → IsAsked collectors (asked ++ one ∷ []) place
asked_more collectors asked one place h = record {
  number = h.number;
  within = omega (arith, h.within, length-append asked (one ∷ []));
  one = h.one;
  other = h.other;
  there = ap (λ (p : ℕ). slice_get collectors p) (get_or_append_left asked (one ∷ []) 0 h.number h.within) ∙ h.there;
  here = h.here;
  same = h.same;
}

read_some : {X : Type 0} (xs : List X) (i : ℕ) → i < length xs → (x : X) × (slice_get xs i ≡ Some x)
read_some [] i l = absurd (omega (arith, l))
read_some (x ∷ xs) zero l = (x, refl)
read_some (x ∷ xs) (suc i) l = read_some xs i (omega (arith, l))

pub asked_itself : (collectors : List Collector) (asked : List ℕ) (place : ℕ) → place < length collectors → IsAsked collectors (asked ++ place ∷ []) place
asked_itself collectors asked place l =
    let found = read_some collectors place l in
    record {
      number = length asked;
      within = omega (arith, length-append asked (place ∷ []));
      one = found.0;
      other = found.0;
      there = ap (λ (p : ℕ). slice_get collectors p) (get_or_push asked place 0 (length asked) refl) ∙ found.1;
      here = found.1;
      same = refl;
    }

-- the first places, and one more
pub asked_below : (collectors : List Collector) (asked : List ℕ) (n : ℕ) → ((place : ℕ) → place < n → IsAsked collectors asked place) → IsAsked collectors asked n → (place : ℕ) → place < n + 1 → IsAsked collectors asked place
asked_below collectors asked n before here place l = elim (cases_lt place n) [
  | inl below ↦ before place below
  | inr last ↦ let same : n ≡ place = omega (arith, l, last) in subst (IsAsked collectors asked) same here
]

-- ---- two targets that are reached alike

-- by each collector from a place on
ReachedAlike : List Collector → KnownTarget → KnownTarget → Type 0
ReachedAlike collectors k m = (place : ℕ) (c : Collector) → slice_get collectors place ≡ Some c → reaches c.reach k.target ≡ reaches c.reach m.target

row_alike : (jobs place : ℕ) (collectors : List Collector) (k m : KnownTarget) → k.job ≡ m.job → ReachedAlike collectors k m → row_from jobs place collectors k ≡ row_from jobs place collectors m
unfolding ReachedAlike
row_alike jobs place [] k m job alike = refl
row_alike jobs place (c ∷ collectors) k m job alike =
    let rest = row_from jobs (place + 1) collectors m in
    ap (λ (b : Bool). cond b ((place * jobs + k.job) ∷ row_from jobs (place + 1) collectors k) (row_from jobs (place + 1) collectors k)) (alike 0 c refl)
    ∙ ap (λ (bins : List ℕ). cond (reaches c.reach m.target) ((place * jobs + k.job) ∷ bins) bins) (row_alike jobs (place + 1) collectors k m job (λ p d e. alike (suc p) d e))
    ∙ ap (λ (j : ℕ). cond (reaches c.reach m.target) ((place * jobs + j) ∷ rest) rest) job

-- what is asked at a place of a target
asked_of : (fleet : FleetState) (place number : ℕ) (c : Collector) (k : KnownTarget) → slice_get fleet.collectors place ≡ Some c → slice_get fleet.known number ≡ Some k → reaches_at fleet place number ≡ reaches c.reach k.target
asked_of fleet place number c k there is =
    ap (λ (found : Option Collector). option_map_or (λ (d : Collector). option_map_or (λ (t : KnownTarget). reaches d.reach t.target) (slice_get fleet.known number) false) found false) there
    ∙ ap (λ (found : Option KnownTarget). option_map_or (λ (t : KnownTarget). reaches c.reach t.target) found false) is

alike_all :
    (fleet : FleetState) (asked : List ℕ) (first number : ℕ) (k m : KnownTarget) → AreAsked fleet.collectors asked → slice_get fleet.known first ≡ Some k → slice_get fleet.known number ≡ Some m
    → ((i : ℕ) → i < length asked → reaches_at fleet (get_or asked i 0) first ≡ reaches_at fleet (get_or asked i 0) number) → ReachedAlike fleet.collectors k m
unfolding ReachedAlike
alike_all fleet asked first number k m all one other same place c e =
    let h = all place (slice_get_within fleet.collectors place c e) in
    let is : h.other ≡ c = same_Some h.other c (sym h.here ∙ e) in
    let rules : h.one.reach ≡ c.reach = h.same ∙ ap (λ (d : Collector). d.reach) is in
    ap (λ (r : List ReachRule). reaches r k.target) (sym rules)
    ∙ sym (asked_of fleet (get_or asked h.number 0) first h.one k h.there one)
    ∙ same h.number h.within
    ∙ asked_of fleet (get_or asked h.number 0) number h.one m h.there other
    ∙ ap (λ (r : List ReachRule). reaches r m.target) rules

pub alike :
    (fleet : FleetState) (asked : List ℕ) (first number : ℕ) (k m : KnownTarget) → AreAsked fleet.collectors asked → slice_get fleet.known first ≡ Some k → slice_get fleet.known number ≡ Some m → k.job ≡ m.job
    → ((i : ℕ) → i < length asked → reaches_at fleet (get_or asked i 0) first ≡ reaches_at fleet (get_or asked i 0) number) → row_for fleet first ≡ row_for fleet number
alike fleet asked first number k m all one other job same =
    let row = λ (found : Option KnownTarget). option_map_or (λ (t : KnownTarget). row_from (length fleet.jobs) 0 fleet.collectors t) found [] in
    ap row one ∙ row_alike (length fleet.jobs) 0 fleet.collectors k m job (alike_all fleet asked first number k m all one other same) ∙ sym (ap row other)

-- ---- one target more

rows_stay : (lists : List (List ℕ)) (row : List ℕ) (numbers : List ℕ) → All (λ (number : ℕ). number < length lists) numbers → map (row_at (lists ++ row ∷ [])) numbers ≡ map (row_at lists) numbers
rows_stay lists row [] below = refl
rows_stay lists row (number ∷ numbers) below =
    let P = λ (n : ℕ). n < length lists in
    ap (λ (x : List ℕ). x ∷ map (row_at (lists ++ row ∷ [])) numbers) (get_or_append_left lists (row ∷ []) [] number (All-head P number numbers below))
    ∙ ap (λ (xs : List (List ℕ)). row_at lists number ∷ xs) (rows_stay lists row numbers (All-tail P number numbers below))

-- its list is there
pub shares_more : (fleet : FleetState) (targets : List ℕ) (target : ℕ) (lists : List (List ℕ)) (firsts numbers : List ℕ) (list : ℕ) → IsSharing fleet targets lists firsts numbers → IsListOf fleet firsts list target → IsSharing fleet (targets ++ target ∷ []) lists firsts (numbers ++ list ∷ [])
shares_more fleet targets target lists firsts numbers list h is =
    let P = λ (n : ℕ). n < length lists in
    let count : length lists ≡ length firsts = ap (λ (xs : List (List ℕ)). length xs) h.lists_of ∙ length-map firsts (row_for fleet) in
    let row : row_at lists list ≡ row_for fleet target = ap (λ (xs : List (List ℕ)). row_at xs list) h.lists_of ∙ get_or-map (row_for fleet) firsts list 0 [] is.within ∙ is.same in
    record {
      lists_of = h.lists_of;
      within = All-append P numbers (list ∷ []) h.within (All-cons P list [] (omega (arith, count, is.within)) (All-nil P));
      rows =
          map-append (row_at lists) numbers (list ∷ [])
          ∙ ap (λ (xs : List (List ℕ)). xs ++ row_at lists list ∷ []) h.rows
          ∙ ap (λ (x : List ℕ). map (row_for fleet) targets ++ x ∷ []) row
          ∙ sym (map-append (row_for fleet) targets (target ∷ []));
    }

-- it has a list of its own
pub shares_new : (fleet : FleetState) (targets : List ℕ) (target : ℕ) (lists : List (List ℕ)) (firsts numbers : List ℕ) → IsSharing fleet targets lists firsts numbers → IsSharing fleet (targets ++ target ∷ []) (lists ++ row_for fleet target ∷ []) (firsts ++ target ∷ []) (numbers ++ length lists ∷ [])
shares_new fleet targets target lists firsts numbers h =
    let row = row_for fleet target in
    let more = lists ++ row ∷ [] in
    let wide = length-append lists (row ∷ []) in
    let P = λ (n : ℕ). n < length more in
    record {
      lists_of = ap (λ (xs : List (List ℕ)). xs ++ row ∷ []) h.lists_of ∙ sym (map-append (row_for fleet) firsts (target ∷ []));
      within = All-append P numbers (length lists ∷ []) (All-weaker (λ (n : ℕ). n < length lists) P (λ n l. omega (arith, l, wide)) numbers h.within) (All-cons P (length lists) [] (omega (arith, wide)) (All-nil P));
      rows =
          map-append (row_at more) numbers (length lists ∷ [])
          ∙ ap (λ (xs : List (List ℕ)). xs ++ row_at more (length lists) ∷ []) (rows_stay lists row numbers h.within ∙ h.rows)
          ∙ ap (λ (x : List ℕ). map (row_for fleet) targets ++ x ∷ []) (get_or_push lists row [] (length lists) refl)
          ∙ sym (map-append (row_for fleet) targets (target ∷ []));
    }

pub nothing_shared : (fleet : FleetState) (lists : List (List ℕ)) (firsts numbers : List ℕ) → lists ≡ [] → firsts ≡ [] → numbers ≡ [] → IsSharing fleet [] lists firsts numbers
nothing_shared fleet lists firsts numbers none first number = record {
  lists_of = none ∙ sym (ap (λ (xs : List ℕ). map (row_for fleet) xs) first);
  within = subst (All (λ (n : ℕ). n < length lists)) (sym number) (All-nil (λ (n : ℕ). n < length lists));
  rows = ap (λ (xs : List ℕ). map (row_at lists) xs) number;
}
