-- What is known stays as it is, so the text of a list is the same at each moment at which its targets are known.
use Rattle.std.proofs.Common.{◌≡◌, ℕ, zero, suc, ◌≤◌, ◌<◌, List, [], ◌∷◌, ◌++◌, Bool, true, false, length, refl, ap, sym, subst, ◌∙◌, arith, length-append, inl, inr}
use Rattle.std.specs.Prelude.{◌⊎◌, All, Option, Some, None, is_some, slice_get}
use Rattle.std.specs.List.{list_any}
use Rattle.std.proofs.lemmas.List.{map-append}
use Rattle.std.proofs.lemmas.List.Elements.{All-head, All-tail}
use mathlib.Core.List.{IsPrefix}
use Rattle.serde_json.specs.Written.{compact_text}
use Rattle.json_values.specs.Spelling.{list_data}
use Rattle.label_sets.specs.Target.{FinalTarget}
use Rattle.fleet.specs.Fleet.{FleetState}
use Rattle.fleet.specs.Changes.{with_listing}
use Rattle.fleet.specs.Jobs.{job_named}
use Rattle.fleet.specs.KnownTarget.{known_with, same_known, with_known}
use Rattle.fleet.specs.declared.known_target.KnownTarget.{KnownTarget}
use Rattle.fleet_events.specs.declared.event.Event.{Event}
use Rattle.fleet_events.specs.declared.event.Event.TheVariants.{Discover, Join, Leave, Drain, SetLimits, Install, Spread, NextRound, Take, Serve, Release, Report}
use Rattle.journal_entries.specs.Legal.{events_in}
use Rattle.journal_entries.specs.declared.entry.Entry.{Entry as Line}
use Rattle.allocation_core.specs.State.{State}
use Rattle.allocation_core.specs.Steps.{changed, refusal_of, state_after}
use Rattle.allocation_core.specs.Runs.{state_of}
use Rattle.alloc_desk.specs.History.{History, end_of, history_of}
use Rattle.alloc_desk.specs.Views.{numbered_in, numbered_of}
use Rattle.target_shares.specs.declared.numbered_target.NumberedTarget.{NumberedTarget}
use Rattle.sd_routes.specs.Acknowledging.{acknowledged_data}
use Rattle.sd_routes.specs.Pages.{group_data}
use Rattle.sd_routes.specs.declared.list_head.ListHead.{ListHead}
use Rattle.sd_server.specs.Listing.{AreKnown, IsListText}
use Rattle.sd_server.specs.Spans.{Moves, Span, now_of}
use Rattle.sd_server.specs.Texts.{list_text}
use Rattle.sd_server.proofs.SpanLemmas.{prefix_self, prefix_trans}

with_more : (known : List KnownTarget) (t : KnownTarget) (b : Bool) → list_any (same_known t) known ≡ b → IsPrefix known (with_known known t)
with_more known t true is = rw is (prefix_self known)
with_more known t false is = rw is (t ∷ [], refl)

listed_more : (known : List KnownTarget) (job : ℕ) (targets : List FinalTarget) → IsPrefix known (known_with known job targets)
listed_more known job [] = prefix_self known
listed_more known job (t ∷ ts) =
    let one : KnownTarget = record { job = job; target = t } in
    let next = with_known known one in
    prefix_trans known next (known_with next job ts) (with_more known one (list_any (same_known one) known) refl) (listed_more next job ts)

listing_more : (fleet : FleetState) (name : List ℕ) (source : ℕ) (targets : List FinalTarget) (o : Option ℕ) → job_named fleet.jobs name ≡ o → IsPrefix fleet.known (with_listing fleet name source targets).known
listing_more fleet name source targets None is = rw is (prefix_self fleet.known)
listing_more fleet name source targets (Some job) is = rw is (listed_more fleet.known job targets)

changed_more : (m : State) (event : Event) → IsPrefix m.fleet.known (changed m event).fleet.known
changed_more m (Discover name source targets) = listing_more m.fleet name source targets (job_named m.fleet.jobs name) refl
changed_more m (Join name reach limits) = prefix_self m.fleet.known
changed_more m (Leave id) = prefix_self m.fleet.known
changed_more m (Drain id) = prefix_self m.fleet.known
changed_more m (SetLimits id limits) = prefix_self m.fleet.known
changed_more m (Install plan) = prefix_self m.fleet.known
changed_more m (Spread spread) = prefix_self m.fleet.known
changed_more m NextRound = prefix_self m.fleet.known
changed_more m (Take id) = prefix_self m.fleet.known
changed_more m (Serve id name) = prefix_self m.fleet.known
changed_more m (Release id name) = prefix_self m.fleet.known
changed_more m (Report report) = prefix_self m.fleet.known

after_by : (m : State) (event : Event) (b : Bool) → is_some (refusal_of m event) ≡ b → IsPrefix m.fleet.known (state_after m event).fleet.known
unfolding state_after
after_by m event true is = rw is (prefix_self m.fleet.known)
after_by m event false is = rw is (changed_more m event)

-- over every list of events
pub known_stays : (m : State) (events : List Event) → IsPrefix m.fleet.known (state_of m events).fleet.known
known_stays m [] = prefix_self m.fleet.known
known_stays m (event ∷ events) =
    let next = state_after m event in
    prefix_trans m.fleet.known next.fleet.known (state_of next events).fleet.known (after_by m event (is_some (refusal_of m event)) refl) (known_stays next events)

run-append : (m : State) (es fs : List Event) → state_of m (es ++ fs) ≡ state_of (state_of m es) fs
run-append m [] fs = refl
run-append m (e ∷ es) fs = run-append (state_after m e) es fs

-- from a moment of a journal to a later one
pub known_later : (opening : State) (xs ys : List Line) → IsPrefix xs ys → IsPrefix (end_of opening xs).fleet.known (end_of opening ys).fleet.known
known_later opening xs ys p =
    let event : Line → Event = λ (e : Line). e.event in
    let is : end_of opening ys ≡ state_of (end_of opening xs) (events_in p.0) =
    ap (λ (zs : List Line). state_of opening (events_in zs)) (sym p.1) ∙ (ap (state_of opening) (map-append event xs p.0) ∙ run-append opening (events_in xs) (events_in p.0)) in
    subst (λ (m : State). IsPrefix (end_of opening xs).fleet.known m.fleet.known) (sym is) (known_stays (end_of opening xs) (events_in p.0))

get_stays : {A : Type 0} (xs ys : List A) (k : ℕ) → IsPrefix xs ys → k < length xs → slice_get xs k ≡ slice_get ys k
get_stays [] ys k p lt = absurd (omega arith)
get_stays (x ∷ xs) [] k p lt = absurd (cc (p.1))
get_stays (x ∷ xs) (y ∷ ys) zero p lt = cc (p.1)
get_stays (x ∷ xs) (y ∷ ys) (suc k) p lt = get_stays xs ys k (p.0, cc (p.1)) (omega arith)

prefix_length : {A : Type 0} (xs ys : List A) → IsPrefix xs ys → length xs ≤ length ys
prefix_length xs ys p = omega (arith, sym (ap length p.1) ∙ length-append xs p.0)

-- of two beginnings of one list the shorter begins the longer
prefix_shorter : {A : Type 0} (xs ys zs : List A) → IsPrefix xs zs → IsPrefix ys zs → length xs ≤ length ys → IsPrefix xs ys
prefix_shorter [] ys zs p q le = (ys, refl)
prefix_shorter (x ∷ xs) [] zs p q le = absurd (omega arith)
prefix_shorter (x ∷ xs) (y ∷ ys) [] p q le = absurd (cc (p.1))
prefix_shorter (x ∷ xs) (y ∷ ys) (z ∷ zs) p q le =
    let heads : x ≡ y = cc (p.1, q.1) in
    let rest = prefix_shorter xs ys zs (p.0, cc (p.1)) (q.0, cc (q.1)) (omega arith) in
    (rest.0, cc (heads, rest.1))

-- what is known is known later
pub known_are_later : (opening : State) (xs ys : List Line) (targets : List ℕ) → IsPrefix xs ys → AreKnown (history_of opening xs) targets → AreKnown (history_of opening ys) targets
known_are_later opening xs ys targets p known = λ k d lt.
    omega (arith, known k d lt, prefix_length (end_of opening xs).fleet.known (end_of opening ys).fleet.known (known_later opening xs ys p))

numbered_stay :
    (m n : State) (place : ℕ) (targets : List ℕ) → IsPrefix m.fleet.known n.fleet.known → All (λ (target : ℕ). target < length m.fleet.known) targets
    → numbered_of m place targets ≡ numbered_of n place targets
numbered_stay m n place [] p known = refl
numbered_stay m n place (t ∷ ts) p known =
    let P : ℕ → Type 0 = λ (target : ℕ). target < length m.fleet.known in
    let one : slice_get m.fleet.known t ≡ slice_get n.fleet.known t = get_stays m.fleet.known n.fleet.known t p (All-head P t ts known) in
    let rest : numbered_of m place ts ≡ numbered_of n place ts = numbered_stay m n place ts p (All-tail P t ts known) in
    ap (λ (o : Option KnownTarget). numbered_in place t o ++ numbered_of m place ts) one ∙ ap (λ (xs : List NumberedTarget). numbered_in place t (slice_get n.fleet.known t) ++ xs) rest

text_by : (at : Option (List ℕ)) (job : List ℕ) (head : ListHead) (place : ℕ) (targets : List ℕ) (h k : History) → numbered_of h.state place targets ≡ numbered_of k.state place targets
    → list_text at job head place targets h ≡ list_text at job head place targets k
text_by None job head place targets h k is = ap (λ (xs : List NumberedTarget). compact_text (list_data group_data xs)) is
text_by (Some at) job head place targets h k is = ap (λ (xs : List NumberedTarget). compact_text (acknowledged_data at job head xs)) is

-- the text of a list is that at any moment at which its targets are known
pub text_at :
    (span : Span) (at : Option (List ℕ)) (job : List ℕ) (head : ListHead) (place : ℕ) (targets text : List ℕ) (moment : List Line) → IsListText span at job head place targets text
    → IsPrefix moment span.after → AreKnown (history_of span.opening moment) targets → text ≡ list_text at job head place targets (history_of span.opening moment)
text_at span at job head place targets text moment told p known =
    let early = told.moment in
    let both : (length early ≤ length moment) ⊎ (length moment ≤ length early) = grind arith in
    text_in span at job head place targets text moment early both p told.seen known told.holds.0 told.holds.1
  where
    text_in :
        (span : Span) (at : Option (List ℕ)) (job : List ℕ) (head : ListHead) (place : ℕ) (targets text : List ℕ) (moment early : List Line)
        → (length early ≤ length moment) ⊎ (length moment ≤ length early) → IsPrefix moment span.after → IsPrefix early span.after → AreKnown (history_of span.opening moment) targets
        → text ≡ list_text at job head place targets (history_of span.opening early) → AreKnown (history_of span.opening early) targets
        → text ≡ list_text at job head place targets (history_of span.opening moment)
    text_in span at job head place targets text moment early (inl le) p q known is known_then =
        let m = history_of span.opening moment in
        let t = history_of span.opening early in
        is ∙ text_by at job head place targets t m (numbered_stay t.state m.state place targets (known_later span.opening early moment (prefix_shorter early moment span.after q p le)) known_then)
    text_in span at job head place targets text moment early (inr le) p q known is known_then =
        let m = history_of span.opening moment in
        let t = history_of span.opening early in
        is ∙ sym (text_by at job head place targets m t (numbered_stay m.state t.state place targets (known_later span.opening moment early (prefix_shorter moment early span.after p q le)) known))

-- what is known when something was seen is known once more was seen
pub known_moved : (a b : Span) (targets : List ℕ) → Moves a b → AreKnown (now_of a) targets → AreKnown (now_of b) targets
known_moved a b targets m known =
    subst (λ (o : State). AreKnown (history_of o b.after) targets) (sym m.opening) (known_are_later a.opening a.after b.after targets m.after known)
