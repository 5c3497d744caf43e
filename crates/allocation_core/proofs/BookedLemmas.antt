-- Every booked report is one of the target's holder, and the only one of its target and round.
use Rattle.std.proofs.Common.{◌≡◌, ℕ, zero, suc, ◌+◌, ◌<◌, ◌≤◌, ◌⊎◌, List, [], ◌∷◌, ◌++◌, Bool, true, false, Option, Some, None, All, length, eqb, get_or, refl, sym, ap, subst, ◌∙◌, inl, inr, arith, append_assoc, length-append}
use Rattle.std.specs.Prelude.{is_some, nat_lt, if◌then◌else◌, slice_get, slice_index_or, ◌&&◌, ◌||◌}
use Rattle.std.proofs.lemmas.Bool.{cases_lt, eq-eqb, cases_eq, or_parts, cond-true}
use Rattle.std.proofs.lemmas.List.{append-nil}
use Rattle.std.proofs.lemmas.List.Elements.{All-nil, All-push, All-tail}
use Rattle.std.proofs.lemmas.List.Quantifiers.{all_pairs_push}
use Rattle.std.proofs.lemmas.List.Sums.{sum_by-append, sum_by-cons}
use Rattle.std.proofs.lemmas.Option.{slice_get_past}
use Rattle.handover.specs.Handover.{beside, holder_in}
use Rattle.scrape_books.specs.Books.{is_booked, samples_of, total_of}
use Rattle.scrape_books.specs.Kept.{BookedOnce}
use Rattle.scrape_books.proofs.EntryLemmas.{once_push}
use Rattle.scrape_books.specs.declared.report.Entry.{Entry}
use Rattle.scrape_books.specs.declared.report.Outcome.{Outcome}
use Rattle.fleet.specs.Fleet.{is_joined}
use Rattle.allocation_core.specs.State.{State, first_round, first_state}
use Rattle.allocation_core.specs.Steps.{report_refusal, answer_of, answer_by, state_after, changed, entry_of, gained, refusal_of, round_refusal}
use Rattle.allocation_core.specs.Runs.{state_of}
use Rattle.allocation_core.specs.Kept.{IsKept}
use Rattle.allocation_core.specs.Booked.{AllBooked, AlwaysBooked, RoundsRise, WasBooked, WithOneAllIsAsBefore, WithOneItStays, one_round_refusal, report_of}
use Rattle.fleet.specs.declared.job.JobSpec.{JobSpec}
use Rattle.fleet_events.specs.declared.event.Event.{Event}
use Rattle.fleet_events.specs.declared.event.Event.TheVariants.{Discover, Join, Leave, Drain, SetLimits, Install, Spread, NextRound, Take, Serve, Release, Report}
use Rattle.fleet_events.specs.declared.answer.Answer.TheVariants.{Booked}
use Rattle.fleet_events.specs.declared.refusal.Refusal.{Refusal}
use Rattle.fleet_events.specs.declared.refusal.Refusal.TheVariants.{RoundClosed, RoundNotOpen, AlreadyBooked}
use Rattle.allocation_core.proofs.AnswerLemmas.{Admitted, admitted}
use Rattle.allocation_core.proofs.BestLemmas.{step_grows}
use Rattle.allocation_core.proofs.StepLemmas.{run_kept, start_kept, step_kept}
use Rattle.allocation_core.proofs.RunLemmas.{state_of_append}

-- an event books nothing, or it is a Report that nothing is against
pub record Books (m : State) (e : Event) : Type 0 where
  pub entry : ℕ × Entry
  pub is : e ≡ report_of entry
  pub free : Admitted m entry.1.collector entry.1.number entry.0 entry.1.round
  pub answered : answer_of m (report_of entry) ≡ Booked
  pub grown : (state_after m e).booked ≡ m.booked ++ entry ∷ []

same_by : (m n : State) (o : Option Refusal) → n.booked ≡ m.booked → (if is_some o then m else n).booked ≡ m.booked
same_by m n None e = e
same_by m n (Some r) e = refl

report_by :
    (m n : State) (entry : ℕ × Entry) (o : Option Refusal) → (o ≡ None → Admitted m entry.1.collector entry.1.number entry.0 entry.1.round) → n.booked ≡ m.booked ++ entry ∷ []
    → ((if is_some o then m else n).booked ≡ m.booked) ⊎ (Admitted m entry.1.collector entry.1.number entry.0 entry.1.round × (answer_by o Booked ≡ Booked) × ((if is_some o then m else n).booked ≡ m.booked ++ entry ∷ []))
report_by m n entry None free grown = inr (free refl, refl, grown)
report_by m n entry (Some r) free grown = inl refl

pub books : (m : State) (e : Event) → ((state_after m e).booked ≡ m.booked) ⊎ Books m e
unfolding state_after answer_of
books m (Discover name source targets) = inl (same_by m _ (refusal_of m (Discover name source targets)) refl)
books m (Join name reach limits) = inl (same_by m _ (refusal_of m (Join name reach limits)) refl)
books m (Leave id) = inl (same_by m _ (refusal_of m (Leave id)) refl)
books m (Drain id) = inl (same_by m _ (refusal_of m (Drain id)) refl)
books m (SetLimits id limits) = inl (same_by m _ (refusal_of m (SetLimits id limits)) refl)
books m (Install plan) = inl (same_by m _ (refusal_of m (Install plan)) refl)
books m (Spread spread) = inl (same_by m _ (refusal_of m (Spread spread)) refl)
books m NextRound = inl (same_by m _ (refusal_of m NextRound) refl)
books m (Take id) = inl (same_by m _ (refusal_of m (Take id)) refl)
books m (Serve id name) = inl (same_by m _ (refusal_of m (Serve id name)) refl)
books m (Release id name) = inl (same_by m _ (refusal_of m (Release id name)) refl)
books m (Report report) =
    let entry : ℕ × Entry = (report.target, entry_of report.collector report.allocation report.round report.outcome) in
    elim (report_by m (changed m (report_of entry)) entry (refusal_of m (report_of entry)) (admitted m report.collector report.allocation report.target report.round report.outcome) refl) [
      | inl same ↦ inl same
      | inr grown ↦ inr (record { entry = entry; is = refl; free = grown.0; answered = grown.1; grown = grown.2 })
    ]

-- what is booked stays
pub record Stays (old new : List (ℕ × Entry)) : Type 0 where
  pub more : List (ℕ × Entry)
  pub is : new ≡ old ++ more

pub step_stays : (m : State) (e : Event) → Stays m.booked (state_after m e).booked
step_stays m e = elim (books m e) [
  | inl same ↦ record { more = []; is = same ∙ sym (append-nil m.booked) }
  | inr p ↦ record { more = p.entry ∷ []; is = p.grown }
]

run_stays : (m : State) (es : List Event) → Stays m.booked (state_of m es).booked
run_stays m [] = record { more = []; is = sym (append-nil m.booked) }
run_stays m (e ∷ es) =
    let first = step_stays m e in
    let rest = run_stays (state_after m e) es in
    record { more = first.more ++ rest.more; is = rest.is ∙ ap (λ (bs : List (ℕ × Entry)). bs ++ rest.more) first.is ∙ append_assoc m.booked first.more rest.more }

get_at : (xs ys : List (ℕ × Entry)) (b : ℕ × Entry) (k : ℕ) → k ≡ length xs → slice_get ((xs ++ b ∷ []) ++ ys) k ≡ Some b
get_at [] ys b zero e = refl
get_at [] ys b (suc k) e = absurd (omega arith)
get_at (x ∷ xs) ys b zero e = absurd (omega arith)
get_at (x ∷ xs) ys b (suc k) e = get_at xs ys b k (omega arith)

same_entry : (a b : ℕ × Entry) → ◌≡◌ {A = Option (ℕ × Entry)} (Some a) (Some b) → a ≡ b
same_entry a b e = cc

none_some : (b : ℕ × Entry) → ◌≡◌ {A = Option (ℕ × Entry)} None (Some b) → {X : Type 0} → X
none_some b e = cc

-- the event itself booked it
here_booked : (m : State) (e : Event) (es : List Event) (k : ℕ) (b : ℕ × Entry) → length m.booked ≤ k → k < length (state_after m e).booked → slice_get (state_of (state_after m e) es).booked k ≡ Some b → Books m e → WasBooked m (e ∷ es) k b
here_booked m e es k b low high there p =
    let rest = run_stays (state_after m e) es in
    let size : length (state_after m e).booked ≡ length m.booked + 1 = omega (arith, ap (λ (bs : List (ℕ × Entry)). length bs) p.grown, length-append m.booked (p.entry ∷ [])) in
    let place : k ≡ length m.booked = omega (arith, size) in
    let found : slice_get (state_of (state_after m e) es).booked k ≡ Some p.entry =
    ap (λ (bs : List (ℕ × Entry)). slice_get bs k) (rest.is ∙ ap (λ (bs : List (ℕ × Entry)). bs ++ rest.more) p.grown) ∙ get_at m.booked rest.more p.entry k place in
    let is : p.entry ≡ b = same_entry p.entry b (sym found ∙ there) in
    subst (λ (x : ℕ × Entry). WasBooked m (e ∷ es) k x) is
    (record {
      earlier = [];
      later = es;
      split = ap (λ (f : Event). f ∷ es) p.is;
      before = sym place;
      answered = p.answered;
      joined = p.free.joined;
      taken = p.free.taken;
      held = p.free.held;
      free = p.free.free;
      opened = p.free.opened;
      reached = p.free.reached;
    })

pub run_booked : (m : State) (es : List Event) (k : ℕ) (b : ℕ × Entry) → length m.booked ≤ k → slice_get (state_of m es).booked k ≡ Some b → WasBooked m es k b
run_booked m [] k b low there = none_some b (sym (slice_get_past m.booked k low) ∙ there)
run_booked m (e ∷ es) k b low there = elim (cases_lt k (length (state_after m e).booked)) [
  | inl l ↦ elim (books m e) [
    | inl same ↦ absurd (omega (arith, ap (λ (bs : List (ℕ × Entry)). length bs) same))
    | inr p ↦ here_booked m e es k b low l there p
  ]
  | inr g ↦
      let later = run_booked (state_after m e) es k b g there in
      record {
        earlier = e ∷ later.earlier;
        later = later.later;
        split = ap (λ (fs : List Event). e ∷ fs) later.split;
        before = later.before;
        answered = later.answered;
        joined = later.joined;
        taken = later.taken;
        held = later.held;
        free = later.free;
        opened = later.opened;
        reached = later.reached;
      }
]

-- A holder in a published allocation stays its holder.
get_or-stays : (xs more : List (List (ℕ × ℕ))) (k target c : ℕ) → beside (slice_index_or xs k []) target ≡ Some c → beside (slice_index_or (xs ++ more) k []) target ≡ Some c
get_or-stays [] more k target c e = cc
get_or-stays (x ∷ xs) more zero target c e = e
get_or-stays (x ∷ xs) more (suc k) target c e = get_or-stays xs more k target c e

holder_stays : (published more : List (List (ℕ × ℕ))) (number target c : ℕ) → holder_in published number target ≡ Some c → holder_in (published ++ more) number target ≡ Some c
holder_stays published more zero target c e = e
holder_stays published more (suc n) target c e = get_or-stays published more n target c e

abbrev pub AreHeld : State → Type 0
AreHeld m = All (λ (b : ℕ × Entry). holder_in m.published b.1.number b.0 ≡ Some b.1.collector) m.booked

step_held : (m : State) (e : Event) → AreHeld m → AreHeld (state_after m e)
step_held m e held =
    let now : List (List (ℕ × ℕ)) = (state_after m e).published in
    let grown = step_grows m e in
    let old : All (λ (b : ℕ × Entry). holder_in now b.1.number b.0 ≡ Some b.1.collector) m.booked =
    λ k d l. (let b : ℕ × Entry = get_or m.booked k d in subst (λ (ps : List (List (ℕ × ℕ))). holder_in ps b.1.number b.0 ≡ Some b.1.collector) (sym grown.is) (holder_stays m.published grown.more b.1.number b.0 b.1.collector (held k d l))) in
    elim (books m e) [
      | inl same ↦ subst (λ (bs : List (ℕ × Entry)). All (λ (b : ℕ × Entry). holder_in now b.1.number b.0 ≡ Some b.1.collector) bs) (sym same) old
      | inr p ↦ subst (λ (bs : List (ℕ × Entry)). All (λ (b : ℕ × Entry). holder_in now b.1.number b.0 ≡ Some b.1.collector) bs) (sym p.grown)
          (All-push (λ (b : ℕ × Entry). holder_in now b.1.number b.0 ≡ Some b.1.collector) m.booked p.entry old
          (subst (λ (ps : List (List (ℕ × ℕ))). holder_in ps p.entry.1.number p.entry.0 ≡ Some p.entry.1.collector) (sym grown.is) (holder_stays m.published grown.more p.entry.1.number p.entry.0 p.entry.1.collector p.free.held)))
    ]

pub run_held : (m : State) (es : List Event) → AreHeld m → AreHeld (state_of m es)
run_held m [] held = held
run_held m (e ∷ es) held = run_held (state_after m e) es (step_held m e held)

step_once : (m : State) (e : Event) → BookedOnce m.booked → BookedOnce (state_after m e).booked
step_once m e once = elim (books m e) [
  | inl same ↦ subst BookedOnce (sym same) once
  | inr p ↦ subst BookedOnce (sym p.grown) (once_push m.booked p.entry once p.free.fresh)
]

pub run_once : (m : State) (es : List Event) → BookedOnce m.booked → BookedOnce (state_of m es).booked
run_once m [] once = once
run_once m (e ∷ es) once = run_once (state_after m e) es (step_once m e once)

pub always_booked : AlwaysBooked
always_booked jobs report_rounds events =
    record {
      each = λ place b there. run_booked (first_state jobs report_rounds) events place b (omega arith) there;
      held = run_held (first_state jobs report_rounds) events (All-nil _);
      once = run_once (first_state jobs report_rounds) events (λ i j d less in_range. absurd (omega arith));
    }

-- of how many rounds reports are booked stays
count_by : (m n : State) (o : Option Refusal) → n.report_rounds ≡ m.report_rounds → (if is_some o then m else n).report_rounds ≡ m.report_rounds
count_by m n None e = e
count_by m n (Some r) e = refl

changed_count : (m : State) (e : Event) → (changed m e).report_rounds ≡ m.report_rounds
changed_count m (Discover name source targets) = refl
changed_count m (Join name reach limits) = refl
changed_count m (Leave id) = refl
changed_count m (Drain id) = refl
changed_count m (SetLimits id limits) = refl
changed_count m (Install plan) = refl
changed_count m (Spread spread) = refl
changed_count m NextRound = refl
changed_count m (Take id) = refl
changed_count m (Serve id name) = refl
changed_count m (Release id name) = refl
changed_count m (Report report) = refl

step_count : (m : State) (e : Event) → (state_after m e).report_rounds ≡ m.report_rounds
unfolding state_after
step_count m e = count_by m (changed m e) (refusal_of m e) (changed_count m e)

pub run_count : (m : State) (es : List Event) → (state_of m es).report_rounds ≡ m.report_rounds
run_count m [] = refl
run_count m (e ∷ es) = run_count (state_after m e) es ∙ step_count m e

one_by : (m : State) → m.report_rounds ≡ 1 → m.begun ≤ m.round → first_round m ≡ m.round
one_by m one begun = omega (arith, one, begun)

refused_as_one : (m : State) (target round : ℕ) → first_round m ≡ m.round → round_refusal m target round ≡ one_round_refusal m target round
refused_as_one m target round first =
    ap (λ (n : ℕ). (let o : Option Refusal = (if nat_lt round n then Some (RoundClosed n) else if nat_lt m.round round then Some (RoundNotOpen m.round) else if is_booked m.booked target round then Some AlreadyBooked else None) in o)) first

-- of one target no round is booked that another report has
other_by : (t r : Bool) (rest : Bool) → ((t && r) || rest) ≡ false → t ≡ true → r ≡ false
other_by true false rest e s = refl
other_by true true rest e s = cc
other_by false r rest e s = cc

rest_by : (t r : Bool) (rest : Bool) → ((t && r) || rest) ≡ false → rest ≡ false
rest_by t r rest e = (or_parts (t && r) rest e).1

earlier_rounds : (booked : List (ℕ × Entry)) (target round : ℕ) → is_booked booked target round ≡ false → All (λ (b : ℕ × Entry). b.1.round ≤ round) booked → All (λ (b : ℕ × Entry). b.0 ≡ target → b.1.round < round) booked
earlier_rounds [] target round fresh past k d l s = absurd (omega arith)
earlier_rounds (b ∷ booked) target round fresh past zero d l s = elim (cases_eq b.1.round round) [
  | inl same ↦ (let other : eqb b.1.round round ≡ false = other_by (eqb b.0 target) (eqb b.1.round round) (is_booked booked target round) fresh (eq-eqb b.0 target s) in let is : eqb b.1.round round ≡ true = eq-eqb b.1.round round same in cc)
  | inr differs ↦ (let less : b.1.round ≤ round = past zero b (omega arith) in elim (cases_lt b.1.round round) [ inl below ↦ below | inr above ↦ absurd (differs (omega (arith, less))) ])
]
earlier_rounds (b ∷ booked) target round fresh past (suc k) d l s =
    earlier_rounds booked target round (rest_by (eqb b.0 target) (eqb b.1.round round) (is_booked booked target round) fresh) (All-tail (λ (x : ℕ × Entry). x.1.round ≤ round) b booked past) k d (omega arith) s

-- where reports are booked of the open round alone, the rounds of a target rise
step_rises : (m : State) (e : Event) → IsKept m → m.report_rounds ≡ 1 → RoundsRise m.booked → RoundsRise (state_after m e).booked
step_rises m e kept one rise = elim (books m e) [
  | inl same ↦ subst RoundsRise (sym same) rise
  | inr p ↦
      let now : m.round ≡ p.entry.1.round = omega (arith, one_by m one kept.begun, p.free.opened, p.free.reached) in
      let past : All (λ (b : ℕ × Entry). b.1.round ≤ p.entry.1.round) m.booked = subst (λ (r : ℕ). All (λ (b : ℕ × Entry). b.1.round ≤ r) m.booked) now kept.past_rounds in
      let earlier = earlier_rounds m.booked p.entry.0 p.entry.1.round p.free.fresh past in
      subst RoundsRise (sym p.grown) (all_pairs_push (λ (a b : ℕ × Entry). a.0 ≡ b.0 → a.1.round < b.1.round) m.booked p.entry rise earlier)
]

run_rises : (m : State) (es : List Event) → IsKept m → m.report_rounds ≡ 1 → RoundsRise m.booked → RoundsRise (state_of m es).booked
run_rises m [] kept one rise = rise
run_rises m (e ∷ es) kept one rise = run_rises (state_after m e) es (step_kept m e kept) (step_count m e ∙ one) (step_rises m e kept one rise)

pub it_stays : WithOneItStays
it_stays start events kept one rise =
    let end : State = state_of start events in
    let first : first_round end ≡ end.round = one_by end (run_count start events ∙ one) (run_kept start events kept).begun in
    record { first = first; refusal = λ target round. refused_as_one end target round first; rise = run_rises start events kept one rise }

pub with_one : WithOneAllIsAsBefore
with_one jobs events = it_stays (first_state jobs 1) events (start_kept jobs 1) refl (λ i j d less in_range. absurd (omega arith))

-- with more events behind
farther : (first : State) (events done left : List Event) (place : ℕ) (b : ℕ × Entry) → events ≡ done ++ left → WasBooked first done place b → WasBooked first events place b
farther first events done left place b e was =
    record {
      earlier = was.earlier;
      later = was.later ++ left;
      split = e ∙ ap (λ (es : List Event). es ++ left) was.split ∙ append_assoc was.earlier (report_of b ∷ was.later) left;
      before = was.before;
      answered = was.answered;
      joined = was.joined;
      taken = was.taken;
      held = was.held;
      free = was.free;
      opened = was.opened;
      reached = was.reached;
    }

-- a run that did the first of the events
pub booked_after : AlwaysBooked → (jobs : List JobSpec) (report_rounds : ℕ) (events done left : List Event) (old new : State) → old ≡ first_state jobs report_rounds → events ≡ done ++ left → new ≡ state_of old done → AllBooked (first_state jobs report_rounds) events new
booked_after always jobs report_rounds events done left old new opened split is =
    let same : new ≡ state_of (first_state jobs report_rounds) done = is ∙ ap (λ (m : State). state_of m done) opened in
    let all = always jobs report_rounds done in
    subst (λ (m : State). AllBooked (first_state jobs report_rounds) events m) (sym same)
    (record { each = λ place b there. farther (first_state jobs report_rounds) events done left place b split (all.each place b there); held = all.held; once = all.once })

-- the total rises by what an event books
gained_by : (m n : State) (collector number target round : ℕ) (outcome : Outcome) (o : Option Refusal) → n.booked ≡ m.booked ++ (target, entry_of collector number round outcome) ∷ []
    → total_of (if is_some o then m else n).booked ≡ total_of m.booked + gained (report_of (target, entry_of collector number round outcome)) (answer_by o Booked)
gained_by m n collector number target round outcome None grown =
    let b : ℕ × Entry = (target, entry_of collector number round outcome) in
    let more = sum_by-append (λ (q : ℕ × Entry). samples_of q.1.outcome) m.booked (b ∷ []) in
    let one = sum_by-cons (λ (q : ℕ × Entry). samples_of q.1.outcome) b [] in
    omega (arith, ap total_of grown, more, one)
gained_by m n collector number target round outcome (Some r) grown = omega arith

nothing_by : (m n : State) (o : Option Refusal) → n.booked ≡ m.booked → total_of (if is_some o then m else n).booked ≡ total_of m.booked + 0
nothing_by m n o e = omega (arith, ap total_of (same_by m n o e))

pub total_rises : (m : State) (e : Event) → total_of (state_after m e).booked ≡ total_of m.booked + gained e (answer_of m e)
unfolding state_after answer_of
total_rises m (Discover name source targets) = nothing_by m (changed m (Discover name source targets)) (refusal_of m (Discover name source targets)) refl
total_rises m (Join name reach limits) = nothing_by m (changed m (Join name reach limits)) (refusal_of m (Join name reach limits)) refl
total_rises m (Leave id) = nothing_by m (changed m (Leave id)) (refusal_of m (Leave id)) refl
total_rises m (Drain id) = nothing_by m (changed m (Drain id)) (refusal_of m (Drain id)) refl
total_rises m (SetLimits id limits) = nothing_by m (changed m (SetLimits id limits)) (refusal_of m (SetLimits id limits)) refl
total_rises m (Install plan) = nothing_by m (changed m (Install plan)) (refusal_of m (Install plan)) refl
total_rises m (Spread spread) = nothing_by m (changed m (Spread spread)) (refusal_of m (Spread spread)) refl
total_rises m NextRound = nothing_by m (changed m NextRound) (refusal_of m NextRound) refl
total_rises m (Take id) = nothing_by m (changed m (Take id)) (refusal_of m (Take id)) refl
total_rises m (Serve id name) = nothing_by m (changed m (Serve id name)) (refusal_of m (Serve id name)) refl
total_rises m (Release id name) = nothing_by m (changed m (Release id name)) (refusal_of m (Release id name)) refl
total_rises m (Report report) =
    gained_by m (changed m (Report report)) report.collector report.allocation report.target report.round report.outcome (refusal_of m (Report report)) refl

nothing_against : (m : State) (collector number target round : ℕ) (outcome : Outcome) → is_joined m.fleet collector ≡ true → report_refusal m collector number target round ≡ None → refusal_of m (report_of (target, entry_of collector number round outcome)) ≡ None
nothing_against m collector number target round outcome joined free = cond-true (is_joined m.fleet collector) _ _ joined ∙ free

pub booked_answer : (m : State) (collector number target round : ℕ) (outcome : Outcome) → is_joined m.fleet collector ≡ true → report_refusal m collector number target round ≡ None → Booked ≡ answer_of m (report_of (target, entry_of collector number round outcome))
unfolding answer_of
booked_answer m collector number target round outcome joined free = ap (λ (o : Option Refusal). answer_by o Booked) (sym (nothing_against m collector number target round outcome joined free))

-- the same, after earlier events
pub booked_after_earlier : AlwaysBooked → (jobs : List JobSpec) (report_rounds : ℕ) (earlier events done left : List Event) (old new : State) → old ≡ state_of (first_state jobs report_rounds) earlier → events ≡ done ++ left → new ≡ state_of old done → AllBooked (first_state jobs report_rounds) (earlier ++ events) new
booked_after_earlier always jobs report_rounds earlier events done left old new reached split is =
    booked_after always jobs report_rounds (earlier ++ events) (earlier ++ done) left (first_state jobs report_rounds) new refl
    (ap (λ (es : List Event). earlier ++ es) split ∙ sym (append_assoc earlier done left))
    (is ∙ ap (λ (m : State). state_of m done) reached ∙ sym (state_of_append (first_state jobs report_rounds) earlier done))
