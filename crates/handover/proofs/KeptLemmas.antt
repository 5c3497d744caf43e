-- What is kept, and the lists that it stands for.
use Rattle.std.proofs.Common.{◌≡◌, ℕ, zero, suc, ◌+◌, ◌-◌, ◌<◌, ◌≤◌, List, [], ◌∷◌, ◌++◌, Bool, true, false, Option, Some, None, length, get_or, refl, sym, ap, subst, ◌∙◌, inl, inr, AllPairs, Result, Ok, Err, OnErr, arith, add-one, length-append}
use Rattle.std.proofs.Math.Seq.{get_or-append_seam}
use Rattle.std.proofs.lemmas.List.{get_or_append_left, get_or_past}
use Rattle.std.specs.Prelude.{if◌then◌else◌, MatchOption, option_map}
use Rattle.std.proofs.lemmas.Bool.{cases_eq, eq-eqb}
use Rattle.handover.specs.Handover.{Handover, beside, allocation_at, last_of, holder_in, held_in, held_since, holds, since_of, targets_of}
use Rattle.handover.specs.Spans.{Row, holder_at, spans_of, pairs_from, lists_of, closed, opened, changed, without, AreSpans, IsKept, IsSince}
use Rattle.handover.specs.declared.spans.Span.{Span}
use Rattle.handover.proofs.SpanLemmas.{newly, change_by, after_change, follows, Follows, above, none_yet}
use Rattle.handover.proofs.PairLemmas.{Ascends, ascends, ascends_without, beside-without, changed-beside, from_ascends, beside-pairs_from, pairs_from-by, pairs_from-same}

pub length-lists_of : (rows : List Row) (count : ℕ) → length (lists_of rows count) ≡ count
length-lists_of rows zero = refl
length-lists_of rows (suc before) = omega (arith, length-append (lists_of rows before) (pairs_from rows 0 (suc before) ∷ []), length-lists_of rows before)

-- rows with the same holders up to a number have the same lists
pub lists_of-same : (rows others : List Row) (count : ℕ) → ((number : ℕ) → number ≤ count → (k : ℕ) → holder_at (spans_of rows k) number ≡ holder_at (spans_of others k) number) → lists_of rows count ≡ lists_of others count
lists_of-same rows others zero same = refl
lists_of-same rows others (suc before) same =
    let rest : lists_of rows before ≡ lists_of others before = lists_of-same rows others before (λ number l. same number (omega arith)) in
    let last : pairs_from rows 0 (suc before) ≡ pairs_from others 0 (suc before) = pairs_from-same rows others (suc before) (same (suc before) (omega arith)) in
    cc (rest, last)

get_or-lists_of : (rows : List Row) (count k : ℕ) → k < count → get_or (lists_of rows count) k [] ≡ pairs_from rows 0 (suc k)
get_or-lists_of rows zero k l = absurd (omega arith)
get_or-lists_of rows (suc before) k l = elim (cases_eq k before) [
  | inl e ↦
      let last = get_or-append_seam (lists_of rows before) (pairs_from rows 0 (suc before)) [] [] in
      ap (λ (n : ℕ). get_or (lists_of rows (suc before)) n []) (e ∙ sym (length-lists_of rows before)) ∙ last ∙ ap (λ (n : ℕ). pairs_from rows 0 (suc n)) (sym e)
  | inr n ↦
      let within : k < length (lists_of rows before) = omega (arith, length-lists_of rows before) in
      get_or_append_left (lists_of rows before) (pairs_from rows 0 (suc before) ∷ []) [] k within ∙ get_or-lists_of rows before k (omega arith)
]

-- nobody holds anything at number 0
pub nobody_at_0 : (m : ℕ) (rows : List Row) → ((target : ℕ) → AreSpans m 0 (spans_of rows target)) → pairs_from rows 0 0 ≡ []
nobody_at_0 m rows are = pairs_from-by rows 0 0 [] tt (λ k target e. none_yet 0 (spans_of rows k) (above m 0 (spans_of rows k) (are k)))

pub allocation_at-lists_of : (m : ℕ) (rows : List Row) (count number : ℕ) → ((target : ℕ) → AreSpans m 0 (spans_of rows target)) → number ≤ count → allocation_at (lists_of rows count) number ≡ pairs_from rows 0 number
allocation_at-lists_of m rows count zero are l = sym (nobody_at_0 m rows are)
allocation_at-lists_of m rows count (suc before) are l = get_or-lists_of rows count before (omega arith)

allocation_at-past : (rows : List Row) (count number : ℕ) → count < number → allocation_at (lists_of rows count) number ≡ []
allocation_at-past rows count zero l = absurd (omega arith)
allocation_at-past rows count (suc before) l = get_or_past (lists_of rows count) before [] (omega (arith, length-lists_of rows count))

-- the current pairs are those of the last list
pub last_of-kept : (m : ℕ) (pairs : List (ℕ × ℕ)) (rows : List Row) → IsKept m pairs rows → pairs ≡ last_of (lists_of rows m)
last_of-kept m pairs rows kept = kept.current ∙ sym (allocation_at-lists_of m rows m m kept.spans (omega arith)) ∙ ap (allocation_at (lists_of rows m)) (sym (length-lists_of rows m))

pub holder_in-kept : (m : ℕ) (pairs : List (ℕ × ℕ)) (rows : List Row) (number target : ℕ) → IsKept m pairs rows → number ≤ m → holder_at (spans_of rows target) number ≡ holder_in (lists_of rows m) number target
holder_in-kept m pairs rows number target kept l =
    sym (beside-pairs_from rows 0 target number target (omega arith)) ∙ ap (λ (ps : List (ℕ × ℕ)). beside ps target) (sym (allocation_at-lists_of m rows m number kept.spans l))

pub holder_in-past : (m : ℕ) (rows : List Row) (number target : ℕ) → m < number → None ≡ holder_in (lists_of rows m) number target
holder_in-past m rows number target l = ap (λ (ps : List (ℕ × ℕ)). beside ps target) (sym (allocation_at-past rows m number l))

pub held_in-kept : (m : ℕ) (pairs : List (ℕ × ℕ)) (rows : List Row) (number collector : ℕ) → IsKept m pairs rows → number ≤ m → targets_of (pairs_from rows 0 number) collector ≡ held_in (lists_of rows m) number collector
held_in-kept m pairs rows number collector kept l = ap (λ (ps : List (ℕ × ℕ)). targets_of ps collector) (sym (allocation_at-lists_of m rows m number kept.spans l))

-- the start of a run is what is counted back to
pub since_of-run :
    (published : List (List (ℕ × ℕ))) (target collector number first : ℕ) → 0 < first → first ≤ number → ((k : ℕ) → first ≤ k → k < number → holder_in published k target ≡ Some collector) → holds (holder_in published (first - 1) target) collector ≡ false
    → since_of published target collector number ≡ first
since_of-run published target collector zero first some begun held fresh = absurd (omega arith)
since_of-run published target collector (suc before) first some begun held fresh = elim (cases_eq first (suc before)) [
  | inl e ↦
      let last : first - 1 ≡ before = omega (arith, e) in
      let none : holds (holder_in published before target) collector ≡ false = ap (λ (n : ℕ). holds (holder_in published n target) collector) (sym last) ∙ fresh in
      ap (λ (b : Bool). if b then since_of published target collector before else suc before) none ∙ sym e
  | inr n ↦
      let same : holds (holder_in published before target) collector ≡ true = ap (λ (o : Option ℕ). holds o collector) (held before (omega arith) (omega arith)) ∙ eq-eqb collector collector refl in
      ap (λ (b : Bool). if b then since_of published target collector before else suc before) same ∙ since_of-run published target collector before first some (omega arith) (λ k from to. held k from (omega arith)) fresh
]

-- what the spans say of the current number
pub held_since-kept :
    (m : ℕ) (pairs : List (ℕ × ℕ)) (rows : List Row) (target : ℕ) (found : Option ℕ) → IsKept m pairs rows → MatchOption found (holder_at (spans_of rows target) m ≡ None) (λ first. IsSince (spans_of rows target) m first)
    → found ≡ held_since (lists_of rows m) target
held_since-kept m pairs rows target found kept is = sym (ap (λ (n : ℕ). option_map (λ c. since_of lists target c n) (holder_in lists n target)) (length-lists_of rows m) ∙ by found is)
  where
    lists : List (List (ℕ × ℕ))
    lists = lists_of rows m

    at : (k : ℕ) → k ≤ m → holder_in lists k target ≡ holder_at (spans_of rows target) k
    at k l = sym (holder_in-kept m pairs rows k target kept l)

    by : (found : Option ℕ) → MatchOption found (holder_at (spans_of rows target) m ≡ None) (λ first. IsSince (spans_of rows target) m first) → option_map (λ c. since_of lists target c m) (holder_in lists m target) ≡ found
    by None none = ap (option_map (λ c. since_of lists target c m)) (at m (omega arith) ∙ none)
    by (Some first) (collector, run) =
        ap (option_map (λ c. since_of lists target c m)) (at m (omega arith) ∙ run.held m run.begun (omega arith))
        ∙ ap (λ (n : ℕ). Some n) (since_of-run lists target collector m first run.some run.begun (λ k from to. at k (omega arith) ∙ run.held k from (omega arith))
        (ap (λ (o : Option ℕ). holds o collector) (at (first - 1) (omega (arith, run.begun))) ∙ run.fresh))

-- rows that got room, and no span
pub kept-same : (m : ℕ) (pairs : List (ℕ × ℕ)) (rows others : List Row) → IsKept m pairs rows → ((k : ℕ) → spans_of others k ≡ spans_of rows k) → length others ≤ 4294967296 → IsKept m pairs others
kept-same m pairs rows others kept same most =
    record {
      current = kept.current ∙ pairs_from-same rows others m (λ k. ap (λ (s : List Span). holder_at s m) (sym (same k)));
      spans = λ target. subst (AreSpans m 0) (sym (same target)) (kept.spans target);
      most = most;
    }

pub lists_of-room : (rows others : List Row) (m : ℕ) → ((k : ℕ) → spans_of others k ≡ spans_of rows k) → lists_of others m ≡ lists_of rows m
lists_of-room rows others m same = lists_of-same others rows m (λ number l k. ap (λ (s : List Span). holder_at s number) (same k))

pub current_ascends : (m : ℕ) (pairs : List (ℕ × ℕ)) (rows : List Row) → IsKept m pairs rows → Ascends 0 pairs
current_ascends m pairs rows kept = subst (Ascends 0) (sym kept.current) (from_ascends rows 0 m)

-- the spans of each target follow, where what was dropped is closed and what was added is opened
pub followed :
    (m : ℕ) (old new : List (ℕ × ℕ)) (rows : List Row) → IsKept m old rows → AllPairs (λ (a b : ℕ × ℕ). a.0 < b.0) new → m + 1 ≤ 4294967295 → (k : ℕ) (spans : List Span)
    → spans ≡ changed (opened (m + 1)) (without old new) k (changed (λ (_ : ℕ). closed m) (without new old) k (spans_of rows k)) → Follows m (spans_of rows k) spans (beside new k)
followed m old new rows kept all most k spans is =
    let up_old : Ascends 0 old = current_ascends m old rows kept in
    let up_new : Ascends 0 new = ascends new all in
    let held : holder_at (spans_of rows k) m ≡ beside old k = sym (beside-pairs_from rows 0 k m k (omega arith)) ∙ ap (λ (ps : List (ℕ × ℕ)). beside ps k) (sym kept.current) in
    let closes : changed (λ (_ : ℕ). closed m) (without new old) k (spans_of rows k) ≡ change_by (λ (_ : ℕ). closed m) (newly (beside new k) (beside old k)) (spans_of rows k) =
    changed-beside (λ (_ : ℕ). closed m) (without new old) 0 k (spans_of rows k) (ascends_without new old 0 up_old) ∙ ap (λ (o : Option ℕ). change_by (λ (_ : ℕ). closed m) o (spans_of rows k)) (beside-without new old 0 k up_old) in
    let opens : spans ≡ after_change m (beside old k) (beside new k) (spans_of rows k) =
    is ∙ changed-beside (opened (m + 1)) (without old new) 0 k _ (ascends_without old new 0 up_new) ∙ ap (λ (o : Option ℕ). change_by (opened (m + 1)) o (changed (λ (_ : ℕ). closed m) (without new old) k (spans_of rows k))) (beside-without old new 0 k up_new)
    ∙ ap (change_by (opened (m + 1)) (newly (beside old k) (beside new k))) closes in
    subst (λ (s : List Span). Follows m (spans_of rows k) s (beside new k)) (sym opens) (follows m (beside old k) (beside new k) (spans_of rows k) (kept.spans k) most held)

-- all rows follow
abbrev pub AllFollow : ℕ → List (ℕ × ℕ) → List Row → List Row → Type 0
AllFollow m new rows others = (k : ℕ) → Follows m (spans_of rows k) (spans_of others k) (beside new k)

new_pairs : (m : ℕ) (new : List (ℕ × ℕ)) (rows others : List Row) → AllPairs (λ (a b : ℕ × ℕ). a.0 < b.0) new → AllFollow m new rows others → pairs_from others 0 (m + 1) ≡ new
new_pairs m new rows others all follow = pairs_from-by others 0 (m + 1) new (ascends new all) (λ k target e. (follow k).now_held ∙ ap (beside new) (omega arith))

pub kept_follow : (m : ℕ) (new : List (ℕ × ℕ)) (rows others : List Row) → AllPairs (λ (a b : ℕ × ℕ). a.0 < b.0) new → AllFollow m new rows others → length others ≤ 4294967296 → IsKept (m + 1) new others
kept_follow m new rows others all follow most = record { current = sym (new_pairs m new rows others all follow); spans = λ k. (follow k).are; most = most }

pub lists_follow : (m : ℕ) (new : List (ℕ × ℕ)) (rows others : List Row) → AllPairs (λ (a b : ℕ × ℕ). a.0 < b.0) new → AllFollow m new rows others → lists_of others (m + 1) ≡ lists_of rows m ++ new ∷ []
lists_follow m new rows others all follow =
    let last : pairs_from others 0 (suc m) ≡ new = ap (pairs_from others 0) (sym (add-one m)) ∙ new_pairs m new rows others all follow in
    let before : lists_of others m ≡ lists_of rows m = lists_of-same others rows m (λ number l k. (follow k).before number l) in
    ap (lists_of others) (add-one m) ∙ ap (λ (ps : List (ℕ × ℕ)). lists_of others m ++ ps ∷ []) last ∙ ap (λ (ls : List (List (ℕ × ℕ))). ls ++ new ∷ []) before

-- all rows follow, where room was made for some, some were closed and some were opened
pub all_follow :
    (m : ℕ) (old new : List (ℕ × ℕ)) (rows : List Row) → IsKept m old rows → AllPairs (λ (a b : ℕ × ℕ). a.0 < b.0) new → m + 1 ≤ 4294967295 → (dropped added : List (ℕ × ℕ)) (roomy shut others : List Row) → dropped ≡ without new old → added ≡ without old new
    → ((k : ℕ) → spans_of roomy k ≡ spans_of rows k) → ((k : ℕ) → spans_of shut k ≡ changed (λ (_ : ℕ). closed m) dropped k (spans_of roomy k)) → ((k : ℕ) → spans_of others k ≡ changed (opened (m + 1)) added k (spans_of shut k)) → AllFollow m new rows others
all_follow m old new rows kept all most dropped added roomy shut others is_dropped is_added room shuts opens k =
    followed m old new rows kept all most k (spans_of others k)
    (opens k ∙ ap (λ (ps : List (ℕ × ℕ)). changed (opened (m + 1)) ps k (spans_of shut k)) is_added
    ∙ ap (changed (opened (m + 1)) (without old new) k) (shuts k ∙ ap (λ (ps : List (ℕ × ℕ)). changed (λ (_ : ℕ). closed m) ps k (spans_of roomy k)) is_dropped ∙ ap (changed (λ (_ : ℕ). closed m) (without new old) k) (room k)))

pub on_err : {T E : Type 0} {P : Type 0} (r : Result T E) → P → OnErr r P
on_err (Ok x) p = tt
on_err (Err e) p = p

-- the current number is how many lists there are
pub current_is : (h : Handover) (m : ℕ) (rows : List Row) (taken : List (ℕ × ℕ)) → record { published = lists_of rows m; taken = taken } ≡ h → m ≡ length h.published
current_is h m rows taken e = sym (length-lists_of rows m) ∙ ap (λ (x : Handover). length x.published) e
