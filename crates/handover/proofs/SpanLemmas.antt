-- The spans of one target: who holds it, and what a publish makes of them.
use Rattle.std.proofs.Common.{◌≡◌, ℕ, zero, suc, ◌+◌, ◌-◌, ◌<◌, ◌≤◌, List, [], ◌∷◌, Bool, true, false, Option, Some, None, length, get_or, refl, sym, ap, ◌∙◌, inl, inr, arith}
use Rattle.std.proofs.Math.ListN.{set}
use Rattle.std.specs.Prelude.{◌==◌, if◌then◌else◌, nat_le}
use Rattle.std.specs.List.Sorted.{IsPartitionPoint, IsPartitionedBy}
use Rattle.std.proofs.lemmas.Bool.Decides.{nat_tests}
use Rattle.handover.specs.Handover.{holds}
use Rattle.handover.specs.Spans.{covers, holder_at, ended, closed, opened, HasEnd, AreSpans, IsHeldBy}
use Rattle.handover.specs.declared.spans.Span.{Span}

-- the last span is written
pub set-last : (number : ℕ) (spans : List Span) (i : ℕ) (d : Span) → suc i ≡ length spans → set spans i (ended number (get_or spans i d)) ≡ closed number spans
set-last number [] i d e = absurd (omega arith)
set-last number (s ∷ []) zero d e = refl
set-last number (s ∷ []) (suc i) d e = absurd (omega arith)
set-last number (s ∷ t ∷ spans) zero d e = absurd (omega arith)
set-last number (s ∷ t ∷ spans) (suc i) d e = ap (λ (r : List Span). s ∷ r) (set-last number (t ∷ spans) i d (omega arith))

-- the last span of a list is written as it ends
pub closed-from_set : (number : ℕ) (spans : List Span) (old new : Span) → 0 < length spans → old ≡ get_or spans (length spans - 1) old → new ≡ ended number old → set spans (length spans - 1) new ≡ closed number spans
closed-from_set number spans old new some e n = ap (λ (s : Span). set spans (length spans - 1) s) (n ∙ ap (ended number) e) ∙ set-last number spans (length spans - 1) old (omega arith)

pub above : (m a : ℕ) (spans : List Span) → AreSpans m a spans → (k : ℕ) (d : Span) → k < length spans → a < (get_or spans k d).first
above m a [] are k d l = absurd (omega arith)
above m a (s ∷ spans) are zero d l = are.0
above m a (s ∷ spans) are (suc k) d l = omega (arith, are.0, are.1, above m s.last spans are.4 k d (omega arith))

pub rising : (m a : ℕ) (spans : List Span) → AreSpans m a spans → (i j : ℕ) (d : Span) → i ≤ j → j < length spans → (get_or spans i d).first ≤ (get_or spans j d).first
rising m a [] are i j d o l = absurd (omega arith)
rising m a (s ∷ spans) are zero zero d o l = omega arith
rising m a (s ∷ spans) are zero (suc j) d o l = omega (arith, are.1, above m s.last spans are.4 j d (omega arith))
rising m a (s ∷ spans) are (suc i) zero d o l = absurd (omega arith)
rising m a (s ∷ spans) are (suc i) (suc j) d o l = rising m s.last spans are.4 i j d (omega arith) (omega arith)

pub none_yet : (n : ℕ) (spans : List Span) → ((k : ℕ) (d : Span) → k < length spans → n < (get_or spans k d).first) → holder_at spans n ≡ None
none_yet n [] later = refl
none_yet n (s ∷ spans) later =
    let here : n < s.first = later 0 s (omega arith) in
    let rest : holder_at spans n ≡ None = none_yet n spans (λ k d l. later (suc k) d (omega arith)) in
    grind (arith, nat_tests, here, rest)

-- the last span that began decides
pub last_begun :
    (m a n : ℕ) (spans : List Span) (i : ℕ) (d : Span) → AreSpans m a spans → i < length spans → ((k : ℕ) → k ≤ i → (get_or spans k d).first ≤ n) → ((k : ℕ) (e : Span) → i < k → k < length spans → n < (get_or spans k e).first)
    → holder_at spans n ≡ holder_at (get_or spans i d ∷ []) n
last_begun m a n [] i d are l begun later = absurd (omega arith)
last_begun m a n (s ∷ spans) zero d are l begun later =
    let rest : holder_at spans n ≡ None = none_yet n spans (λ k e l. later (suc k) e (omega arith) (omega arith)) in
    ap (λ (o : Option ℕ). if covers s n then Some s.collector else o) rest
last_begun m a n (s ∷ []) (suc i) d are l begun later = absurd (omega arith)
last_begun m a n (s ∷ t ∷ spans) (suc i) d are l begun later =
    let next : t.first ≤ n = begun 1 (omega arith) in
    let apart : s.last < t.first = are.4.0 in
    let rest : holder_at (t ∷ spans) n ≡ holder_at (get_or (t ∷ spans) i d ∷ []) n = last_begun m s.last n (t ∷ spans) i d are.4 (omega arith) (λ k o. begun (suc k) (omega arith)) (λ k e o l. later (suc k) e (omega arith) (omega arith)) in
    skip s n (holder_at (t ∷ spans) n) (omega arith) ∙ rest
  where
    skip : (s : Span) (n : ℕ) (o : Option ℕ) → s.last < n → (if covers s n then Some s.collector else o) ≡ o
    skip s n o l = grind (arith, nat_tests, l)

-- what ends at a number changes nothing up to it
pub holder_at-closed : (m n : ℕ) (spans : List Span) → n ≤ m → m ≤ 4294967295 → holder_at (closed m spans) n ≡ holder_at spans n
holder_at-closed m n [] l most = refl
holder_at-closed m n (s ∷ []) l most = grind (arith, nat_tests)
holder_at-closed m n (s ∷ t ∷ spans) l most = ap (λ (o : Option ℕ). if covers s n then Some s.collector else o) (holder_at-closed m n (t ∷ spans) l most)

-- all spans end before a number
abbrev pub ArePast : ℕ → List Span → Type 0
ArePast m [] = Unit {0}
ArePast m (s ∷ spans) = (s.last < m) × ArePast m spans

pub past_none : (m : ℕ) (spans : List Span) → ArePast m spans → holder_at spans m ≡ None
past_none m [] past = refl
past_none m (s ∷ spans) past =
    let rest : holder_at spans m ≡ None = past_none m spans past.1 in
    grind (arith, nat_tests, past.0, rest)

ended_past : (m : ℕ) (s : Span) → HasEnd m s.last → m ≤ 4294967295 → (ended m s).last < m + 1
ended_past m s (inl l) most = grind (arith, nat_tests)
ended_past m s (inr e) most = grind (arith, nat_tests)

ended_first : (m : ℕ) (s : Span) → (ended m s).first ≡ s.first
ended_first m s = by (s.last == 4294967295)
  where
    by : (b : Bool) → (if b then record s { last = m } else s).first ≡ s.first
    by true = refl
    by false = refl

ended_some : (m : ℕ) (s : Span) → HasEnd m s.last → s.first ≤ s.last → s.first ≤ m → s.first ≤ (ended m s).last
ended_some m s (inl l) some most = grind (arith, nat_tests)
ended_some m s (inr e) some most = grind (arith, nat_tests)

pub closed_past : (m a : ℕ) (spans : List Span) → AreSpans m a spans → m ≤ 4294967295 → ArePast (m + 1) (closed m spans)
closed_past m a [] are most = tt
closed_past m a (s ∷ []) are most = (ended_past m s are.3 most, tt)
closed_past m a (s ∷ t ∷ spans) are most = (omega (arith, are.4.0, are.4.2), closed_past m s.last (t ∷ spans) are.4 most)

pub closed_are : (m a b : ℕ) (spans : List Span) → AreSpans m b spans → a ≤ b → m ≤ 4294967295 → AreSpans (m + 1) a (closed m spans)
closed_are m a b [] are o most = tt
closed_are m a b (s ∷ []) are o most =
    let first = ended_first m s in
    let last = ended_past m s are.3 most in
    let some = ended_some m s are.3 are.1 are.2 in
    (omega (arith, are.0, first), omega (arith, first, some), omega (arith, are.2, first), inl last, tt)
closed_are m a b (s ∷ t ∷ spans) are o most = (omega (arith, are.0), are.1, omega (arith, are.2), inl (omega (arith, are.4.0, are.4.2)), closed_are m s.last s.last (t ∷ spans) are.4 (omega arith) most)

pub opened_are : (m a c : ℕ) (spans : List Span) → AreSpans m a spans → ArePast m spans → a < m → m ≤ 4294967295 → AreSpans m a (opened m c spans)
opened_are m a c [] are past o most = (o, most, omega arith, inr refl, tt)
opened_are m a c (s ∷ spans) are past o most = (are.0, are.1, are.2, are.3, opened_are m s.last c spans are.4 past.1 past.0 most)

pub opened_before : (m c n : ℕ) (spans : List Span) → n < m → holder_at (opened m c spans) n ≡ holder_at spans n
opened_before m c n [] l = grind (arith, nat_tests)
opened_before m c n (s ∷ spans) l = ap (λ (o : Option ℕ). if covers s n then Some s.collector else o) (opened_before m c n spans l)

pub opened_now : (m c : ℕ) (spans : List Span) → ArePast m spans → m ≤ 4294967295 → holder_at (opened m c spans) m ≡ Some c
opened_now m c [] past most = grind (arith, nat_tests)
opened_now m c (s ∷ spans) past most =
    let rest : holder_at (opened m c spans) m ≡ Some c = opened_now m c spans past.1 most in
    skip s m (holder_at (opened m c spans) m) past.0 ∙ rest
  where
    skip : (s : Span) (n : ℕ) (o : Option ℕ) → s.last < n → (if covers s n then Some s.collector else o) ≡ o
    skip s n o l = grind (arith, nat_tests, l)

-- the next number finds all spans as they are
pub later_are : (m a : ℕ) (spans : List Span) → AreSpans m a spans → AreSpans (m + 1) a spans
later_are m a [] are = tt
later_are m a (s ∷ spans) are = (are.0, are.1, omega (arith, are.2), later are.3, later_are m s.last spans are.4)
  where
    later : HasEnd m s.last → HasEnd (m + 1) s.last
    later (inl l) = inl (omega arith)
    later (inr e) = inr e

later_step : (m : ℕ) (s : Span) (before after : Option ℕ) → HasEnd m s.last → s.first ≤ m → m + 1 ≤ 4294967295 → after ≡ before → (if covers s (m + 1) then Some s.collector else after) ≡ (if covers s m then Some s.collector else before)
later_step m s before after (inl l) first most rest = grind (arith, nat_tests, rest, first)
later_step m s before after (inr e) first most rest = grind (arith, nat_tests, rest, first)

pub later_same : (m a : ℕ) (spans : List Span) → AreSpans m a spans → m + 1 ≤ 4294967295 → holder_at spans (m + 1) ≡ holder_at spans m
later_same m a [] are most = refl
later_same m a (s ∷ spans) are most = later_step m s (holder_at spans m) (holder_at spans (m + 1)) are.3 are.2 most (later_same m s.last spans are.4 most)

-- without a holder at the current number all spans are over
none_step : (m : ℕ) (s : Span) (o : Option ℕ) → HasEnd m s.last → s.first ≤ m → m ≤ 4294967295 → (if covers s m then Some s.collector else o) ≡ None → (s.last < m + 1) × (o ≡ None)
none_step m s o (inl l) first most none = (omega arith, grind (arith, nat_tests, none))
none_step m s o (inr e) first most none =
    let here : (if covers s m then Some s.collector else o) ≡ Some s.collector = grind (arith, nat_tests, first) in
    absurd (cc (here, none))

pub none_past : (m a : ℕ) (spans : List Span) → AreSpans m a spans → m ≤ 4294967295 → holder_at spans m ≡ None → ArePast (m + 1) spans
none_past m a [] are most none = tt
none_past m a (s ∷ spans) are most none =
    let step = none_step m s (holder_at spans m) are.3 are.2 most none in
    (step.0, none_past m s.last spans are.4 most step.1)

-- what the next number makes of the spans of a target
pub record Follows (m : ℕ) (spans new : List Span) (now : Option ℕ) : Type 0 where
  pub before : (n : ℕ) → n ≤ m → holder_at new n ≡ holder_at spans n
  pub now_held : holder_at new (m + 1) ≡ now
  pub are : AreSpans (m + 1) 0 new

-- a holder, where it was not so before
abbrev pub newly : Option ℕ → Option ℕ → Option ℕ
newly before None = None
newly before (Some c) = if holds before c then None else Some c

-- a change, where there is one
abbrev pub change_by : (ℕ → List Span → List Span) → Option ℕ → List Span → List Span
change_by change None spans = spans
change_by change (Some c) spans = change c spans

same_follows : (m : ℕ) (spans : List Span) (o : Option ℕ) → AreSpans m 0 spans → m + 1 ≤ 4294967295 → holder_at spans m ≡ o → Follows m spans spans o
same_follows m spans o are most held = record { before = λ n l. refl; now_held = later_same m 0 spans are most ∙ held; are = later_are m 0 spans are }

closed_follows : (m : ℕ) (spans : List Span) → AreSpans m 0 spans → m + 1 ≤ 4294967295 → Follows m spans (closed m spans) None
closed_follows m spans are most =
    let within : m ≤ 4294967295 = omega arith in
    record {
      before = λ n l. holder_at-closed m n spans l within;
      now_held = past_none (m + 1) (closed m spans) (closed_past m 0 spans are within);
      are = closed_are m 0 0 spans are (omega arith) within;
    }

opened_follows : (m c : ℕ) (spans : List Span) → AreSpans m 0 spans → m + 1 ≤ 4294967295 → holder_at spans m ≡ None → Follows m spans (opened (m + 1) c spans) (Some c)
opened_follows m c spans are most none =
    let within : m ≤ 4294967295 = omega arith in
    let past : ArePast (m + 1) spans = none_past m 0 spans are within none in
    record {
      before = λ n l. opened_before (m + 1) c n spans (omega arith);
      now_held = opened_now (m + 1) c spans past most;
      are = opened_are (m + 1) 0 c spans (later_are m 0 spans are) past (omega arith) most;
    }

exchanged_follows : (m c : ℕ) (spans : List Span) → AreSpans m 0 spans → m + 1 ≤ 4294967295 → Follows m spans (opened (m + 1) c (closed m spans)) (Some c)
exchanged_follows m c spans are most =
    let within : m ≤ 4294967295 = omega arith in
    let past : ArePast (m + 1) (closed m spans) = closed_past m 0 spans are within in
    record {
      before = λ n l. opened_before (m + 1) c n (closed m spans) (omega arith) ∙ holder_at-closed m n spans l within;
      now_held = opened_now (m + 1) c (closed m spans) past most;
      are = opened_are (m + 1) 0 c (closed m spans) (closed_are m 0 0 spans are (omega arith) within) past (omega arith) most;
    }

-- the spans of a target whose holder was o and is w from the next number on
abbrev pub after_change : ℕ → Option ℕ → Option ℕ → List Span → List Span
after_change m o w spans = change_by (opened (m + 1)) (newly o w) (change_by (λ (_ : ℕ). closed m) (newly w o) spans)

both_follow :
    (m c d : ℕ) (spans : List Span) (a b : Bool) → (c == d) ≡ a → (d == c) ≡ b → AreSpans m 0 spans → m + 1 ≤ 4294967295 → holder_at spans m ≡ Some c
    → Follows m spans (change_by (opened (m + 1)) (if a then None else Some d) (change_by (λ (_ : ℕ). closed m) (if b then None else Some c) spans)) (Some d)
both_follow m c d spans true true e f are most held =
    let same : c ≡ d = grind (arith, nat_tests) in
    same_follows m spans (Some d) are most (held ∙ ap (λ (x : ℕ). Some x) same)
both_follow m c d spans true false e f are most held = absurd (grind (arith, nat_tests))
both_follow m c d spans false true e f are most held = absurd (grind (arith, nat_tests))
both_follow m c d spans false false e f are most held = exchanged_follows m d spans are most

pub follows : (m : ℕ) (o w : Option ℕ) (spans : List Span) → AreSpans m 0 spans → m + 1 ≤ 4294967295 → holder_at spans m ≡ o → Follows m spans (after_change m o w spans) w
follows m None None spans are most held = same_follows m spans None are most held
follows m None (Some d) spans are most held = opened_follows m d spans are most held
follows m (Some c) None spans are most held = closed_follows m spans are most
follows m (Some c) (Some d) spans are most held = both_follow m c d spans (c == d) (d == c) refl refl are most held

-- the spans that began by a number come first
pub parted : (m n : ℕ) (spans : List Span) → AreSpans m 0 spans → IsPartitionedBy (λ (s : Span). nat_le s.first n) spans
parted m n spans are i j d o l begun =
    let order = rising m 0 spans are i j d o l in
    grind (arith, nat_tests, order, begun)

pub by_parts :
    (m n : ℕ) (spans : List Span) (i : ℕ) (d : Span) → AreSpans m 0 spans → IsPartitionPoint (λ (s : Span). nat_le s.first n ≡ true) (λ (s : Span). nat_le s.first n ≡ false) spans i → i ≤ length spans → 0 < i
    → holder_at spans n ≡ holder_at (get_or spans (i - 1) d ∷ []) n
by_parts m n spans i d are parts bound some =
    last_begun m 0 n spans (i - 1) d are (omega arith) (λ k o. grind (arith, nat_tests, parts.0 k d (omega arith) (omega arith))) (λ k e o l. grind (arith, nat_tests, parts.1 k e (omega arith) l))

-- the span found ends before the number, or has it
pub found_some : (m n : ℕ) (spans : List Span) (i : ℕ) (d : Span) → AreSpans m 0 spans → IsPartitionPoint (λ (s : Span). nat_le s.first n ≡ true) (λ (s : Span). nat_le s.first n ≡ false) spans i → i ≤ length spans → 0 < i → n ≤ (get_or spans (i - 1) d).last → Some (get_or spans (i - 1) d).collector ≡ holder_at spans n
found_some m n spans i d are parts bound some l =
    let first = parts.0 (i - 1) d (omega arith) (omega arith) in
    let whole = by_parts m n spans i d are parts bound some in
    one (get_or spans (i - 1) d) n first l ∙ sym whole
  where
    one : (s : Span) (n : ℕ) → nat_le s.first n ≡ true → n ≤ s.last → Some s.collector ≡ holder_at (s ∷ []) n
    one s n f l = grind (arith, nat_tests, f, l)

pub found_none : (m n : ℕ) (spans : List Span) (i : ℕ) (d : Span) → AreSpans m 0 spans → IsPartitionPoint (λ (s : Span). nat_le s.first n ≡ true) (λ (s : Span). nat_le s.first n ≡ false) spans i → i ≤ length spans → 0 < i → (get_or spans (i - 1) d).last < n → None ≡ holder_at spans n
found_none m n spans i d are parts bound some l =
    let whole = by_parts m n spans i d are parts bound some in
    one (get_or spans (i - 1) d) n l ∙ sym whole
  where
    one : (s : Span) (n : ℕ) → s.last < n → None ≡ holder_at (s ∷ []) n
    one s n l = grind (arith, nat_tests, l)

pub found_nothing : (n : ℕ) (spans : List Span) (i : ℕ) → IsPartitionPoint (λ (s : Span). nat_le s.first n ≡ true) (λ (s : Span). nat_le s.first n ≡ false) spans i → i ≡ 0 → None ≡ holder_at spans n
found_nothing n spans i parts z = sym (none_yet n spans (λ k d l. grind (arith, nat_tests, parts.1 k d (omega arith) l)))

-- the span found has its collector for holder from its first number on
pub found_run :
    (m n : ℕ) (spans : List Span) (i : ℕ) (d : Span) → AreSpans m 0 spans → IsPartitionPoint (λ (s : Span). nat_le s.first n ≡ true) (λ (s : Span). nat_le s.first n ≡ false) spans i → i ≤ length spans → 0 < i → n ≤ (get_or spans (i - 1) d).last
    → IsHeldBy spans n (get_or spans (i - 1) d)
found_run m n spans i d are parts bound some l =
    let first : nat_le (get_or spans (i - 1) d).first n ≡ true = parts.0 (i - 1) d (omega arith) (omega arith) in
    let begun : (get_or spans (i - 1) d).first ≤ n = grind (arith, nat_tests, first) in
    record {
      some = above m 0 spans are (i - 1) d (omega arith);
      begun = begun;
      held = λ k from to.
          last_begun m 0 k spans (i - 1) d are (omega arith) (λ j o. let order = rising m 0 spans are j (i - 1) d o (omega arith) in omega (arith, order, from))
          (λ j e o w. let later : n < (get_or spans j e).first = grind (arith, nat_tests, parts.1 j e (omega arith) w) in omega (arith, later, to))
          ∙ one (get_or spans (i - 1) d) k from (omega (arith, to, l));
    }
  where
    one : (s : Span) (k : ℕ) → s.first ≤ k → k ≤ s.last → holder_at (s ∷ []) k ≡ Some s.collector
    one s k f l = grind (arith, nat_tests, f, l)
