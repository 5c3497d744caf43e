-- How what was told grows: marks rise, and a target of which was told in a round stays told of.
use Rattle.std.proofs.Common.{◌≡◌, ℕ, zero, suc, ◌-◌, ◌<◌, ◌≤◌, ◌||◌, ◌&&◌, List, [], ◌∷◌, ◌++◌, Bool, true, false, Option, None, Some, nat_eq, cond, refl, sym, ap, subst, ◌∙◌, arith}
use Rattle.std.specs.Prelude.{◌==◌, is_some, not, nat_lt, max, unwrap_or, slice_get, filter, length}
use Rattle.std.specs.List.{list_any}
use Rattle.std.specs.Map.{lookup, values_of}
use Rattle.std.specs.Str.{bytes_eq}
use Rattle.std.proofs.lemmas.Bool.Decides.{nat_tests}
use Rattle.indexmap.specs.IndexMap.{insert_entry}
use Rattle.indexmap.specs.IndexSet.{insert_key}
use Rattle.agent_core.specs.Targets.{same_series}
use Rattle.agent_core.specs.Told.{Told, carried, greatest, is_later, is_open, mark_in, mark_of, marks_for, shared_mark, slot, with_marks, with_report}
use Rattle.agent_core.specs.declared.target.Series.{Series}
use Rattle.agent_core.specs.declared.target.Listed.{Listed}
use Rattle.agent_core.specs.declared.slot.Point.{Point}
use Rattle.agent_core.specs.declared.report.Report.{Report}

-- ---- series

bytes_same : (a : List ℕ) → bytes_eq a a ≡ true
bytes_same [] = refl
bytes_same (x ∷ xs) = grind (arith, nat_tests, bytes_same xs)

byte_are : (x y : ℕ) (rest : Bool) → (nat_eq x y && rest) ≡ true → x ≡ y
byte_are x y rest e = grind (arith, nat_tests, e)

rest_are : (b rest : Bool) → (b && rest) ≡ true → rest ≡ true
rest_are true rest e = e
rest_are false rest e = absurd (cc e)

bytes_are : (a b : List ℕ) → bytes_eq a b ≡ true → a ≡ b
bytes_are [] [] e = refl
bytes_are [] (y ∷ ys) e = absurd (cc e)
bytes_are (x ∷ xs) [] e = absurd (cc e)
bytes_are (x ∷ xs) (y ∷ ys) e = let first = byte_are x y (bytes_eq xs ys) e in let more = bytes_are xs ys (rest_are (nat_eq x y) (bytes_eq xs ys) e) in (λ i. first i ∷ more i)

pub series_same : (a : Series) → same_series a a ≡ true
series_same a = bytes_same a.labels

pub series_are : (a b : Series) → same_series a b ≡ true → a ≡ b
series_are a b e = let same = bytes_are a.labels b.labels e in (λ i. record { labels = same i })

-- ---- marks

both : (b : Bool) (v w : ℕ) (rest : Option ℕ) → cond b (Some v) rest ≡ cond b (Some v) (cond b (Some w) rest)
both true v w rest = refl
both false v w rest = refl

swapped : (a b : Bool) (v w : ℕ) (rest : Option ℕ) → (a ≡ true → b ≡ true → ⊥) → cond a (Some w) (cond b (Some v) rest) ≡ cond b (Some v) (cond a (Some w) rest)
swapped true true v w rest n = absurd (n refl refl)
swapped true false v w rest n = refl
swapped false true v w rest n = refl
swapped false false v w rest n = refl

-- where the series that is put in is the first one's, or not
lookup_put_by : (q k : Series) (v : ℕ) (e : Series × ℕ) (marks : List (Series × ℕ)) (one : Bool) → same_series k e.0 ≡ one
    → lookup (same_series q) (insert_entry same_series marks k v) ≡ cond (same_series q k) (Some v) (lookup (same_series q) marks)
    → lookup (same_series q) (cond one ((e.0, v) ∷ marks) (e ∷ insert_entry same_series marks k v)) ≡ cond (same_series q k) (Some v) (cond (same_series q e.0) (Some e.1) (lookup (same_series q) marks))
lookup_put_by q k v e marks true is rest =
    subst (λ (x : Series). cond (same_series q x) (Some v) (lookup (same_series q) marks) ≡ cond (same_series q k) (Some v) (cond (same_series q x) (Some e.1) (lookup (same_series q) marks))) (series_are k e.0 is)
    (both (same_series q k) v e.1 (lookup (same_series q) marks))
lookup_put_by q k v e marks false is rest =
    ap (λ (r : Option ℕ). cond (same_series q e.0) (Some e.1) r) rest
    ∙ swapped (same_series q e.0) (same_series q k) v e.1 (lookup (same_series q) marks)
    (λ a b. absurd (cc (is, ap (λ (x : Series). same_series x e.0) (sym (series_are q k b)) ∙ a)))

-- the value that was put in is the one that is found, and those of other series stay
pub lookup_put : (marks : List (Series × ℕ)) (k q : Series) (v : ℕ) → lookup (same_series q) (insert_entry same_series marks k v) ≡ cond (same_series q k) (Some v) (lookup (same_series q) marks)
lookup_put [] k q v = refl
lookup_put (e ∷ marks) k q v = lookup_put_by q k v e marks (same_series k e.0) refl (lookup_put marks k q v)

-- a later scrape that is told raises the mark of its series, and leaves the others
pub rises_told : (told : Told) (report : Report) → mark_of told report.series < report.time → (q : Series) → mark_of told q ≤ mark_of (with_report told report) q
rises_told told report later q =
    subst (λ (o : Option ℕ). mark_of told q ≤ unwrap_or o told.floor) (sym (lookup_put told.marks report.series q report.time)) (by (same_series q report.series) refl)
  where
    by : (b : Bool) → same_series q report.series ≡ b → mark_of told q ≤ unwrap_or (cond b (Some report.time) (lookup (same_series q) told.marks)) told.floor
    by true is = subst (λ (x : Series). mark_of told x ≤ report.time) (sym (series_are q report.series is)) (omega (arith, later))
    by false is = omega arith

pub mark_told : (told : Told) (report : Report) → mark_of (with_report told report) report.series ≡ report.time
mark_told told report =
    ap (λ (o : Option ℕ). unwrap_or o told.floor) (lookup_put told.marks report.series report.series report.time)
    ∙ ap (λ (b : Bool). unwrap_or (cond b (Some report.time) (lookup (same_series report.series) told.marks)) told.floor) (series_same report.series)

-- ---- marks of a list that is taken

floor_most : (times : List ℕ) (time : ℕ) → time ≤ greatest times time
floor_most [] time = omega arith
floor_most (t ∷ times) time = let h = floor_most times (max time t) in omega (arith, h)

mark_most_by : (b : Bool) (m : ℕ) (rest : Option ℕ) (times : List ℕ) (floor time : ℕ) → unwrap_or rest floor ≤ greatest times (max time m) → unwrap_or (cond b (Some m) rest) floor ≤ greatest times (max time m)
mark_most_by true m rest times floor time low = let h = floor_most times (max time m) in omega (arith, h)
mark_most_by false m rest times floor time low = low

mark_most : (marks : List (Series × ℕ)) (q : Series) (floor time : ℕ) → floor ≤ time → unwrap_or (lookup (same_series q) marks) floor ≤ greatest (values_of marks) time
mark_most [] q floor time low = low
mark_most (e ∷ marks) q floor time low =
    mark_most_by (same_series q e.0) e.1 (lookup (same_series q) marks) (values_of marks) floor time (mark_most marks q floor (max time e.1) (omega (arith, low)))

-- what is found is the mark, or later
abbrev IsUp : Told → List (Series × ℕ) → Type 0
IsUp told marks = (q : Series) (m : ℕ) → lookup (same_series q) marks ≡ Some m → mark_of told q ≤ m

up_put : (told : Told) (marks : List (Series × ℕ)) (x : Series) (v : ℕ) → mark_of told x ≤ v → IsUp told marks → IsUp told (insert_entry same_series marks x v)
up_put told marks x v low up q m found = by (same_series q x) refl (sym (lookup_put marks x q v) ∙ found)
  where
    by : (b : Bool) → same_series q x ≡ b → cond b (Some v) (lookup (same_series q) marks) ≡ Some m → mark_of told q ≤ m
    by true is e =
        let same = ap (λ (s : Series). mark_of told s) (series_are q x is) in
        let value : v ≡ m = cc e in
        omega (arith, low, same, value)
    by false is e = up q m e

-- no mark is behind the floor
abbrev IsFloor : Told → Type 0
IsFloor told = (q : Series) → mark_of told q ≤ told.floor

mark_in_up : (told : Told) (key : Series) (listed : Listed) → IsFloor told → mark_of told listed.series ≤ mark_in told key listed
mark_in_up told key listed floor = by (is_some (lookup (same_series key) told.marks) && not listed.shared)
  where
    by : (b : Bool) → mark_of told listed.series ≤ cond b told.floor (mark_of told listed.series)
    by true = floor listed.series
    by false = omega arith

up_with : (told : Told) (marks : List (Series × ℕ)) (listed : Listed) → IsFloor told → IsUp told marks → IsUp told (with_marks told marks listed)
up_with told marks listed floor up = by listed.shared
  where
    key : Series
    key = shared_mark listed.series

    more : List (Series × ℕ)
    more = insert_entry same_series marks listed.series (mark_in told key listed)

    up_more : IsUp told more
    up_more = up_put told marks listed.series (mark_in told key listed) (mark_in_up told key listed floor) up

    by : (b : Bool) → IsUp told (cond b (insert_entry same_series more key told.floor) more)
    by true = up_put told more key told.floor (floor key) up_more
    by false = up_more

up_for : (told : Told) (targets : List Listed) (marks : List (Series × ℕ)) → IsFloor told → IsUp told marks → IsUp told (marks_for told targets marks)
up_for told [] marks floor up = up
up_for told (listed ∷ targets) marks floor up = up_for told targets (with_marks told marks listed) floor (up_with told marks listed floor up)

floor_up : (o : Option ℕ) (floor more : ℕ) → floor ≤ more → unwrap_or o floor ≤ unwrap_or o more
floor_up None floor more low = low
floor_up (Some m) floor more low = omega arith

-- a floor that no mark is above
floor_is : (told : Told) (floor : ℕ) → greatest (values_of told.marks) told.floor ≤ floor → (p : Series) → unwrap_or (lookup (same_series p) told.marks) floor ≤ floor
floor_is told floor low p = by (lookup (same_series p) told.marks) refl
  where
    by : (o : Option ℕ) → lookup (same_series p) told.marks ≡ o → unwrap_or o floor ≤ floor
    by None e = omega arith
    by (Some m) e =
        let h = subst (λ (o : Option ℕ). unwrap_or o 0 ≤ greatest (values_of told.marks) told.floor) e (mark_most told.marks p 0 told.floor (omega arith)) in
        omega (arith, h, low)

-- a list that is taken lowers no mark
pub rises_carried : (told : Told) (at : ℕ) (targets : List Listed) (q : Series) → mark_of told q ≤ mark_of (carried told at targets) q
rises_carried told at targets q = by (lookup (same_series q) (marks_for later targets [])) refl
  where
    later : Told
    later = record told { floor = max at (greatest (values_of told.marks) told.floor) }

    floor : IsFloor later
    floor p = floor_is told later.floor (omega arith) p

    by : (o : Option ℕ) → lookup (same_series q) (marks_for later targets []) ≡ o → mark_of told q ≤ unwrap_or o later.floor
    by None found = let h = mark_most told.marks q told.floor told.floor (omega arith) in omega (arith, h)
    by (Some m) found =
        let is = up_for later targets [] floor (λ s n e. absurd (cc e)) q m found in
        let low = floor_most (values_of told.marks) told.floor in
        let up = floor_up (lookup (same_series q) told.marks) told.floor later.floor (omega (arith, low)) in
        omega (arith, is, up)

-- ---- rounds

or_more : (b rest more : Bool) → (rest ≡ true → more ≡ true) → (b || rest) ≡ true → (b || more) ≡ true
or_more true rest more f h = refl
or_more false rest more f h = f h

or_last : (b more : Bool) → more ≡ true → (b || more) ≡ true
or_last true more h = refl
or_last false more h = h

any_front : (xs : List ℕ) (new old : ℕ) → list_any (nat_eq old) xs ≡ true → list_any (nat_eq old) (xs ++ new ∷ []) ≡ true
any_front [] new old h = absurd (cc h)
any_front (x ∷ xs) new old h = or_more (nat_eq old x) (list_any (nat_eq old) xs) (list_any (nat_eq old) (xs ++ new ∷ [])) (any_front xs new old) h

any_last : (xs : List ℕ) (new : ℕ) → list_any (nat_eq new) (xs ++ new ∷ []) ≡ true
any_last [] new = grind (arith, nat_tests)
any_last (x ∷ xs) new = or_last (nat_eq new x) (list_any (nat_eq new) (xs ++ new ∷ [])) (any_last xs new)

any_more_by : (b : Bool) (targets : List ℕ) (new old : ℕ) → list_any (nat_eq old) targets ≡ true → list_any (nat_eq old) (cond b targets (targets ++ new ∷ [])) ≡ true
any_more_by true targets new old e = e
any_more_by false targets new old e = any_front targets new old e

any_more : (targets : List ℕ) (new old : ℕ) → list_any (nat_eq old) targets ≡ true → list_any (nat_eq old) (insert_key nat_eq targets new) ≡ true
any_more targets new old e = any_more_by (list_any (nat_eq new) targets) targets new old e

any_new_by : (b : Bool) (targets : List ℕ) (new : ℕ) → list_any (nat_eq new) targets ≡ b → list_any (nat_eq new) (cond b targets (targets ++ new ∷ [])) ≡ true
any_new_by true targets new e = e
any_new_by false targets new e = any_last targets new

any_new : (targets : List ℕ) (new : ℕ) → list_any (nat_eq new) (insert_key nat_eq targets new) ≡ true
any_new targets new = any_new_by (list_any (nat_eq new) targets) targets new refl

-- a round with a target, where this is the last one that was told, and whether the target is among its targets
abbrev open_at : ℕ → ℕ → ℕ → ℕ → Bool → Bool
open_at last_epoch last_round epoch round among = (nat_lt last_epoch epoch || (last_epoch == epoch && nat_lt last_round round)) || (last_epoch == epoch && last_round == round && not among)

closed_itself : (epoch round : ℕ) → open_at epoch round epoch round true ≡ false
closed_itself epoch round = grind (arith, nat_tests)

-- in the round that is told, what was told of stays told of
closed_same : (e r e' r' : ℕ) (among after : Bool) → open_at e r e' r' among ≡ false → (among ≡ true → after ≡ true) → open_at e r e' r' after ≡ false
closed_same e r e' r' true after closed more = grind (arith, nat_tests, closed, more refl)
closed_same e r e' r' false after closed more = grind (arith, nat_tests, closed)

-- a later round leaves what was told of before it
closed_later : (e r e' r' en rn : ℕ) (among after : Bool) → open_at e r e' r' among ≡ false → (nat_lt e en || (e == en && nat_lt r rn)) ≡ true → open_at en rn e' r' after ≡ false
closed_later e r e' r' en rn among after closed later = grind (arith, nat_tests, closed, later)

pub closed_told : (told : Told) (report : Report) → is_open (with_report told report) report.head.epoch report.head.round report.target ≡ false
closed_told told report =
    let all = cond (is_later told report.head.epoch report.head.round) [] told.targets in
    ap (λ (b : Bool). open_at report.head.epoch report.head.round report.head.epoch report.head.round b) (any_new all report.target) ∙ closed_itself report.head.epoch report.head.round

pub stays_closed : (told : Told) (report : Report) (epoch round target : ℕ) → is_open told report.head.epoch report.head.round report.target ≡ true → is_open told epoch round target ≡ false → is_open (with_report told report) epoch round target ≡ false
stays_closed told report epoch round target news closed = by (is_later told report.head.epoch report.head.round) refl
  where
    equal : (e r en rn : ℕ) (among : Bool) → (nat_lt e en || (e == en && nat_lt r rn)) ≡ false → open_at e r en rn among ≡ true → (e ≡ en) × (r ≡ rn)
    equal e r en rn among later o = (grind (arith, nat_tests, later, o), grind (arith, nat_tests, later, o))

    by : (b : Bool) → is_later told report.head.epoch report.head.round ≡ b
        → open_at report.head.epoch report.head.round epoch round (list_any (nat_eq target) (insert_key nat_eq (cond b [] told.targets) report.target)) ≡ false
    by true is = closed_later told.epoch told.round epoch round report.head.epoch report.head.round (list_any (nat_eq target) told.targets) (list_any (nat_eq target) (insert_key nat_eq [] report.target)) closed is
    by false is =
        let at = equal told.epoch told.round report.head.epoch report.head.round (list_any (nat_eq report.target) told.targets) is news in
        let same = closed_same told.epoch told.round epoch round (list_any (nat_eq target) told.targets) (list_any (nat_eq target) (insert_key nat_eq told.targets report.target)) closed (any_more told.targets report.target target) in
        subst (λ (r : ℕ). open_at report.head.epoch r epoch round (list_any (nat_eq target) (insert_key nat_eq told.targets report.target)) ≡ false) at.1
        (subst (λ (e : ℕ). open_at e told.round epoch round (list_any (nat_eq target) (insert_key nat_eq told.targets report.target)) ≡ false) at.0 same)

-- ---- the next scrape

passes_by : (test : Point → Bool) (p point : Point) (rest : List Point) (b : Bool) (i : ℕ) → test p ≡ b → ((j : ℕ) → slice_get rest j ≡ Some point → test point ≡ true) → slice_get (cond b (p ∷ rest) rest) i ≡ Some point → test point ≡ true
passes_by test p point rest true zero is more e = let same : p ≡ point = cc e in ap test (sym same) ∙ is
passes_by test p point rest true (suc i) is more e = more i e
passes_by test p point rest false i is more e = more i e

passes_at : (test : Point → Bool) (points : List Point) (i : ℕ) (point : Point) → slice_get (filter test points) i ≡ Some point → test point ≡ true
passes_at test [] i point e = absurd (cc e)
passes_at test (p ∷ points) i point e = passes_by test p point (filter test points) (test p) i refl (λ j f. passes_at test points j point f) e

pub slot_behind : (mark : ℕ) (points : List Point) (point : Point) → slot mark points ≡ Some point → mark < point.time
slot_behind mark points point e =
    let passes = passes_at (λ (p : Point). nat_lt mark p.time) points (length (filter (λ (p : Point). nat_lt mark p.time) points) - 2) point e in
    grind (arith, nat_tests, passes)
