-- The rows of a fleet's collectors over its known targets: after a change, and what is read of them.
use Rattle.std.proofs.Common.{◌≡◌, ℕ, zero, suc, List, [], ◌∷◌, ◌++◌, Bool, Option, None, Some, true, false, cond, drop, length, map, take, refl, sym, ap, ◌∙◌, arith}
use Rattle.std.specs.Prelude.{◌==◌, filter, not, slice_get, slice_index_or}
use Rattle.std.specs.Option.{option_map, option_map_or}
use Rattle.std.proofs.Math.Seq.{take-append_seam}
use Rattle.std.proofs.lemmas.List.{length-map, map-append, take-append-drop}
use Rattle.label_sets.specs.Target.{FinalTarget}
use Rattle.reach_rules.specs.declared.rule.ReachRule.{ReachRule}
use Rattle.reach_rules.specs.Rules.{reaches}
use Rattle.reach_rules.specs.Table.{ReachRow, answers, is_reached_at, reached_in, row_as, row_like, row_of, rows_without}
use Rattle.fleet.specs.Reached.{reach_rows, reaches_in, rows_with, target_at, targets_at, targets_of}
use Rattle.fleet.specs.declared.known_target.KnownTarget.{KnownTarget}
use Rattle.fleet.specs.declared.collector.Collector.{Collector}

rows_more : (collectors : List Collector) (known more : List KnownTarget) → rows_with (reach_rows collectors known) more ≡ reach_rows collectors (known ++ more)
rows_more [] known more = refl
rows_more (c ∷ collectors) known more =
    let all : answers c.reach (targets_of known) ++ answers c.reach (targets_of more) ≡ answers c.reach (targets_of (known ++ more)) =
    sym (ap (λ (ts : List FinalTarget). answers c.reach ts) (map-append (λ (k : KnownTarget). k.target) known more) ∙ map-append (reaches c.reach) (targets_of known) (targets_of more)) in
    rw (all, rows_more collectors known more) refl

-- where more targets are known
pub rows_grown : (collectors : List Collector) (known new : List KnownTarget) → take (length known) new ≡ known → rows_with (reach_rows collectors known) (drop (length known) new) ≡ reach_rows collectors new
rows_grown collectors known new front =
    rows_more collectors known (drop (length known) new)
    ∙ ap (λ (ks : List KnownTarget). reach_rows collectors (ks ++ drop (length known) new)) (sym front)
    ∙ ap (λ (ks : List KnownTarget). reach_rows collectors ks) (take-append-drop (length known) new)

left_by : (stays : Bool) (row : ReachRow) (c : Collector) (rows : List ReachRow) (collectors : List Collector) (known : List KnownTarget) → row ≡ row_of c.id c.reach (targets_of known) → rows ≡ reach_rows collectors known → cond stays (row ∷ rows) rows ≡ reach_rows (cond stays (c ∷ collectors) collectors) known
left_by true row c rows collectors known first rest = rw (first, rest) refl
left_by false row c rows collectors known first rest = rest

-- where a collector left
pub rows_left : (collectors : List Collector) (known : List KnownTarget) (id : ℕ) → rows_without (reach_rows collectors known) id ≡ reach_rows (filter (λ (c : Collector). not (c.id == id)) collectors) known
rows_left [] known id = refl
rows_left (c ∷ collectors) known id =
    left_by (not (c.id == id)) (row_of c.id c.reach (targets_of known)) c (rows_without (reach_rows collectors known) id) (filter (λ (c : Collector). not (c.id == id)) collectors) known refl (rows_left collectors known id)

-- where a collector joined
pub rows_joined : (collectors : List Collector) (c : Collector) (known : List KnownTarget) → reach_rows collectors known ++ row_of c.id c.reach (targets_of known) ∷ [] ≡ reach_rows (collectors ++ c ∷ []) known
rows_joined collectors c known = sym (map-append (λ (x : Collector). row_of x.id x.reach (targets_of known)) collectors (c ∷ []))

rows_same : (f : Collector → Collector) → ((c : Collector) → (f c).id ≡ c.id) → ((c : Collector) → (f c).reach ≡ c.reach) → (collectors : List Collector) (known : List KnownTarget) → reach_rows (map f collectors) known ≡ reach_rows collectors known
rows_same f id reach [] known = refl
rows_same f id reach (c ∷ collectors) known = rw (id c, reach c, rows_same f id reach collectors known) refl

-- where a slice of all collectors was written to, but for their numbers and reaches
pub rows_written :
    (rows : List ReachRow) (known : List KnownTarget) (collectors : List Collector) (f : Collector → Collector) (count : ℕ) (lent written : List Collector) → lent ≡ collectors → length lent ≡ count → written ≡ map f lent
    → ((c : Collector) → (f c).id ≡ c.id) → ((c : Collector) → (f c).reach ≡ c.reach) → rows ≡ reach_rows collectors known → rows ≡ reach_rows (take count (written ++ drop (length written) collectors)) known
rows_written rows known collectors f count lent written all many is id reach before =
    let changed : written ≡ map f collectors = rw all at is in
    let whole : count ≡ length (map f collectors) = omega (arith, many, ap (λ (cs : List Collector). length cs) all, length-map collectors f) in
    rw (changed, whole, take-append_seam) (before ∙ sym (rows_same f id reach collectors known))

answer_at : (rules : List ReachRule) (known : List KnownTarget) (number : ℕ) → slice_index_or (answers rules (targets_of known)) number false ≡ option_map_or (λ (k : KnownTarget). reaches rules k.target) (slice_get known number) false
answer_at rules [] number = refl
answer_at rules (k ∷ known) zero = refl
answer_at rules (k ∷ known) (suc number) = answer_at rules known number

-- what is read of the rows is what the rules say
pub read_at : (collectors : List Collector) (known : List KnownTarget) (place number : ℕ) → is_reached_at (reach_rows collectors known) place number ≡ reaches_in collectors known place number
read_at [] known place number = refl
read_at (c ∷ collectors) known zero number = answer_at c.reach known number
read_at (c ∷ collectors) known (suc place) number = read_at collectors known place number

-- of what is not there nothing is reached
abbrev told : List ReachRule → Option FinalTarget → Bool
told rules target = option_map_or (reaches rules) target false

told_of : (rules : List ReachRule) (o : Option KnownTarget) → option_map_or (λ (k : KnownTarget). reaches rules k.target) o false ≡ told rules (option_map (λ (k : KnownTarget). k.target) o)
told_of rules None = refl
told_of rules (Some k) = refl

told_by :
    (rules : List ReachRule) (others : List KnownTarget) (number : ℕ) (o : Option Collector) → option_map (λ (c : Collector). c.reach) o ≡ Some rules
    → option_map_or (λ (c : Collector). option_map_or (λ (k : KnownTarget). reaches c.reach k.target) (slice_get others number) false) o false ≡ told rules (target_at others number)
told_by rules others number None e = absurd (cc e)
told_by rules others number (Some c) e =
    let same : c.reach ≡ rules = cc e in
    rw same (told_of rules (slice_get others number))

told_at :
    (rules : List ReachRule) (collectors : List Collector) (others : List KnownTarget) (place : ℕ) (numbers : List ℕ) → option_map (λ (c : Collector). c.reach) (slice_get collectors place) ≡ Some rules
    → map (is_reached_at (reach_rows collectors others) place) numbers ≡ map (told rules) (targets_at others numbers)
told_at rules collectors others place [] e = refl
told_at rules collectors others place (number ∷ numbers) e =
    rw (read_at collectors others place number ∙ told_by rules others number (slice_get collectors place) e, told_at rules collectors others place numbers e) refl

told_all : (rules : List ReachRule) (targets : List FinalTarget) → map (told rules) (map Some targets) ≡ answers rules targets
told_all rules [] = refl
told_all rules (target ∷ targets) = ap (λ (bits : List Bool). reaches rules target ∷ bits) (told_all rules targets)

-- the row of a collector with the rules of a place, where the known targets are those of these numbers among others
pub row_from :
    (id : ℕ) (rules : List ReachRule) (rows : List ReachRow) (collectors : List Collector) (others known : List KnownTarget) (place : ℕ) (numbers : List ℕ) → rows ≡ reach_rows collectors others
    → option_map (λ (c : Collector). c.reach) (slice_get collectors place) ≡ Some rules → targets_at others numbers ≡ map Some (targets_of known) → row_as id rules rows place numbers ≡ row_of id rules (targets_of known)
row_from id rules rows collectors others known place numbers all same targets =
    let reached : map (is_reached_at rows place) numbers ≡ answers rules (targets_of known) =
    rw all (told_at rules collectors others place numbers same ∙ ap (λ (os : List (Option FinalTarget)). map (told rules) os) targets ∙ told_all rules (targets_of known)) in
    ap (λ (bits : List Bool). (let row : ReachRow = record { id = id; rules = rules; reached = bits } in row)) reached

reached_there : (collectors : List Collector) (known : List KnownTarget) (place : ℕ) (rules : List ReachRule) → option_map (λ (c : Collector). c.reach) (slice_get collectors place) ≡ Some rules → reached_in (reach_rows collectors known) place ≡ answers rules (targets_of known)
reached_there [] known place rules e = absurd (cc e)
reached_there (c ∷ collectors) known zero rules e =
    let same : c.reach ≡ rules = cc e in
    ap (λ (r : List ReachRule). answers r (targets_of known)) same
reached_there (c ∷ collectors) known (suc place) rules e = reached_there collectors known place rules e

-- the row of a collector with the rules of one that joined before
pub row_copied : (id : ℕ) (rules : List ReachRule) (rows : List ReachRow) (collectors : List Collector) (known : List KnownTarget) (place : ℕ) → rows ≡ reach_rows collectors known → option_map (λ (c : Collector). c.reach) (slice_get collectors place) ≡ Some rules → row_like id rules rows place ≡ row_of id rules (targets_of known)
row_copied id rules rows collectors known place all same =
    let reached : reached_in rows place ≡ answers rules (targets_of known) = rw all (reached_there collectors known place rules same) in
    ap (λ (bits : List Bool). (let row : ReachRow = record { id = id; rules = rules; reached = bits } in row)) reached
