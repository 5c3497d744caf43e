-- The bins that a target may use, collector by collector.
use Rattle.std.proofs.Common.{◌≡◌, ℕ, zero, suc, ◌+◌, ◌*◌, ◌<◌, Bool, true, false, List, [], ◌∷◌, ◌++◌, Option, Some, cond, drop, get_or, length, refl, sym, ap, ◌∙◌, append_assoc, arith}
use Rattle.std.specs.Prelude.{slice_get}
use Rattle.std.specs.Option.{option_map_or}
use Rattle.std.proofs.lemmas.List.{at_drop_more}
use Rattle.reach_rules.specs.Rules.{reaches}
use Rattle.fleet.specs.Reached.{reaches_in}
use Rattle.fleet.specs.declared.collector.Collector.{Collector}
use Rattle.fleet.specs.declared.known_target.KnownTarget.{KnownTarget}
use Rattle.fleet_assignment.specs.Instance.{row_from}

read_at : {X : Type 0} (xs : List X) (place : ℕ) (d : X) → place < length xs → slice_get xs place ≡ Some (get_or xs place d)
read_at [] place d within = absurd (omega arith)
read_at (x ∷ xs) zero d within = refl
read_at (x ∷ xs) (suc place) d within = read_at xs place d (omega arith)

-- what is asked of the rules of the collector at a place
asked_at : (collectors : List Collector) (known : List KnownTarget) (place number : ℕ) (d : Collector) (k : KnownTarget) → place < length collectors → slice_get known number ≡ Some k → reaches_in collectors known place number ≡ reaches (get_or collectors place d).reach k.target
asked_at collectors known place number d k within is =
    ap (λ (found : Option Collector). option_map_or (λ (c : Collector). option_map_or (λ (t : KnownTarget). reaches c.reach t.target) (slice_get known number) false) found false) (read_at collectors place d within)
    ∙ ap (λ (found : Option KnownTarget). option_map_or (λ (t : KnownTarget). reaches (get_or collectors place d).reach t.target) found false) is

row_next :
    (jobs place : ℕ) (collectors : List Collector) (known : List KnownTarget) (number : ℕ) (k : KnownTarget) (reached : Bool) → place < length collectors → slice_get known number ≡ Some k → reaches_in collectors known place number ≡ reached
    → row_from jobs place (drop place collectors) k ≡ cond reached ((place * jobs + k.job) ∷ row_from jobs (place + 1) (drop (place + 1) collectors) k) (row_from jobs (place + 1) (drop (place + 1) collectors) k)
row_next jobs place [] known number k reached within is asked = absurd (omega arith)
row_next jobs place (d ∷ collectors) known number k reached within is asked =
    let rest = row_from jobs (place + 1) (drop (place + 1) (d ∷ collectors)) k in
    at_drop_more (λ (cs : List Collector). row_from jobs place cs k) (d ∷ collectors) place d within
    ∙ ap (λ (b : Bool). cond b ((place * jobs + k.job) ∷ rest) rest) (sym (asked_at (d ∷ collectors) known place number d k within is) ∙ asked)

-- the collector at the place reaches the target
pub row_taken :
    (jobs place : ℕ) (collectors : List Collector) (known : List KnownTarget) (number bin : ℕ) (k : KnownTarget) (row all : List ℕ) → place < length collectors → slice_get known number ≡ Some k → reaches_in collectors known place number ≡ true → bin ≡ place * jobs + k.job
    → row ++ row_from jobs place (drop place collectors) k ≡ all → (row ++ bin ∷ []) ++ row_from jobs (place + 1) (drop (place + 1) collectors) k ≡ all
row_taken jobs place collectors known number bin k row all within is asked bin_is before =
    let rest = row_from jobs (place + 1) (drop (place + 1) collectors) k in
    append_assoc row (bin ∷ []) rest ∙ ap (λ (b : ℕ). row ++ b ∷ rest) bin_is ∙ ap (λ (bins : List ℕ). row ++ bins) (sym (row_next jobs place collectors known number k true within is asked)) ∙ before

-- it does not
pub row_passed :
    (jobs place : ℕ) (collectors : List Collector) (known : List KnownTarget) (number : ℕ) (k : KnownTarget) (row all : List ℕ) → place < length collectors → slice_get known number ≡ Some k → reaches_in collectors known place number ≡ false
    → row ++ row_from jobs place (drop place collectors) k ≡ all → row ++ row_from jobs (place + 1) (drop (place + 1) collectors) k ≡ all
row_passed jobs place collectors known number k row all within is asked before = ap (λ (bins : List ℕ). row ++ bins) (sym (row_next jobs place collectors known number k false within is asked)) ∙ before
