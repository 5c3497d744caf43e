-- What shifts keep.
use Rattle.std.proofs.Common.{◌≡◌, ◌+◌, ◌<◌, ◌≤◌, ◌≢◌, ℕ, cond, eqb, Bool, List, [], ◌∷◌, All, Option, Some, None, IfSome, inl, inr, length, get_or, set, refl, sym, ap, ◌∙◌, subst, arith}
use Rattle.std.proofs.lemmas.List.{get_or_past, get_or-set_same, get_or-set_other, length-set}
use Rattle.std.proofs.lemmas.List.Elements.{All-head, All-tail, All-weaker}
use Rattle.std.proofs.lemmas.List.Sums.{sum_by-cons, sum_by-set}
use Rattle.std.proofs.lemmas.Bool.{cases_eq, cases_lt}
use Rattle.std.proofs.lemmas.Bool.Decides.{nat_tests}
use Rattle.price_certificate.specs.Problem.{Problem, IsProblem, IsAllowed, bins_of, capacity_of, drains, was_in}
use Rattle.price_certificate.specs.Assignment.{IsFeasible, IsOptimal, covered, kept, left, uses_of_item, uses_of_bin}
use Rattle.price_certificate.specs.Derived.{bare}
use Rattle.price_certificate.specs.Faults.{IsCounted}
use Rattle.price_certificate.proofs.InstanceRows.{allowed_bin}
use Rattle.spread_engine.specs.Witness.{AreNear, Held, IsShifted, MayShift, MovesFew, one_if, pair_at}
use Rattle.spread_certificate.specs.Within.{IsBestWithin, IsWithin}
use Rattle.spread_certificate.proofs.WithinLemmas.{to_bare, from_bare, none_before}

pub shifted-none : (p : Problem) (pairs : List (ℕ × ℕ)) → IsShifted p pairs pairs
shifted-none p pairs = record { feasible = λ h. h; covers = refl; leaves = refl }

pub shifted-more : (p : Problem) (first second third : List (ℕ × ℕ)) → IsShifted p first second → IsShifted p second third → IsShifted p first third
shifted-more p first second third a b = record { feasible = λ h. b.feasible (a.feasible h); covers = b.covers ∙ a.covers; leaves = b.leaves ∙ a.leaves }

-- one item more in the new bin, and one fewer in the one that it comes from
pub bin_uses-set : (pairs : List (ℕ × ℕ)) (place bin b : ℕ) → place < length pairs → uses_of_bin (set pairs place ((pair_at pairs place).0, bin)) b + one_if (eqb (pair_at pairs place).1 b) ≡ uses_of_bin pairs b + one_if (eqb bin b)
bin_uses-set pairs place bin b l = sum_by-set (λ (q : ℕ × ℕ). cond (eqb q.1 b) 1 0) pairs place ((pair_at pairs place).0, bin) (0, 0) l

item_uses-set : (pairs : List (ℕ × ℕ)) (place bin item : ℕ) → place < length pairs → uses_of_item (set pairs place ((pair_at pairs place).0, bin)) item ≡ uses_of_item pairs item
item_uses-set pairs place bin item l = omega (arith, sum_by-set (λ (q : ℕ × ℕ). (let n : ℕ = cond (eqb q.0 item) 1 0 in n)) pairs place ((pair_at pairs place).0, bin) (0, 0) l)

left-set : (p : Problem) (pairs : List (ℕ × ℕ)) (place bin : ℕ) → place < length pairs → drains p (pair_at pairs place).1 ≡ drains p bin → left p (set pairs place ((pair_at pairs place).0, bin)) ≡ left p pairs
left-set p pairs place bin l e =
    let same = ap (λ (b : Bool). (let n : ℕ = cond b 1 0 in n)) e in
    omega (arith, same, sum_by-set (λ (q : ℕ × ℕ). (let n : ℕ = cond (drains p q.1) 1 0 in n)) pairs place ((pair_at pairs place).0, bin) (0, 0) l)

-- at most one pair is kept no more
kept-set : (p : Problem) (pairs : List (ℕ × ℕ)) (place : ℕ) (r : ℕ × ℕ) → place < length pairs → kept p pairs ≤ kept p (set pairs place r) + 1
kept-set p pairs place r l = grind (arith, nat_tests, sum_by-set (λ (q : ℕ × ℕ). (let n : ℕ = cond (was_in p q.0 q.1) 1 0 in n)) pairs place r (0, 0) l)

-- the new bin has room, and each other has no more than before
room_there : (old new from bin b capacity : ℕ) → new + one_if (eqb from b) ≡ old + one_if (eqb bin b) → old ≤ capacity → (bin ≡ b → old < capacity) → new ≤ capacity
room_there old new from bin b capacity e most room = elim (cases_eq bin b) [
  | inl same ↦ (let less = room same in grind (arith, nat_tests, less))
  | inr other ↦ grind (arith, nat_tests, other)
]

allowed-set : (p : Problem) (pairs : List (ℕ × ℕ)) (place bin : ℕ) → place < length pairs → IsAllowed p (pair_at pairs place).0 bin → All (λ (q : ℕ × ℕ). IsAllowed p q.0 q.1) pairs → All (λ (q : ℕ × ℕ). IsAllowed p q.0 q.1) (set pairs place ((pair_at pairs place).0, bin))
allowed-set p pairs place bin l a h = λ k d m.
    let q : ℕ × ℕ = ((pair_at pairs place).0, bin) in
    elim (cases_eq k place) [
      | inl e ↦
          let there : get_or (set pairs place q) k d ≡ q = ap (λ (i : ℕ). get_or (set pairs place q) i d) e ∙ get_or-set_same pairs place q d l in
          subst (λ (r : ℕ × ℕ). IsAllowed p r.0 r.1) (sym there) a
      | inr other ↦
          let same : get_or (set pairs place q) k d ≡ get_or pairs k d = get_or-set_other pairs place k q d other in
          subst (λ (r : ℕ × ℕ). IsAllowed p r.0 r.1) (sym same) (h k d (omega (arith, length-set pairs place q)))
    ]

feasible-set : (p : Problem) (pairs : List (ℕ × ℕ)) (bins place bin : ℕ) → MayShift p pairs bins place bin → IsFeasible p pairs → IsFeasible p (set pairs place ((pair_at pairs place).0, bin))
feasible-set p pairs bins place bin may h = record {
  allowed = allowed-set p pairs place bin may.place_in_range may.allowed h.allowed;
  once = λ item. omega (arith, item_uses-set pairs place bin item may.place_in_range, h.once item);
  within = λ b. room_there (uses_of_bin pairs b) _ (pair_at pairs place).1 bin b (capacity_of p b) (bin_uses-set pairs place bin b may.place_in_range) (h.within b)
      (λ e. subst (λ (k : ℕ). uses_of_bin pairs k < capacity_of p k) e may.room);
}

-- one shift, where q is the pair of the place
pub shifted-one : (p : Problem) (pairs : List (ℕ × ℕ)) (bins place bin : ℕ) (q : ℕ × ℕ) → MayShift p pairs bins place bin → q ≡ pair_at pairs place → IsShifted p pairs (set pairs place (q.0, bin))
shifted-one p pairs bins place bin q may e =
    let r : ℕ × ℕ = ((pair_at pairs place).0, bin) in
    subst (λ (x : ℕ × ℕ). IsShifted p pairs (set pairs place (x.0, bin))) (sym e) (record {
      feasible = λ h. feasible-set p pairs bins place bin may h;
      covers = length-set pairs place r;
      leaves = left-set p pairs place bin may.place_in_range may.alike;
    })

-- one shift loses one pair at most, where q is the pair of the place
pub kept-one : (p : Problem) (pairs : List (ℕ × ℕ)) (bins place bin : ℕ) (q : ℕ × ℕ) → MayShift p pairs bins place bin → kept p pairs ≤ kept p (set pairs place (q.0, bin)) + 1
kept-one p pairs bins place bin q may = kept-set p pairs place (q.0, bin) may.place_in_range

-- the counts follow
pub counted-one : (pairs : List (ℕ × ℕ)) (uses new : List ℕ) (place bin : ℕ) (q : ℕ × ℕ) → IsCounted (length uses) pairs uses → q ≡ pair_at pairs place → place < length pairs → length new ≡ length uses
    → ((b : ℕ) → get_or new b 0 + one_if (eqb q.1 b) ≡ get_or uses b 0 + one_if (eqb bin b)) → IsCounted (length new) (set pairs place (q.0, bin)) new
counted-one pairs uses new place bin q h e l long counts = record {
  each = refl;
  uses = λ b m.
      let more : uses_of_bin (set pairs place (q.0, bin)) b + one_if (eqb q.1 b) ≡ uses_of_bin pairs b + one_if (eqb bin b) =
      subst (λ (x : ℕ × ℕ). uses_of_bin (set pairs place (x.0, bin)) b + one_if (eqb x.1 b) ≡ uses_of_bin pairs b + one_if (eqb bin b)) (sym e) (bin_uses-set pairs place bin b l) in
      omega (arith, more, counts b, h.uses b (omega arith));
}

-- the item of a place may move, where q is its pair
pub may_shift : (p : Problem) (held : Held) (place bin : ℕ) (q : ℕ × ℕ) → place < length held.pairs → bin < held.bins → q ≡ pair_at held.pairs place → q.1 < held.bins → IsAllowed p q.0 bin → uses_of_bin held.pairs bin < capacity_of p bin → drains p q.1 ≡ drains p bin
    → MayShift p held.pairs held.bins place bin
may_shift p held place bin q l m e n allowed room alike =
    let r = pair_at held.pairs place in
    let from : r.1 < held.bins = subst (λ (x : ℕ × ℕ). x.1 < held.bins) e n in
    let may : IsAllowed p r.0 bin = subst (λ (x : ℕ × ℕ). IsAllowed p x.0 bin) e allowed in
    let same : drains p r.1 ≡ drains p bin = subst (λ (x : ℕ × ℕ). drains p x.1 ≡ drains p bin) e alike in
    record { place_in_range = l; bin_in_range = m; from_in_range = from; allowed = may; room = room; alike = same }

-- an assignment that shifted is as good as it was, where nothing was before
pub shifted-best : (p : Problem) (old new : List (ℕ × ℕ)) → IsOptimal (bare p) old → IsShifted p old new → IsOptimal (bare p) new
shifted-best p old new h s = record {
  feasible = to_bare p new (s.feasible (from_bare p old h.feasible));
  covers_most = λ others law. omega (arith, h.covers_most others law, s.covers);
  leaves_least = λ others law e. omega (arith, h.leaves_least others law (e ∙ s.covers), s.leaves);
  moves_least = λ others law e f. omega (arith, none_before p);
}

-- past the last bin there is no item
no_item : (p : Problem) (pairs : List (ℕ × ℕ)) (bin : ℕ) → All (λ (q : ℕ × ℕ). q.1 < bins_of p) pairs → bins_of p ≤ bin → uses_of_bin pairs bin ≡ 0
no_item p [] bin h l = refl
no_item p (q ∷ pairs) bin h l =
    let head : q.1 < bins_of p = All-head (λ (r : ℕ × ℕ). r.1 < bins_of p) q pairs h in
    let rest = no_item p pairs bin (All-tail (λ (r : ℕ × ℕ). r.1 < bins_of p) q pairs h) l in
    let step = sum_by-cons (λ (r : ℕ × ℕ). cond (eqb r.1 bin) 1 0) q pairs in
    let other : q.1 ≢ bin = omega arith in
    grind (arith, nat_tests, rest, step, other)

-- counts of the bins are counts past the last one too
pub exact : (p : Problem) (pairs : List (ℕ × ℕ)) (caps : List ℕ) → IsProblem p → IsFeasible p pairs → length caps ≡ bins_of p → ((b : ℕ) → b < bins_of p → get_or caps b 0 ≡ uses_of_bin pairs b) → (b : ℕ) → get_or caps b 0 ≡ uses_of_bin pairs b
exact p pairs caps valid h each counts = λ b.
    let inside = All-weaker (λ (q : ℕ × ℕ). IsAllowed p q.0 q.1) (λ (q : ℕ × ℕ). q.1 < bins_of p) (λ q a. allowed_bin p valid q.0 q.1 a) pairs h.allowed in
    elim (cases_lt b (bins_of p)) [
      | inl l ↦ counts b l
      | inr g ↦ omega (arith, no_item p pairs b inside g, get_or_past caps b 0 (omega (arith, each)))
    ]

-- an assignment that shifted is near the one that it was
pub near : (p : Problem) (old new : List (ℕ × ℕ)) (made most : ℕ) (caps : List ℕ) → IsFeasible p old → IsShifted p old new → kept p old ≤ kept p new + made → made ≤ most → IsWithin caps new → AreNear p old most caps
near p old new made most caps h s few less within = record {
  witness = new;
  feasible = s.feasible h;
  within = within;
  covers = s.covers;
  leaves = s.leaves;
  moves = omega (arith, few, less);
}

-- the best within caps that are near a best assignment moves at most so many more than any best one
pub near_moves : (p : Problem) (start plan : List (ℕ × ℕ)) (most : ℕ) (caps : List ℕ) → IsOptimal p start → IsBestWithin caps p plan → AreNear p start most caps → MovesFew p plan most
near_moves p start plan most caps h best near = λ others other.
    let as_many : covered start ≡ covered plan = omega (arith, h.covers_most plan best.feasible, best.covers_most start h.feasible) in
    let as_left : left p start ≡ left p plan = omega (arith, h.leaves_least plan best.feasible (sym as_many), best.leaves_least start h.feasible as_many) in
    let few = best.moves_least near.witness near.feasible near.within (near.covers ∙ as_many) (near.leaves ∙ as_left) in
    let covers : covered others ≡ covered start = omega (arith, h.covers_most others other.feasible, other.covers_most start h.feasible) in
    let leaves : left p others ≡ left p start = omega (arith, h.leaves_least others other.feasible covers, other.leaves_least start h.feasible (sym covers)) in
    let least = h.moves_least others other.feasible covers leaves in
    omega (arith, few, near.moves, least)

-- and so where that number is bounded
pub few_moves : (p : Problem) (start plan : List (ℕ × ℕ)) (o : Option ℕ) (made : ℕ) (caps : List ℕ) → IsOptimal p start → IsBestWithin caps p plan → AreNear p start made caps → IfSome o (λ most. made ≤ most) → IfSome o (λ most. MovesFew p plan most)
few_moves p start plan None made caps h best near few = tt
few_moves p start plan (Some most) made caps h best near few = λ others other. omega (arith, few, near_moves p start plan made caps h best near others other)
