-- The matching changes along the trail.
use Rattle.std.proofs.Common.{◌≡◌, ◌+◌, ◌<◌, ◌≤◌, ◌≢◌, eqb, cond, true, false, ℕ, List, Option, Some, None, inl, inr, length, get_or, set, sym, ap, ◌∙◌, subst, arith, eq-eqb}
use Rattle.std.specs.Prelude.{slice_index}
use Rattle.std.proofs.lemmas.Bool.{cases_eq, cases_lt, eqb-true}
use Rattle.std.proofs.lemmas.List.{get_or_past, get_or-set_same, get_or-set_other, length-set}
use Rattle.std.proofs.lemmas.List.Sums.{sum_by-set}
use Rattle.std.proofs.lemmas.Option.{none-some, same_Some}
use Rattle.price_certificate.specs.Problem.{Problem, IsProblem, items_of, capacity_of, weight_of, IsAllowed}
use Rattle.assign_engine.specs.Seats.{sits, seat, used, IsSound, IsWaiting}
use Rattle.assign_engine.specs.Searched.{IsWalking, IsInserted}
use Rattle.price_certificate.proofs.Duality.{allowed_item}

pub seated_from_test : (b : ℕ) (o : Option ℕ) → sits b o ≡ true → o ≡ Some b
seated_from_test b None e = cc
seated_from_test b (Some c) e = ap Some (eqb-true c b e)

pub not_seated_from_test : (b : ℕ) (o : Option ℕ) → sits b o ≡ false → o ≡ Some b → ⊥
not_seated_from_test b None e h = cc
not_seated_from_test b (Some c) e h = let d : c ≡ b = same_Some c b h in let t : eqb c b ≡ true = eq-eqb c b d in cc

-- what one change of a seat does to the count of a bin
pub used-set : (ats : List (Option ℕ)) (t x : ℕ) (o : Option ℕ) → t < length ats → used (set ats t o) x + cond (sits x (seat ats t)) 1 0 ≡ used ats x + cond (sits x o) 1 0
used-set ats t x o l = sum_by-set (λ (e : Option ℕ). cond (sits x e) 1 0) ats t o None l

-- an item that has a seat is one of the items
pub seated_item : (ats : List (Option ℕ)) (t b : ℕ) → seat ats t ≡ Some b → t < length ats
seated_item ats t b e = elim (cases_lt t (length ats)) [ inl l ↦ l | inr g ↦ absurd (none-some b (sym (get_or_past ats t None g) ∙ e)) ]

-- a fact of every pair of the matching, after one change
pub seats-set : (P : ℕ → ℕ → Type 0) (ats : List (Option ℕ)) (t b : ℕ) → t < length ats → ((i c : ℕ) → seat ats i ≡ Some c → P i c) → P t b → (i c : ℕ) → seat (set ats t (Some b)) i ≡ Some c → P i c
seats-set P ats t b l h q i c e = elim (cases_eq i t) [
  | inl s ↦
      let at_t : seat (set ats t (Some b)) i ≡ Some b = ap (λ (m : ℕ). seat (set ats t (Some b)) m) s ∙ get_or-set_same ats t (Some b) None l in
      let bc : b ≡ c = same_Some b c (sym at_t ∙ e) in
      subst (λ (m : ℕ). P m c) (sym s) (subst (λ (m : ℕ). P t m) bc q)
  | inr d ↦ h i c (sym (get_or-set_other ats t i (Some b) None d) ∙ e)
]

pub seats-set_none : (P : ℕ → ℕ → Type 0) (ats : List (Option ℕ)) (t : ℕ) → t < length ats → ((i c : ℕ) → seat ats i ≡ Some c → P i c) → (i c : ℕ) → seat (set ats t None) i ≡ Some c → P i c
seats-set_none P ats t l h i c e = elim (cases_eq i t) [
  | inl s ↦ absurd (none-some c (sym (ap (λ (m : ℕ). seat (set ats t None) m) s ∙ get_or-set_same ats t None None l) ∙ e))
  | inr d ↦ h i c (sym (get_or-set_other ats t i None None d) ∙ e)
]

module _ (p : Problem) (old : List (Option ℕ)) (us lower higher : List ℕ) (s : ℕ) (ranks : List ℕ) (target : ℕ → ℕ) (valid : IsProblem p) (h : IsSound p old lower higher) where
  -- the walk begins at a bin with room
  pub walk_to_room : (hole : ℕ) → seat old s ≡ None → ((t : ℕ) → t ≢ s → IsWaiting old lower t → IsWaiting old us t) → ((x : ℕ) → used old x + cond (eqb hole x) 1 0 ≡ target x) → IsWalking p old us lower higher s ranks target hole old
  walk_to_room hole new waits counts = record {
    seats = h.seats;
    allowed = h.allowed;
    tight = h.tight;
    counts = counts;
    same = λ t y e r. e;
    new = new;
    waiting = waits;
  }

  -- the walk begins at the bin of an item that has no price and is uncovered
  pub walk_to_item : (hole i : ℕ) → seat old s ≡ None → ((t : ℕ) → t ≢ s → IsWaiting old lower t → IsWaiting old us t) → seat old i ≡ Some hole → get_or lower i 0 ≡ 0 → ((x : ℕ) → used old x ≡ target x) → IsWalking p old us lower higher s ranks target hole (set old i None)
  walk_to_item hole i new waits e z counts =
      let l : i < length old = seated_item old i hole e in
      let apart : s ≢ i = λ q. none-some hole (sym new ∙ ap (seat old) q ∙ e) in
      record {
        seats = length-set old i None ∙ h.seats;
        allowed = seats-set_none (IsAllowed p) old i l h.allowed;
        tight = seats-set_none (λ t b. get_or lower t 0 + get_or higher b 0 ≡ weight_of p t b) old i l h.tight;
        counts = λ x. (let c = used-set old i x None l in let f : ◌≡◌ {A = ℕ} (cond (sits x (seat old i)) 1 0) (cond (eqb hole x) 1 0) = ap (λ (o : Option ℕ). (let n : ℕ = cond (sits x o) 1 0 in n)) e in omega (arith, c, f, counts x));
        same = λ t y q r. elim (cases_eq t i) [
          | inl k ↦ let yh : y ≡ hole = same_Some y hole (sym q ∙ ap (seat old) k ∙ e) in let rr : slice_index ranks y ≡ slice_index ranks hole = ap (slice_index ranks) yh in absurd (omega arith)
          | inr d ↦ get_or-set_other old i t None None d ∙ q
        ];
        new = get_or-set_other old i s None None apart ∙ new;
        waiting = λ t d w. elim (cases_eq t i) [
          | inl k ↦ let zz : get_or lower t 0 ≡ 0 = ap (λ (m : ℕ). get_or lower m 0) k ∙ z in absurd (omega (arith, zz, w.1))
          | inr k ↦ waits t d (sym (get_or-set_other old i t None None k) ∙ w.0, w.1)
        ];
      }

  -- one item moves on to the hole, and leaves a hole in its bin
  pub walk_on : (hole t y : ℕ) (ats : List (Option ℕ)) → IsWalking p old us lower higher s ranks target hole ats → IsAllowed p t hole → get_or lower t 0 + get_or higher hole 0 ≡ weight_of p t hole → seat old t ≡ Some y → slice_index ranks y < slice_index ranks hole → IsWalking p old us lower higher s ranks target y (set ats t (Some hole))
  walk_on hole t y ats w a q e r =
      let here : seat ats t ≡ Some y = w.same t y e r in
      let l : t < length ats = seated_item ats t y here in
      let apart : s ≢ t = λ k. none-some y (sym w.new ∙ ap (seat ats) k ∙ here) in
      record {
        seats = length-set ats t (Some hole) ∙ w.seats;
        allowed = seats-set (IsAllowed p) ats t hole l w.allowed a;
        tight = seats-set (λ i b. get_or lower i 0 + get_or higher b 0 ≡ weight_of p i b) ats t hole l w.tight q;
        counts = λ x. (let c = used-set ats t x (Some hole) l in let f : ◌≡◌ {A = ℕ} (cond (sits x (seat ats t)) 1 0) (cond (eqb y x) 1 0) = ap (λ (o : Option ℕ). (let n : ℕ = cond (sits x o) 1 0 in n)) here in let n = w.counts x in omega (arith, c, f, n));
        same = λ i z k m. elim (cases_eq i t) [
          | inl b ↦ let zy : z ≡ y = same_Some z y (sym k ∙ ap (seat old) b ∙ e) in let rr : slice_index ranks z ≡ slice_index ranks y = ap (slice_index ranks) zy in absurd (omega arith)
          | inr d ↦ get_or-set_other ats t i (Some hole) None d ∙ w.same i z k (omega arith)
        ];
        new = get_or-set_other ats t s (Some hole) None apart ∙ w.new;
        waiting = λ i d k. elim (cases_eq i t) [
          | inl b ↦ absurd (none-some hole (sym k.0 ∙ ap (seat (set ats t (Some hole))) b ∙ get_or-set_same ats t (Some hole) None l))
          | inr b ↦ w.waiting i d (sym (get_or-set_other ats t i (Some hole) None b) ∙ k.0, k.1)
        ];
      }

  -- the new item moves to the hole
  pub walk_ends : (hole : ℕ) (ats : List (Option ℕ)) → IsWalking p old us lower higher s ranks target hole ats → IsAllowed p s hole → get_or lower s 0 + get_or higher hole 0 ≡ weight_of p s hole → ((x : ℕ) → target x ≤ capacity_of p x) → ((x : ℕ) → 0 < get_or higher x 0 → capacity_of p x ≤ target x) → IsInserted p old us s (set ats s (Some hole)) lower higher
  walk_ends hole ats w a q most least =
      let si : s < items_of p = allowed_item p s hole a in
      let l : s < length ats = omega (arith, w.seats) in
      let done = λ (x : ℕ). (let c = used-set ats s x (Some hole) l in let f : ◌≡◌ {A = ℕ} (cond (sits x (seat ats s)) 1 0) 0 = ap (λ (o : Option ℕ). (let n : ℕ = cond (sits x o) 1 0 in n)) w.new in let n = w.counts x in let r : used (set ats s (Some hole)) x ≡ target x = omega (arith, c, f, n) in r) in
      record {
        sound = record {
          seats = length-set ats s (Some hole) ∙ w.seats;
          items = h.items;
          bins = h.bins;
          priced = h.priced;
          allowed = seats-set (IsAllowed p) ats s hole l w.allowed a;
          tight = seats-set (λ i b. get_or lower i 0 + get_or higher b 0 ≡ weight_of p i b) ats s hole l w.tight q;
          within = λ b. omega (arith, done b, most b);
          full = λ b g. omega (arith, done b, least b g);
        };
        waiting = λ t k. elim (cases_eq t s) [
          | inl b ↦ absurd (none-some hole (sym k.0 ∙ ap (seat (set ats s (Some hole))) b ∙ get_or-set_same ats s (Some hole) None l))
          | inr d ↦ (w.waiting t d (sym (get_or-set_other ats s t (Some hole) None d) ∙ k.0, k.1), d)
        ];
      }
