-- Walks along exact pairs.
use Rattle.std.proofs.Common.{◌≡◌, ◌+◌, ◌<◌, ◌≤◌, ◌≢◌, ◌⊎◌, ℕ, List, Option, Some, None, inl, inr, Contains, length, get_or, set, sym, ap, ◌∙◌, subst, arith}
use Rattle.std.specs.Prelude.{slice_index}
use Rattle.std.proofs.lemmas.Bool.{cases_eq}
use Rattle.std.proofs.lemmas.Option.{none-some}
use Rattle.std.proofs.lemmas.List.{get_or-set_same, get_or-set_other, length-set}
use Rattle.price_certificate.specs.Problem.{Problem, IsProblem, bins_of, weight_of, IsAllowed}
use Rattle.price_certificate.proofs.InstanceRows.{allowed_bin}
use Rattle.assign_engine.specs.Seats.{seat, IsSound, IsInserting}
use Rattle.assign_engine.specs.SearchTables.{SearchState, HasBins}
use Rattle.assign_engine.specs.Searched.{IsNear, HasTrail, IsInserted}
use Rattle.assign_engine.specs.Searching.{HasWay}
use Rattle.assign_engine.specs.Exact.{IsExact, IsLink, IsReached, HasMarks, IsOnWay, IsEntered, IsWalkEnd, IsBetter}
use Rattle.assign_engine.specs.declared.ends.End.{End}

module _ (p : Problem) (ats : List (Option ℕ)) (us vs : List ℕ) (s : ℕ) (d vias ranks : List ℕ) (cost t b : ℕ) (valid : IsProblem p) (link : IsLink p ats us vs ranks t b) (in_d : b < length d) (in_vias : b < length vias) where
  near_still : (z : ℕ) → IsNear p d cost z → IsNear p (set d b cost) cost z
  near_still z n = record {
    in_range = n.in_range;
    within = elim (cases_eq z b) [
      | inl q ↦ (let e : get_or (set d b cost) z 0 ≡ cost = ap (λ (m : ℕ). get_or (set d b cost) m 0) q ∙ get_or-set_same d b cost 0 in_d in omega (arith, e))
      | inr q ↦ (let e = get_or-set_other d b z cost 0 q in omega (arith, e, n.within))
    ];
  }

  pub near_here : IsNear p (set d b cost) cost b
  near_here = record { in_range = allowed_bin p valid t b link.0; within = (let e = get_or-set_same d b cost 0 in_d in omega (arith, e)) }

  pub reached_still : (i : ℕ) → IsReached p ats s d cost i → IsReached p ats s (set d b cost) cost i
  reached_still i (inl e) = inl e
  reached_still i (inr e) = inr (e.0, e.1, near_still e.0 e.2)

  module _ (h : HasTrail p ats us vs s d vias ranks cost) (here : IsReached p ats s d cost t) where
    via_here : (z : ℕ) → z ≡ b → get_or (set vias b t) z 0 ≡ t
    via_here z q = ap (λ (m : ℕ). get_or (set vias b t) m 0) q ∙ get_or-set_same vias b t 0 in_vias

    via_there : (z : ℕ) → z ≢ b → get_or (set vias b t) z 0 ≡ get_or vias z 0
    via_there z q = get_or-set_other vias b z t 0 q

    near_before : (z : ℕ) → z ≢ b → IsNear p (set d b cost) cost z → IsNear p d cost z
    near_before z q n = record { in_range = n.in_range; within = (let e = get_or-set_other d b z cost 0 q in omega (arith, e, n.within)) }

    abbrev Back : ℕ → ℕ → Type 0
    Back i z = (i ≡ s) ⊎ ((y : ℕ) × (seat ats i ≡ Some y) × (slice_index ranks y < slice_index ranks z) × IsNear p (set d b cost) cost y)

    back_here : IsReached p ats s d cost t → Back t b
    back_here (inl e) = inl e
    back_here (inr e) = inr (e.0, e.1, link.2 e.0 e.1, near_still e.0 e.2)

    back_there : (i z : ℕ) → (i ≡ s) ⊎ ((y : ℕ) × (seat ats i ≡ Some y) × (slice_index ranks y < slice_index ranks z) × IsNear p d cost y) → Back i z
    back_there i z (inl e) = inl e
    back_there i z (inr e) = inr (e.0, e.1, e.2, near_still e.0 e.3)

    pub trail_more : HasTrail p ats us vs s (set d b cost) (set vias b t) ranks cost
    trail_more = record {
      allowed = λ z n. elim (cases_eq z b) [
        | inl q ↦ subst (λ (m : ℕ). IsAllowed p m z) (sym (via_here z q)) (subst (λ (m : ℕ). IsAllowed p t m) (sym q) link.0)
        | inr q ↦ subst (λ (m : ℕ). IsAllowed p m z) (sym (via_there z q)) (h.allowed z (near_before z q n))
      ];
      tight = λ z n. elim (cases_eq z b) [
        | inl q ↦ subst (λ (m : ℕ). IsExact p us vs m z) (sym (via_here z q)) (subst (λ (m : ℕ). IsExact p us vs t m) (sym q) link.1)
        | inr q ↦ subst (λ (m : ℕ). IsExact p us vs m z) (sym (via_there z q)) (h.tight z (near_before z q n))
      ];
      back = λ z n. elim (cases_eq z b) [
        | inl q ↦ subst (λ (m : ℕ). Back m z) (sym (via_here z q)) (subst (λ (m : ℕ). Back t m) (sym q) (back_here here))
        | inr q ↦ subst (λ (m : ℕ). Back m z) (sym (via_there z q)) (back_there (get_or vias z 0) z (h.back z (near_before z q n)))
      ];
    }

    pub way_at : (end : End) → IsWalkEnd p ats us b end → HasWay p ats us vs s (set d b cost) (set vias b t) ranks cost end
    way_at end (inl e) = subst (HasWay p ats us vs s (set d b cost) (set vias b t) ranks cost) (sym e.0) (trail_more, near_here, e.1)
    way_at end (inr e) = subst (HasWay p ats us vs s (set d b cost) (set vias b t) ranks cost) (sym e.1) (trail_more, near_here, e.2, e.3)

-- a walk that begins has reached nothing
pub trail_none : (p : Problem) (ats : List (Option ℕ)) (us vs : List ℕ) (s : ℕ) (d vias ranks : List ℕ) (cost : ℕ) → ((b : ℕ) → b < bins_of p → cost < get_or d b 0) → HasTrail p ats us vs s d vias ranks cost
trail_none p ats us vs s d vias ranks cost far = record {
  allowed = λ b n. absurd (omega (arith, n.within, far b n.in_range));
  tight = λ b n. absurd (omega (arith, n.within, far b n.in_range));
  back = λ b n. absurd (omega (arith, n.within, far b n.in_range));
}

pub better_same : (p : Problem) (ats : List (Option ℕ)) (us vs : List ℕ) → IsSound p ats us vs → IsBetter p ats us ats us vs
better_same p ats us vs h = record { sound = h; waiting = λ t w. w }

pub better_inserted : (p : Problem) (old ats : List (Option ℕ)) (us lower higher : List ℕ) (s : ℕ) → IsInserted p old us s ats lower higher → IsBetter p old us ats lower higher
better_inserted p old ats us lower higher s i = record { sound = i.sound; waiting = λ t w. (i.waiting t w).0 }

moved : (P : List ℕ → List ℕ → List ℕ → ℕ → Type 0) (old new : SearchState) (t b : ℕ) → IsEntered t b old new → P (set old.distances b old.cost) (set old.vias b t) old.ranks old.cost → P new.distances new.vias new.ranks new.cost
moved P old new t b e q =
    subst (λ (x : List ℕ). P x new.vias new.ranks new.cost) (sym e.distances)
    (subst (λ (x : List ℕ). P (set old.distances b old.cost) x new.ranks new.cost) (sym e.vias)
    (subst (λ (x : List ℕ). P (set old.distances b old.cost) (set old.vias b t) x new.cost) (sym e.ranks)
    (subst (λ (x : ℕ). P (set old.distances b old.cost) (set old.vias b t) old.ranks x) (sym e.cost) q)))

module _ (p : Problem) (ats : List (Option ℕ)) (us vs : List ℕ) (s t b : ℕ) (stack : List ℕ) (old new : SearchState) (valid : IsProblem p) (link : IsLink p ats us vs old.ranks t b) (sizes : HasBins (bins_of p) old) (on : IsOnWay p ats us vs s t stack old) (e : IsEntered t b old new) where
  in_d : b < length old.distances
  in_d = let l = allowed_bin p valid t b link.0 in omega (arith, l, sizes.distances)

  in_vias : b < length old.vias
  in_vias = let l = allowed_bin p valid t b link.0 in omega (arith, l, sizes.vias)

  pub entered_way : (end : End) → IsWalkEnd p ats us b end → HasWay p ats us vs s new.distances new.vias new.ranks new.cost end
  entered_way end w = moved (λ d v r c. HasWay p ats us vs s d v r c end) old new t b e (way_at p ats us vs s old.distances old.vias old.ranks old.cost t b valid link in_d in_vias on.trail on.here end w)

  entered_reached : (i : ℕ) → IsReached p ats s old.distances old.cost i → IsReached p ats s new.distances new.cost i
  entered_reached i r = moved (λ d v k c. IsReached p ats s d c i) old new t b e (reached_still p ats us vs s old.distances old.vias old.ranks old.cost t b valid link in_d in_vias i r)

  near_new : IsNear p new.distances new.cost b
  near_new = moved (λ d v k c. IsNear p d c b) old new t b e (near_here p ats us vs s old.distances old.vias old.ranks old.cost t b valid link in_d in_vias)

  entered_next : (i : ℕ) → (i ≡ t) ⊎ (seat ats i ≡ Some b) → IsReached p ats s new.distances new.cost i
  entered_next i (inl q) = entered_reached i (subst (λ (m : ℕ). IsReached p ats s old.distances old.cost m) (sym q) on.here)
  entered_next i (inr q) = inr (b, q, near_new)

  pub entered_on : (i : ℕ) (more : List ℕ) → (i ≡ t) ⊎ (seat ats i ≡ Some b) → ((k : ℕ) → Contains more k → (k ≡ t) ⊎ Contains stack k) → IsOnWay p ats us vs s i more new
  entered_on i more q parts = record {
    trail = moved (λ d v r c. HasTrail p ats us vs s d v r c) old new t b e (trail_more p ats us vs s old.distances old.vias old.ranks old.cost t b valid link in_d in_vias on.trail on.here);
    here = entered_next i q;
    before = λ k m. elim (parts k m) [
      | inl z ↦ entered_reached k (subst (λ (x : ℕ). IsReached p ats s old.distances old.cost x) (sym z) on.here)
      | inr z ↦ entered_reached k (on.before k z)
    ];
  }

  pub entered_bins : HasBins (bins_of p) new
  entered_bins = record {
    distances = ap length e.distances ∙ length-set old.distances b old.cost ∙ sizes.distances;
    vias = ap length e.vias ∙ length-set old.vias b t ∙ sizes.vias;
    ranks = ap length e.ranks ∙ sizes.ranks;
  }

  pub entered_marks : HasMarks p old → HasMarks p new
  entered_marks h = moved (λ d v r c. ((z : ℕ) → z < bins_of p → c ≤ get_or d z 0)) old new t b e
      (λ z l. elim (cases_eq z b) [
        | inl q ↦ (let f : get_or (set old.distances b old.cost) z 0 ≡ old.cost = ap (λ (m : ℕ). get_or (set old.distances b old.cost) m 0) q ∙ get_or-set_same old.distances b old.cost 0 in_d in omega (arith, f))
        | inr q ↦ (let f = get_or-set_other old.distances b z old.cost 0 q in omega (arith, f, h z l))
      ])

pub better_after : (p : Problem) (old mid ats : List (Option ℕ)) (us middle lower vs higher : List ℕ) → IsBetter p old us mid middle vs → IsBetter p mid middle ats lower higher → IsBetter p old us ats lower higher
better_after p old mid ats us middle lower vs higher h k = record { sound = k.sound; waiting = λ t w. h.waiting t (k.waiting t w) }

-- the price of an item in no bin falls as far as the prices of its bins allow
pub better_lower : (p : Problem) (ats : List (Option ℕ)) (us vs : List ℕ) (t least : ℕ) → IsSound p ats us vs → t < length us → seat ats t ≡ None → least ≤ get_or us t 0 → ((b : ℕ) → IsAllowed p t b → weight_of p t b ≤ least + get_or vs b 0) → IsBetter p ats us ats (set us t least) vs
better_lower p ats us vs t least h l n le priced =
    let here : (i : ℕ) → i ≡ t → get_or (set us t least) i 0 ≡ least = λ i q. (ap (λ (m : ℕ). get_or (set us t least) m 0) q ∙ get_or-set_same us t least 0 l) in
    let there : (i : ℕ) → i ≢ t → get_or (set us t least) i 0 ≡ get_or us i 0 = λ i q. get_or-set_other us t i least 0 q in
    record {
      sound = record {
        seats = h.seats;
        items = length-set us t least ∙ h.items;
        bins = h.bins;
        priced = λ i b a. elim (cases_eq i t) [
          | inl q ↦ (let w = priced b (subst (λ (m : ℕ). IsAllowed p m b) q a) in let e = ap (λ (m : ℕ). weight_of p m b) q in omega (arith, w, e, here i q))
          | inr q ↦ omega (arith, there i q, h.priced i b a)
        ];
        allowed = h.allowed;
        tight = λ i b s. elim (cases_eq i t) [
          | inl q ↦ absurd (none-some b (sym n ∙ ap (seat ats) (sym q) ∙ s))
          | inr q ↦ omega (arith, there i q, h.tight i b s)
        ];
        within = h.within;
        full = h.full;
      };
      waiting = λ i w. elim (cases_eq i t) [
        | inl q ↦ (let e = here i q in let f : get_or us i 0 ≡ get_or us t 0 = ap (λ (m : ℕ). get_or us m 0) q in (w.0, omega (arith, e, f, le, w.1)))
        | inr q ↦ (let e = there i q in (w.0, omega (arith, e, w.1)))
      ];
    }

-- walks change nothing in what holds of the items that are inserted
pub inserting_better : (p : Problem) (start : List (Option ℕ)) (n : ℕ) (ats new : List (Option ℕ)) (us vs lower higher : List ℕ) (searches settled : ℕ) → IsInserting p start n ats us vs searches settled → IsBetter p ats us new lower higher → IsInserting p start n new lower higher searches settled
inserting_better p start n ats new us vs lower higher searches settled h k = record {
  sound = k.sound;
  waiting = λ t w. h.waiting t (k.waiting t w);
  search_count = h.search_count;
  settled_count = h.settled_count;
}
