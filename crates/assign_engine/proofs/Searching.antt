-- One bin is settled, and the pairs of its items are relaxed.
use Rattle.std.proofs.Common.{◌≡◌, ◌+◌, ◌<◌, ◌≤◌, ◌≢◌, eqb, cond, ℕ, List, Option, Some, Contains, inl, inr, ◌⊎◌, length, get_or, set, count_by, replicate, zero, suc, [], ◌∷◌, ◌++◌, refl, sym, ap, ◌∙◌, subst, arith}
use Rattle.std.proofs.lemmas.Bool.{cases_eq, cases_lt}
use Rattle.std.proofs.lemmas.Bool.Decides.{nat_tests}
use Rattle.std.proofs.lemmas.List.{get_or-set_same, get_or-set_other, length-set, get_or-replicate, length-replicate}
use Rattle.std.proofs.lemmas.List.Sums.{sum_by-set, sum_by-cons, sum_by_push, get_or-le-sum_by}
use Rattle.price_certificate.specs.Problem.{Problem, IsProblem, bins_of, capacity_of, row_of, weight_of, IsAllowed}
use Rattle.price_certificate.proofs.InstanceRows.{allowed_bin}
use Rattle.assign_engine.specs.Seats.{seat, used, IsSound}
use Rattle.assign_engine.specs.SearchTables.{SearchState}
use Rattle.assign_engine.specs.Changed.{WayFrom, IsLowered, IsRelaxed, IsExpanded}
use Rattle.assign_engine.specs.Pending.{HasPending, HasPendingBut, IsNearest, AllFar}
use Rattle.assign_engine.specs.Roll.{times_in}
use Rattle.assign_engine.specs.Searched.{IsSearched, IsListed, Reached}
use Rattle.assign_engine.specs.Searching.{IsSearching, EndsAt, EndSettled, IsNearerEnd}
use Rattle.assign_engine.specs.declared.ends.End.{End}
use Rattle.assign_engine.specs.declared.ends.End.TheVariants.{Leave, Room, Uncover}
use Rattle.assign_engine.proofs.Changing.{cost_falls, distance_falls}
use Rattle.assign_engine.proofs.Relaxing.{place_of}
use Rattle.assign_engine.proofs.Repricing.{same_test, other_test}

open_one : (n : ℕ) (x : ℕ) → x ≡ n → ◌≡◌ {A = ℕ} (cond (eqb x n) 1 0) 1
open_one n x e = grind (arith, nat_tests)

closed_none : (n : ℕ) (x : ℕ) → x < n → ◌≡◌ {A = ℕ} (cond (eqb x n) 1 0) 0
closed_none n x e = grind (arith, nat_tests)

module _ (p : Problem) (ats : List (Option ℕ)) (us vs : List ℕ) (s : ℕ) (l : SearchState) (valid : IsProblem p) (sound : IsSound p ats us vs) (h : IsSearching p ats us vs s l) where
  -- a bin that is not settled: there is room for one more
  pub more_to_settle : (b : ℕ) → b < bins_of p → get_or l.ranks b 0 ≡ bins_of p → l.settled < bins_of p
  more_to_settle b m w =
      let q = get_or-le-sum_by (λ (r : ℕ). (let n : ℕ = cond (eqb r (bins_of p)) 1 0 in n)) l.ranks b 0 (omega (arith, h.sizes.ranks)) in
      omega (arith, q, open_one (bins_of p) (get_or l.ranks b 0) w, h.count)

  -- the seat of an item is a bin
  seat_bin : (t y : ℕ) → seat ats t ≡ Some y → y < bins_of p
  seat_bin t y e = allowed_bin p valid t y (sound.allowed t y e)

  -- the search ends where no bin is nearer than the cost
  pub found : AllFar l.distances l.ranks l.cost → IsSearched p ats us vs s l.distances l.cost
  found f =
      let near = λ (y : ℕ) (k : y < bins_of p) (m : get_or l.distances y 0 < l.cost). (let r : get_or l.ranks y 0 < l.settled = elim (h.cases y k) [ inl w ↦ absurd (omega (arith, f.far y (omega (arith, h.sizes.distances)) (omega (arith, h.sizes.ranks)))) | inr q ↦ q ] in r) in
      record {
        bins = h.sizes.distances;
        least = h.least;
        start = h.start;
        relaxed = λ t y x e m a. h.relaxed t y x e (near y (seat_bin t y e) m) m a;
        full = h.full;
        kept = λ t y e m. h.kept t y e (near y (seat_bin t y e) m);
      }

  -- the settled bins are those that are nearer than the cost, each once
  pub found_listed : AllFar l.distances l.ranks l.cost → IsListed p l.distances l.cost l.settled_bins
  found_listed f = record {
    once = h.once;
    near = λ y k m. h.listed y k (elim (h.cases y k) [ inl w ↦ absurd (omega (arith, f.far y (omega (arith, h.sizes.distances)) (omega (arith, h.sizes.ranks)))) | inr q ↦ q ]);
    in_range = λ y k. (h.in_range y k).0;
  }

  -- the tables once the bin b is settled and the best end so far is chosen
  abbrev pub settled_at : ℕ → List (ℕ × ℕ) → ℕ → End → SearchState
  settled_at b g cost2 end2 = record l { pending = g; ranks = set l.ranks b l.settled; settled = l.settled + 1; settled_bins = l.settled_bins ++ b ∷ []; cost = cost2; end = end2 }

  module _ (b : ℕ) (n : IsNearest l.distances l.ranks l.cost b) (g : List (ℕ × ℕ)) (cost2 : ℕ) (end2 : End) (new : SearchState) (less : cost2 ≤ l.cost) (x : IsExpanded p ats us vs b (get_or l.distances b 0) (settled_at b g cost2 end2) new) where
    in_range : b < bins_of p
    in_range = omega (arith, n.in_range, h.sizes.distances)

    waits : get_or l.ranks b 0 ≡ bins_of p
    waits = n.waits ∙ h.sizes.ranks

    few : l.settled < bins_of p
    few = more_to_settle b in_range waits

    cheaper : new.cost ≤ cost2
    cheaper = cost_falls p ats (WayFrom p ats us vs b (get_or l.distances b 0)) (settled_at b g cost2 end2) new x.changed

    rank_here : get_or (set l.ranks b l.settled) b 0 ≡ l.settled
    rank_here = get_or-set_same l.ranks b l.settled 0 (omega (arith, in_range, h.sizes.ranks))

    rank_there : (y : ℕ) → y ≢ b → get_or (set l.ranks b l.settled) y 0 ≡ get_or l.ranks y 0
    rank_there y q = get_or-set_other l.ranks b y l.settled 0 q

    -- settled before, or now
    done : (y : ℕ) → y < bins_of p → get_or (set l.ranks b l.settled) y 0 < l.settled + 1 → (y ≡ b) ⊎ (get_or l.ranks y 0 < l.settled)
    done y m r = elim (cases_eq y b) [ inl q ↦ inl q | inr q ↦ elim (h.cases y m) [ inl w ↦ absurd (omega (arith, rank_there y q, few)) | inr k ↦ inr k ] ]

    -- no distance rises, and none falls below that of b
    below : (y : ℕ) → get_or new.distances y 0 ≤ get_or l.distances y 0
    below y = distance_falls p ats (WayFrom p ats us vs b (get_or l.distances b 0)) (settled_at b g cost2 end2) new x.changed y

    lowered : (y : ℕ) → IsLowered p ats (WayFrom p ats us vs b (get_or l.distances b 0)) (settled_at b g cost2 end2) new y → get_or l.distances b 0 ≤ get_or new.distances y 0
    lowered y k = omega (arith, k.way.2, sound.priced (get_or new.vias y 0) y k.way.1)

    -- settled bins keep their distances
    final : (y : ℕ) → get_or l.distances y 0 ≤ get_or l.distances b 0 → get_or new.distances y 0 ≡ get_or l.distances y 0
    final y m = elim (x.changed.change y) [ inl k ↦ k.distance | inr k ↦ absurd (omega (arith, k.below, lowered y k)) ]

    up_to_b : (y : ℕ) → y < bins_of p → (y ≡ b) ⊎ (get_or l.ranks y 0 < l.settled) → get_or l.distances y 0 ≤ get_or l.distances b 0
    up_to_b y m (inl q) = let e = ap (λ (i : ℕ). get_or l.distances i 0) q in omega arith
    up_to_b y m (inr k) = h.order b y in_range m k waits

    still : (y : ℕ) → y < bins_of p → get_or (set l.ranks b l.settled) y 0 < l.settled + 1 → get_or new.distances y 0 ≡ get_or l.distances y 0
    still y m r = final y (up_to_b y m (done y m r))

    -- a bin that still is not settled
    waiting : (y : ℕ) → y < bins_of p → get_or (set l.ranks b l.settled) y 0 ≡ bins_of p → (y ≢ b) × (get_or l.ranks y 0 ≡ bins_of p)
    waiting y m r = elim (cases_eq y b) [ inl q ↦ absurd (let e = ap (λ (i : ℕ). get_or (set l.ranks b l.settled) i 0) q in omega (arith, rank_here, few)) | inr q ↦ (q, sym (rank_there y q) ∙ r) ]

    least_left : (y : ℕ) → y < bins_of p → get_or (set l.ranks b l.settled) y 0 ≡ bins_of p → get_or l.distances b 0 ≤ get_or new.distances y 0
    least_left y m r = elim (x.changed.change y) [ inl k ↦ omega (arith, k.distance, n.least y (omega (arith, h.sizes.distances)) ((waiting y m r).1 ∙ sym h.sizes.ranks)) | inr k ↦ lowered y k ]

    relaxed2 : (t y c : ℕ) → seat ats t ≡ Some y → get_or (set l.ranks b l.settled) y 0 < l.settled + 1 → get_or new.distances y 0 < new.cost → IsAllowed p t c → get_or new.distances c 0 + weight_of p t c ≤ get_or new.distances y 0 + (get_or us t 0 + get_or vs c 0)
    relaxed2 t y c e r m a =
        let k = seat_bin t y e in
        let keep = still y k r in
        elim (done y k r) [
          | inl q ↦ (let i = ap (λ (j : ℕ). get_or l.distances j 0) q in omega (arith, x.done t c (omega arith) (subst (λ (j : ℕ). seat ats t ≡ Some j) q e) a, keep, i))
          | inr q ↦ omega (arith, h.relaxed t y c e q (omega (arith, keep, cheaper)) a, below c, keep)
        ]

    full2 : (y : ℕ) → y < bins_of p → get_or new.distances y 0 < new.cost → capacity_of p y ≤ used ats y
    full2 y m lt = elim (x.changed.change y) [
      | inl k ↦ h.full y m (omega (arith, k.distance, cheaper))
      | inr k ↦ elim (cases_lt (used ats y) (capacity_of p y)) [ inl r ↦ absurd (omega (arith, k.room r)) | inr r ↦ r ]
    ]

    rank_up : (y z : ℕ) → y < bins_of p → z < bins_of p → get_or l.ranks y 0 < get_or l.ranks z 0 → get_or (set l.ranks b l.settled) y 0 < get_or (set l.ranks b l.settled) z 0
    rank_up y z m k r =
        let y_settled : get_or l.ranks y 0 < l.settled = elim (h.cases y m) [ inl w ↦ absurd (elim (h.cases z k) [ inl i ↦ omega arith | inr i ↦ omega (arith, few) ]) | inr i ↦ i ] in
        let apart : y ≢ b = λ q. (let e = ap (λ (i : ℕ). get_or l.ranks i 0) q in absurd (omega (arith, waits, few))) in
        elim (cases_eq z b) [ inl q ↦ (let e = ap (λ (i : ℕ). get_or (set l.ranks b l.settled) i 0) q in omega (arith, rank_here, rank_there y apart)) | inr q ↦ omega (arith, rank_there y apart, rank_there z q) ]

    reached2 : (z t : ℕ) → z < bins_of p → get_or new.distances z 0 ≡ get_or l.distances z 0 → Reached p ats us vs s l.distances l.ranks z t → Reached p ats us vs s new.distances (set l.ranks b l.settled) z t
    reached2 z t m same (inl e) = inl (e.0, omega (arith, e.1, same))
    reached2 z t m same (inr e) =
        let k = seat_bin t e.0 e.1 in
        let r = rank_up e.0 z k m e.2 in
        let y_settled : get_or l.ranks e.0 0 < l.settled = elim (h.cases e.0 k) [ inl w ↦ absurd (elim (h.cases z m) [ inl i ↦ omega (arith, e.2) | inr i ↦ omega (arith, few, e.2) ]) | inr i ↦ i ] in
        let keep = final e.0 (up_to_b e.0 k (inr y_settled)) in
        inr (e.0, e.1, r, omega (arith, e.3, same, keep))

    parent2 : (z : ℕ) → z < bins_of p → get_or new.distances z 0 < get_or us s 0 → IsAllowed p (get_or new.vias z 0) z × Reached p ats us vs s new.distances (set l.ranks b l.settled) z (get_or new.vias z 0)
    parent2 z m lt = elim (x.changed.change z) [
      | inl k ↦
          let low : get_or l.distances z 0 < get_or us s 0 = omega (arith, k.distance) in
          let P : ℕ → Type 0 = λ t. IsAllowed p t z × Reached p ats us vs s new.distances (set l.ranks b l.settled) z t in
          subst P (sym k.via) (h.parents.allowed z m low, reached2 z (get_or l.vias z 0) m k.distance (h.parents.reached z m low))
      | inr k ↦
          let rank_z : get_or (set l.ranks b l.settled) z 0 ≡ bins_of p = elim (cases_lt (get_or (set l.ranks b l.settled) z 0) (l.settled + 1)) [
            | inl r ↦ absurd (omega (arith, still z m r, k.below))
            | inr r ↦ elim (cases_eq z b) [ inl q ↦ absurd (let e = ap (λ (i : ℕ). get_or (set l.ranks b l.settled) i 0) q in omega (arith, rank_here)) | inr q ↦ elim (h.cases z m) [ inl w ↦ rank_there z q ∙ w | inr w ↦ absurd (omega (arith, rank_there z q)) ] ]
          ] in
          let keep = final b (omega arith) in
          (k.way.1, inr (b, k.way.0, omega (arith, rank_here, few, rank_z), omega (arith, k.way.2, keep)))
    ]

    count2 : count_by (λ r. eqb r (bins_of p)) (set l.ranks b l.settled) + (l.settled + 1) ≡ bins_of p
    count2 =
        let one = sum_by-set (λ (r : ℕ). (let m : ℕ = cond (eqb r (bins_of p)) 1 0 in m)) l.ranks b l.settled 0 (omega (arith, in_range, h.sizes.ranks)) in
        omega (arith, one, open_one (bins_of p) (get_or l.ranks b 0) waits, closed_none (bins_of p) l.settled few, h.count)

    times_after : (y : ℕ) → times_in new.settled_bins y ≡ times_in l.settled_bins y + cond (eqb b y) 1 0
    times_after y = ap (λ (m : List ℕ). times_in m y) x.changed.settled_bins ∙ sum_by_push (λ (z : ℕ). (let n : ℕ = cond (eqb z y) 1 0 in n)) l.settled_bins b

    not_listed : times_in l.settled_bins b ≡ 0
    not_listed = elim (cases_lt 0 (times_in l.settled_bins b)) [ inl k ↦ absurd (omega (arith, (h.in_range b k).1, waits, few)) | inr k ↦ omega arith ]

    times_there : (y : ℕ) → y ≢ b → times_in new.settled_bins y ≡ times_in l.settled_bins y
    times_there y q = omega (arith, times_after y, other_test b y (λ z. q (sym z)))

    times_here : (y : ℕ) → y ≡ b → times_in new.settled_bins y ≡ 1
    times_here y q = omega (arith, times_after y, same_test b y (sym q), not_listed, ap (times_in l.settled_bins) q)

    settled_on : (y : ℕ) → get_or l.ranks y 0 < l.settled → get_or (set l.ranks b l.settled) y 0 < l.settled + 1
    settled_on y r = elim (cases_eq y b) [ inl q ↦ absurd (let e = ap (λ (m : ℕ). get_or l.ranks m 0) q in omega (arith, waits, few)) | inr q ↦ omega (arith, rank_there y q) ]

    -- an end that was found before, at the new distances
    end_kept : (end : End) → EndsAt p ats us s l.distances cost2 end → EndSettled (set l.ranks b l.settled) (l.settled + 1) end → new.cost ≡ cost2 → EndsAt p ats us s new.distances new.cost end
    end_kept Leave e r c = c ∙ e
    end_kept (Room y) e r c = (e.0, elim (x.changed.change y) [ inl k ↦ k.distance ∙ e.1 ∙ sym c | inr k ↦ absurd (omega (arith, k.below, k.room e.3, e.1)) ], omega (arith, e.2), e.3)
    end_kept (Uncover i y) e r c = (let k = still y (seat_bin i y e.0) r in (e.0, omega (arith, e.1, k), omega (arith, e.2)))

    end_settled_on : (end : End) → EndSettled l.ranks l.settled end → EndSettled (set l.ranks b l.settled) (l.settled + 1) end
    end_settled_on Leave r = tt
    end_settled_on (Room y) r = tt
    end_settled_on (Uncover i y) r = settled_on y r

    module _ (same : ((cost2 ≡ l.cost) × (end2 ≡ l.end)) ⊎ ((i : ℕ) × (end2 ≡ Uncover i b) × (seat ats i ≡ Some b) × (cost2 ≡ get_or l.distances b 0 + get_or us i 0) × (cost2 < l.cost))) where
      -- the end before the bin's items were relaxed
      end_before : EndsAt p ats us s l.distances cost2 end2 × EndSettled (set l.ranks b l.settled) (l.settled + 1) end2
      end_before = elim same [
        | inl q ↦ subst (λ (e : End). EndsAt p ats us s l.distances cost2 e × EndSettled (set l.ranks b l.settled) (l.settled + 1) e) (sym q.1)
            (subst (λ (m : ℕ). EndsAt p ats us s l.distances m l.end × EndSettled (set l.ranks b l.settled) (l.settled + 1) l.end) (sym q.0) (h.ends, end_settled_on l.end h.end_settled))
        | inr q ↦ subst (λ (e : End). EndsAt p ats us s l.distances cost2 e × EndSettled (set l.ranks b l.settled) (l.settled + 1) e) (sym q.1)
            ((q.2, q.3, omega (arith, q.4, h.least)), omega (arith, rank_here))
      ]

      end_after : EndsAt p ats us s new.distances new.cost new.end × EndSettled (set l.ranks b l.settled) (l.settled + 1) new.end
      end_after = elim x.changed.ends [
        | inl q ↦ subst (λ (e : End). EndsAt p ats us s new.distances new.cost e × EndSettled (set l.ranks b l.settled) (l.settled + 1) e) (sym q.1) (end_kept end2 end_before.0 end_before.1 q.0, end_before.1)
        | inr q ↦ subst (λ (e : End). EndsAt p ats us s new.distances new.cost e × EndSettled (set l.ranks b l.settled) (l.settled + 1) e) (sym q.is_room) ((q.in_range, q.distance, omega (arith, q.less, h.least), q.room), tt)
      ]

      pending_after : HasPendingBut l.distances l.ranks l.cost b g → HasPending new.distances (set l.ranks b l.settled) new.cost new.pending
      pending_after h2 = record {
        entry = λ z m r lt. (
            let lz : z < bins_of p = omega (arith, x.changed.distance_count, h.sizes.distances) in
            let w = waiting z lz (r ∙ length-set l.ranks b l.settled ∙ h.sizes.ranks) in
            elim (x.changed.change z) [
              | inl k ↦ subst (λ (i : ℕ). Contains new.pending (i, z)) (sym k.distance) (x.changed.kept _ (h2.entry z w.0 (omega (arith, h.sizes.distances)) (w.1 ∙ sym h.sizes.ranks) (omega (arith, k.distance, cheaper))))
              | inr k ↦ k.entry lt
            ]);
      }

      -- the search goes on
      goes_on_at : ((t : ℕ) → seat ats t ≡ Some b → cost2 ≤ get_or l.distances b 0 + get_or us t 0) → HasPendingBut l.distances l.ranks l.cost b g → IsSearching p ats us vs s (record new { ranks = set l.ranks b l.settled; settled = l.settled + 1 })
      goes_on_at kept pending = record {
        sizes = record {
          distances = x.changed.distance_count ∙ h.sizes.distances;
          vias = x.changed.via_count ∙ h.sizes.vias;
          ranks = length-set l.ranks b l.settled ∙ h.sizes.ranks;
        };
        least = omega (arith, h.least, cheaper);
        start = λ c a. omega (arith, h.start c a, below c);
        relaxed = relaxed2;
        full = full2;
        kept = λ t y e r. (let m = seat_bin t y e in let keep = still y m r in elim (done y m r) [
          | inl q ↦ (let k = ap (λ (i : ℕ). get_or l.distances i 0) q in omega (arith, kept t (subst (λ (i : ℕ). seat ats t ≡ Some i) q e), keep, k, cheaper))
          | inr k ↦ omega (arith, h.kept t y e k, keep, cheaper)
        ]);
        order = λ z y lz ly r w. omega (arith, still y ly r, up_to_b y ly (done y ly r), least_left z lz w);
        cases = λ y m. elim (cases_eq y b) [
          | inl q ↦ (let e = ap (λ (i : ℕ). get_or (set l.ranks b l.settled) i 0) q in inr (omega (arith, rank_here)))
          | inr q ↦ elim (h.cases y m) [ inl w ↦ inl (rank_there y q ∙ w) | inr w ↦ inr (omega (arith, rank_there y q)) ]
        ];
        count = count2;
        once = λ y. elim (cases_eq y b) [ inl q ↦ omega (arith, times_here y q) | inr q ↦ omega (arith, times_there y q, h.once y) ];
        listed = λ y m r. elim (cases_eq y b) [ inl q ↦ omega (arith, times_here y q) | inr q ↦ elim (done y m r) [ inl z ↦ absurd (q z) | inr k ↦ omega (arith, times_there y q, h.listed y m k) ] ];
        in_range = λ y k. elim (cases_eq y b) [
          | inl q ↦ (let e = ap (λ (i : ℕ). get_or (set l.ranks b l.settled) i 0) q in (omega (arith, in_range, q), omega (arith, rank_here)))
          | inr q ↦ (let old = h.in_range y (omega (arith, times_there y q)) in (old.0, settled_on y old.1))
        ];
        parents = record { allowed = λ z m lt. (parent2 z m lt).0; reached = λ z m lt. (parent2 z m lt).1 };
        pending = pending_after pending;
        ends = end_after.0;
        end_settled = end_after.1;
      }

      new_is : new ≡ record new { ranks = set l.ranks b l.settled; settled = l.settled + 1 }
      new_is = ap (λ (r : List ℕ). (let m : SearchState = record new { ranks = r } in m)) x.changed.ranks ∙ ap (λ (n : ℕ). (let m : SearchState = record new { ranks = set l.ranks b l.settled; settled = n } in m)) x.changed.settled

      pub goes_on : ((t : ℕ) → seat ats t ≡ Some b → cost2 ≤ get_or l.distances b 0 + get_or us t 0) → HasPendingBut l.distances l.ranks l.cost b g → IsSearching p ats us vs s new
      goes_on kept pending = subst (IsSearching p ats us vs s) (sym new_is) (goes_on_at kept pending)

-- the search goes on, by what the calls of one turn ensure
pub turn : (p : Problem) (ats : List (Option ℕ)) (us vs : List ℕ) (s : ℕ) (l one two three new : SearchState) (b : ℕ) → IsProblem p → IsSound p ats us vs → IsSearching p ats us vs s l
    → IsNearest l.distances l.ranks l.cost b → HasPendingBut l.distances l.ranks l.cost b one.pending
    → one ≡ record l { pending = one.pending } → two ≡ record one { ranks = set one.ranks b one.settled; settled = one.settled + 1; settled_bins = one.settled_bins ++ b ∷ [] } → IsNearerEnd ats us b two three
    → IsExpanded p ats us vs b (get_or three.distances b 0) three new → IsSearching p ats us vs s new
turn p ats us vs s l one two three new b valid sound h n pending e1 e2 k x =
    let two_is : two ≡ record l { pending = one.pending; ranks = set l.ranks b l.settled; settled = l.settled + 1; settled_bins = l.settled_bins ++ b ∷ [] } = e2 ∙ ap (λ (m : SearchState). (let r : SearchState = record m { ranks = set m.ranks b m.settled; settled = m.settled + 1; settled_bins = m.settled_bins ++ b ∷ [] } in r)) e1 in
    let three_is : three ≡ settled_at p ats us vs s l valid sound h b one.pending three.cost three.end = k.rest ∙ ap (λ (m : SearchState). (let r : SearchState = record m { cost = three.cost; end = three.end } in r)) two_is in
    let x2 = subst (λ (m : SearchState). IsExpanded p ats us vs b (get_or m.distances b 0) m new) three_is x in
    let k2 = subst (λ (m : SearchState). IsNearerEnd ats us b m three) two_is k in
    goes_on p ats us vs s l valid sound h b n one.pending three.cost three.end new k2.less x2 k2.same k2.least pending

count_replicate : (n m : ℕ) → count_by (λ (r : ℕ). eqb r m) (replicate n m) ≡ n
count_replicate zero m = refl
count_replicate (suc n) m = omega (arith, sum_by-cons (λ (r : ℕ). (let k : ℕ = cond (eqb r m) 1 0 in k)) m (replicate n m), count_replicate n m, open_one m m refl)

-- the pairs of the new item were relaxed
module _ (p : Problem) (ats : List (Option ℕ)) (us vs : List ℕ) (s top : ℕ) (first l : SearchState) (is_top : top ≡ get_or us s 0) (ds : first.distances ≡ replicate (bins_of p) top) (vc : length first.vias ≡ bins_of p) (rs : first.ranks ≡ replicate (bins_of p) (bins_of p)) (cs : first.cost ≡ top) (es : first.end ≡ Leave) (ss : first.settled ≡ 0) (bs : first.settled_bins ≡ []) (x : IsRelaxed p ats vs s top (length (row_of p s)) first l) where
  at_top : (b : ℕ) → b < bins_of p → get_or first.distances b 0 ≡ top
  at_top b m = ap (λ (d : List ℕ). get_or d b 0) ds ∙ get_or-replicate (bins_of p) b top 0 m

  rank_all : (b : ℕ) → b < bins_of p → get_or l.ranks b 0 ≡ bins_of p
  rank_all b m = ap (λ (d : List ℕ). get_or d b 0) (x.changed.ranks ∙ rs) ∙ get_or-replicate (bins_of p) b (bins_of p) 0 m

  none_settled : l.settled ≡ 0
  none_settled = x.changed.settled ∙ ss

  none_listed : (y : ℕ) → times_in l.settled_bins y ≡ 0
  none_listed y = ap (λ (m : List ℕ). times_in m y) (x.changed.settled_bins ∙ bs)

  cost_most : l.cost ≤ top
  cost_most = elim x.changed.ends [ inl q ↦ omega (arith, q.0) | inr q ↦ omega (arith, q.less) ]

  count_bins : length l.distances ≡ bins_of p
  count_bins = x.changed.distance_count ∙ ap length ds ∙ length-replicate (bins_of p) top

  start0 : (b : ℕ) → IsAllowed p s b → get_or l.distances b 0 + weight_of p s b ≤ get_or us s 0 + get_or vs b 0
  start0 b a =
      let place = place_of p s b a in
      let P : ℕ → Type 0 = λ c. get_or l.distances c 0 + weight_of p s c ≤ top + get_or vs c 0 in
      let done = subst P place.2 (x.done place.0 place.1) in
      omega (arith, done)

  full0 : (y : ℕ) → y < bins_of p → get_or l.distances y 0 < l.cost → capacity_of p y ≤ used ats y
  full0 y m lt = elim (x.changed.change y) [
    | inl k ↦ absurd (omega (arith, k.distance, at_top y m, cost_most))
    | inr k ↦ elim (cases_lt (used ats y) (capacity_of p y)) [ inl r ↦ absurd (omega (arith, k.room r)) | inr r ↦ r ]
  ]

  parent0 : (b : ℕ) → b < bins_of p → get_or l.distances b 0 < get_or us s 0 → IsAllowed p (get_or l.vias b 0) b × Reached p ats us vs s l.distances l.ranks b (get_or l.vias b 0)
  parent0 b m lt = elim (x.changed.change b) [
    | inl k ↦ absurd (omega (arith, k.distance, at_top b m))
    | inr k ↦ subst (λ (t : ℕ). IsAllowed p t b × Reached p ats us vs s l.distances l.ranks b t) (sym k.way.0) (k.way.1, inl (refl, omega (arith, k.way.2)))
  ]

  end0 : EndsAt p ats us s l.distances l.cost l.end × EndSettled l.ranks l.settled l.end
  end0 = elim x.changed.ends [
    | inl q ↦ subst (λ (e : End). EndsAt p ats us s l.distances l.cost e × EndSettled l.ranks l.settled e) (sym (q.1 ∙ es)) (q.0 ∙ cs ∙ is_top, tt)
    | inr q ↦ subst (λ (e : End). EndsAt p ats us s l.distances l.cost e × EndSettled l.ranks l.settled e) (sym q.is_room) ((q.in_range, q.distance, omega (arith, q.less), q.room), tt)
  ]

  pub search_starts : IsSearching p ats us vs s l
  search_starts = record {
    sizes = record { distances = count_bins; vias = x.changed.via_count ∙ vc; ranks = ap length (x.changed.ranks ∙ rs) ∙ length-replicate (bins_of p) (bins_of p) };
    least = omega (arith, cost_most);
    start = start0;
    relaxed = λ t y b e r m a. absurd (omega (arith, none_settled));
    full = full0;
    kept = λ t y e r. absurd (omega (arith, none_settled));
    order = λ z y lz ly r w. absurd (omega (arith, none_settled));
    cases = λ y m. inl (rank_all y m);
    count = (let c = ap (λ (m : List ℕ). count_by (λ (r : ℕ). eqb r (bins_of p)) m) (x.changed.ranks ∙ rs) in omega (arith, c, count_replicate (bins_of p) (bins_of p), none_settled));
    once = λ y. omega (arith, none_listed y);
    listed = λ y m r. absurd (omega (arith, none_settled));
    in_range = λ y k. absurd (omega (arith, none_listed y));
    parents = record { allowed = λ b m lt. (parent0 b m lt).0; reached = λ b m lt. (parent0 b m lt).1 };
    pending = record {
      entry = λ b m r lt. elim (x.changed.change b) [
        | inl k ↦ absurd (omega (arith, k.distance, at_top b (omega (arith, count_bins)), cost_most))
        | inr k ↦ k.entry lt
      ];
    };
    ends = end0.0;
    end_settled = end0.1;
  }
