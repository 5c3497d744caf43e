-- The price step keeps the matching sound, and makes the pairs on the way to the end tight.
use Rattle.std.proofs.Common.{◌≡◌, ◌+◌, ◌<◌, ◌≤◌, ◌≢◌, ℕ, List, Option, Some, None, inl, inr, ◌⊎◌, get_or, refl, sym, ap, subst, arith}
use Rattle.std.specs.Prelude.{slice_index}
use Rattle.std.proofs.lemmas.Bool.{cases_eq, cases_lt}
use Rattle.std.proofs.lemmas.List.{get_or_past}
use Rattle.price_certificate.specs.Problem.{Problem, IsProblem, bins_of, capacity_of, weight_of, IsAllowed}
use Rattle.assign_engine.specs.Seats.{seat, used, IsSound, IsWaiting}
use Rattle.assign_engine.specs.Searched.{IsSearched, Reached, HasParents, IsRepriced, IsNear, HasTrail}
use Rattle.price_certificate.proofs.InstanceRows.{allowed_bin}

module _ (p : Problem) (ats : List (Option ℕ)) (us vs : List ℕ) (s : ℕ) (distances : List ℕ) (cost : ℕ) (lower higher : List ℕ) (valid : IsProblem p) (h : IsSound p ats us vs) (new : seat ats s ≡ None) (f : IsSearched p ats us vs s distances cost) (r : IsRepriced p ats us vs s distances cost lower higher) where
  -- a bin's price does not fall
  rises : (b : ℕ) → b < bins_of p → get_or vs b 0 ≤ get_or higher b 0
  rises b l = elim (cases_lt (get_or distances b 0) cost) [ inl n ↦ omega (arith, r.near_bin b l n) | inr n ↦ omega (arith, r.far_bin b l n) ]

  -- the new item's pairs
  priced_new : (b : ℕ) → IsAllowed p s b → weight_of p s b ≤ get_or lower s 0 + get_or higher b 0
  priced_new b a =
      let l = allowed_bin p valid s b a in
      elim (cases_lt (get_or distances b 0) cost) [ inl n ↦ omega (arith, r.near_bin b l n, r.new, f.start b a) | inr n ↦ omega (arith, r.far_bin b l n, r.new, f.start b a) ]

  priced_near : (t y b : ℕ) → seat ats t ≡ Some y → get_or distances y 0 < cost → IsAllowed p t b → weight_of p t b ≤ get_or lower t 0 + get_or higher b 0
  priced_near t y b e n a =
      let l = allowed_bin p valid t b a in
      elim (cases_lt (get_or distances b 0) cost) [ inl m ↦ omega (arith, r.near_bin b l m, r.near t y e n, f.relaxed t y b e n a) | inr m ↦ omega (arith, r.far_bin b l m, r.near t y e n, f.relaxed t y b e n a) ]

  priced_at : (t b : ℕ) → IsAllowed p t b → (o : Option ℕ) → seat ats t ≡ o → weight_of p t b ≤ get_or lower t 0 + get_or higher b 0
  priced_at t b a None e =
      elim (cases_eq t s) [ inl i ↦ subst (λ (m : ℕ). weight_of p m b ≤ get_or lower m 0 + get_or higher b 0) (sym i) (priced_new b (subst (λ (m : ℕ). IsAllowed p m b) i a)) | inr d ↦ omega (arith, r.out t d e, rises b (allowed_bin p valid t b a), h.priced t b a) ]
  priced_at t b a (Some y) e =
      elim (cases_lt (get_or distances y 0) cost) [ inl n ↦ priced_near t y b e n a | inr n ↦ omega (arith, r.far t y e n, rises b (allowed_bin p valid t b a), h.priced t b a) ]

  tight_at : (t b : ℕ) → seat ats t ≡ Some b → get_or lower t 0 + get_or higher b 0 ≡ weight_of p t b
  tight_at t b e =
      let l = allowed_bin p valid t b (h.allowed t b e) in
      elim (cases_lt (get_or distances b 0) cost) [ inl n ↦ omega (arith, r.near t b e n, r.near_bin b l n, h.tight t b e) | inr n ↦ omega (arith, r.far t b e n, r.far_bin b l n, h.tight t b e) ]

  full_at : (b : ℕ) → 0 < get_or higher b 0 → capacity_of p b ≤ used ats b
  full_at b g = elim (cases_lt b (bins_of p)) [
    | inl l ↦ elim (cases_lt (get_or distances b 0) cost) [ inl n ↦ f.full b l n | inr n ↦ h.full b (omega (arith, r.far_bin b l n)) ]
    | inr m ↦ absurd (omega (arith, get_or_past higher b 0 (omega (arith, r.bins))))
  ]

  pub repriced : IsSound p ats lower higher
  repriced = record {
    seats = h.seats;
    items = r.items;
    bins = r.bins;
    priced = λ t b a. priced_at t b a (seat ats t) refl;
    allowed = h.allowed;
    tight = tight_at;
    within = h.within;
    full = full_at;
  }

  -- who waits after the price step, but for the new item, waited before
  pub still_waits : (t : ℕ) → t ≢ s → IsWaiting ats lower t → IsWaiting ats us t
  still_waits t d w = (w.0, omega (arith, r.out t d w.0, w.1))

  module _ (vias ranks : List ℕ) (g : HasParents p ats us vs s distances vias ranks) (before : cost < get_or us s 0) where
    tight_link : (b t : ℕ) → IsNear p distances cost b → IsAllowed p t b → Reached p ats us vs s distances ranks b t → get_or lower t 0 + get_or higher b 0 ≡ weight_of p t b
    tight_link b t n a (inl e) =
        let u : get_or us t 0 ≡ get_or us s 0 = ap (λ (m : ℕ). get_or us m 0) e.0 in
        let w : get_or lower t 0 ≡ get_or lower s 0 = ap (λ (m : ℕ). get_or lower m 0) e.0 in
        elim (cases_lt (get_or distances b 0) cost) [ inl m ↦ omega (arith, r.near_bin b n.in_range m, r.new, n.within, u, w) | inr m ↦ omega (arith, r.far_bin b n.in_range m, r.new, n.within, u, w) ]
    tight_link b t n a (inr e) =
        let q = h.priced t b a in
        elim (cases_lt (get_or distances b 0) cost) [
          | inl m ↦ omega (arith, r.near_bin b n.in_range m, r.near t e.0 e.1 (omega (arith, q)), e.3)
          | inr m ↦ elim (cases_lt (get_or distances e.0 0) cost) [ inl k ↦ omega (arith, r.far_bin b n.in_range m, r.near t e.0 e.1 k, e.3, n.within) | inr k ↦ omega (arith, r.far_bin b n.in_range m, r.far t e.0 e.1 k, e.3, n.within, q) ]
        ]

    back_link : (b t : ℕ) → IsNear p distances cost b → IsAllowed p t b → Reached p ats us vs s distances ranks b t → (t ≡ s) ⊎ ((y : ℕ) × (seat ats t ≡ Some y) × (slice_index ranks y < slice_index ranks b) × IsNear p distances cost y)
    back_link b t n a (inl e) = inl e.0
    back_link b t n a (inr e) =
        let q = h.priced t b a in
        let le : get_or distances e.0 0 ≤ get_or distances b 0 = omega (arith, e.3, q) in
        inr (e.0, e.1, e.2, record { in_range = allowed_bin p valid t e.0 (h.allowed t e.0 e.1); within = omega (arith, n.within) })

    pub has_trail : HasTrail p ats lower higher s distances vias ranks cost
    has_trail = record {
      allowed = λ b n. g.allowed b n.in_range (omega (arith, n.within, before));
      tight = λ b n. tight_link b (get_or vias b 0) n (g.allowed b n.in_range (omega (arith, n.within, before))) (g.reached b n.in_range (omega (arith, n.within, before)));
      back = λ b n. back_link b (get_or vias b 0) n (g.allowed b n.in_range (omega (arith, n.within, before))) (g.reached b n.in_range (omega (arith, n.within, before)));
    }
