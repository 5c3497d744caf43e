-- Changes of the tables, one after another.
use Rattle.std.proofs.Common.{◌≡◌, ◌<◌, ◌≤◌, ℕ, List, Option, Contains, inl, inr, ◌⊎◌, length, get_or, set, refl, sym, ap, ◌∙◌, subst, arith}
use Rattle.std.proofs.lemmas.Bool.{cases_eq}
use Rattle.std.proofs.lemmas.List.{get_or-set_same, get_or-set_other, length-set}
use Rattle.price_certificate.specs.Problem.{Problem, bins_of, capacity_of}
use Rattle.assign_engine.specs.Seats.{used}
use Rattle.assign_engine.specs.SearchTables.{SearchState}
use Rattle.assign_engine.specs.declared.ends.End.TheVariants.{Room}
use Rattle.assign_engine.specs.Changed.{IsSame, IsLowered, IsNewEnd, IsChanged, IsNoted}

-- nothing changed
pub changed_none : (p : Problem) (ats : List (Option ℕ)) (Way : ℕ → ℕ → ℕ → Type 0) (l : SearchState) → IsChanged p ats Way l l
changed_none p ats Way l = record {
  distance_count = refl;
  via_count = refl;
  ranks = refl;
  settled = refl;
  settled_bins = refl;
  change = λ b. inl (record { distance = refl; via = refl });
  kept = λ e m. m;
  ends = inl (refl, refl);
}

-- the best end never costs more
pub cost_falls : (p : Problem) (ats : List (Option ℕ)) (Way : ℕ → ℕ → ℕ → Type 0) (old new : SearchState) → IsChanged p ats Way old new → new.cost ≤ old.cost
cost_falls p ats Way old new h = elim h.ends [ inl s ↦ omega (arith, s.0) | inr n ↦ omega (arith, n.less) ]

-- no distance rises
pub distance_falls : (p : Problem) (ats : List (Option ℕ)) (Way : ℕ → ℕ → ℕ → Type 0) (old new : SearchState) → IsChanged p ats Way old new → (b : ℕ) → get_or new.distances b 0 ≤ get_or old.distances b 0
distance_falls p ats Way old new h b = elim (h.change b) [ inl s ↦ omega (arith, s.distance) | inr n ↦ omega (arith, n.below) ]

-- ways of one kind are ways of another
pub changed_by : (p : Problem) (ats : List (Option ℕ)) (Way Other : ℕ → ℕ → ℕ → Type 0) (old new : SearchState) → ((t b x : ℕ) → Way t b x → Other t b x) → IsChanged p ats Way old new → IsChanged p ats Other old new
changed_by p ats Way Other old new f h = record {
  distance_count = h.distance_count;
  via_count = h.via_count;
  ranks = h.ranks;
  settled = h.settled;
  settled_bins = h.settled_bins;
  change = λ b. elim (h.change b) [ inl s ↦ inl s | inr n ↦ inr (record { below = n.below; way = f _ _ _ n.way; entry = n.entry; room = n.room }) ];
  kept = h.kept;
  ends = h.ends;
}

module _ (p : Problem) (ats : List (Option ℕ)) (Way : ℕ → ℕ → ℕ → Type 0) (one two three : SearchState) (h : IsChanged p ats Way one two) (k : IsChanged p ats Way two three) where
  same_after : (b : ℕ) → IsSame two three b → IsSame one two b ⊎ IsLowered p ats Way one two b → IsSame one three b ⊎ IsLowered p ats Way one three b
  same_after b s (inl r) = inl (record { distance = s.distance ∙ r.distance; via = s.via ∙ r.via })
  same_after b s (inr r) =
      let c = cost_falls p ats Way two three k in
      inr (record {
        below = omega (arith, s.distance, r.below);
        way = subst (λ (x : ℕ). Way (get_or three.vias b 0) b x) (sym s.distance) (subst (λ (t : ℕ). Way t b (get_or two.distances b 0)) (sym s.via) r.way);
        entry = λ l. subst (λ (x : ℕ). Contains three.pending (x, b)) (sym s.distance) (k.kept _ (r.entry (omega (arith, s.distance))));
        room = λ l. omega (arith, r.room l, s.distance);
      })

  lowered_after : (b : ℕ) → IsLowered p ats Way two three b → IsLowered p ats Way one three b
  lowered_after b s = record { below = omega (arith, s.below, distance_falls p ats Way one two h b); way = s.way; entry = s.entry; room = s.room }

  ends_after : ((two.cost ≡ one.cost) × (two.end ≡ one.end)) ⊎ IsNewEnd p ats one two → ((three.cost ≡ two.cost) × (three.end ≡ two.end)) ⊎ IsNewEnd p ats two three → ((three.cost ≡ one.cost) × (three.end ≡ one.end)) ⊎ IsNewEnd p ats one three
  ends_after (inl r) (inl s) = inl (s.0 ∙ r.0, s.1 ∙ r.1)
  ends_after (inr r) (inl s) = inr (record {
    bin = r.bin;
    in_range = r.in_range;
    is_room = s.1 ∙ r.is_room;
    distance = elim (k.change r.bin) [
      | inl e ↦ e.distance ∙ r.distance ∙ sym s.0
      | inr e ↦ absurd (omega (arith, e.below, e.room r.room, r.distance, s.0))
    ];
    less = omega (arith, s.0, r.less);
    room = r.room;
  })
  ends_after r (inr s) = inr (record {
    bin = s.bin;
    in_range = s.in_range;
    is_room = s.is_room;
    distance = s.distance;
    less = omega (arith, s.less, cost_falls p ats Way one two h);
    room = s.room;
  })

  -- one change after another
  pub changed_after : IsChanged p ats Way one three
  changed_after = record {
    distance_count = k.distance_count ∙ h.distance_count;
    via_count = k.via_count ∙ h.via_count;
    ranks = k.ranks ∙ h.ranks;
    settled = k.settled ∙ h.settled;
    settled_bins = k.settled_bins ∙ h.settled_bins;
    change = λ b. elim (k.change b) [ inl s ↦ same_after b s (h.change b) | inr s ↦ inr (lowered_after b s) ];
    kept = λ e m. k.kept e (h.kept e m);
    ends = ends_after h.ends k.ends;
  }

-- one bin was lowered and noted
pub changed_one : (p : Problem) (ats : List (Option ℕ)) (Way : ℕ → ℕ → ℕ → Type 0) (old new : SearchState) (b x t : ℕ) → b < bins_of p → b < length old.distances → b < length old.vias → x < get_or old.distances b 0 → Way t b x
    → IsNoted p ats b (record old { distances = set old.distances b x; vias = set old.vias b t }) new → IsChanged p ats Way old new
changed_one p ats Way old new b x t l ld lv lt w n =
    let at_d : get_or new.distances b 0 ≡ x = ap (λ (m : List ℕ). get_or m b 0) n.distances ∙ get_or-set_same old.distances b x 0 ld in
    let at_v : get_or new.vias b 0 ≡ t = ap (λ (m : List ℕ). get_or m b 0) n.vias ∙ get_or-set_same old.vias b t 0 lv in
    let here : get_or (set old.distances b x) b 0 ≡ x = get_or-set_same old.distances b x 0 ld in
    let low : IsLowered p ats Way old new b = record {
      below = omega (arith, at_d);
      way = subst (λ (m : ℕ). Way (get_or new.vias b 0) b m) (sym at_d) (subst (λ (m : ℕ). Way m b x) (sym at_v) w);
      entry = λ c. subst (λ (m : ℕ). Contains new.pending (m, b)) (here ∙ sym at_d) (n.entry (omega (arith, here, at_d)));
      room = λ r. omega (arith, n.room r, here, at_d);
    } in
    record {
      distance_count = ap length n.distances ∙ length-set old.distances b x;
      via_count = ap length n.vias ∙ length-set old.vias b t;
      ranks = n.ranks;
      settled = n.settled;
      settled_bins = n.settled_bins;
      change = λ c. elim (cases_eq c b) [
        | inl q ↦ inr (subst (λ (m : ℕ). IsLowered p ats Way old new m) (sym q) low)
        | inr q ↦ inl (record { distance = ap (λ (m : List ℕ). get_or m c 0) n.distances ∙ get_or-set_other old.distances b c x 0 q; via = ap (λ (m : List ℕ). get_or m c 0) n.vias ∙ get_or-set_other old.vias b c t 0 q })
      ];
      kept = n.kept;
      ends = elim n.ends [
        | inl s ↦ inl s
        | inr s ↦ inr (record { bin = b; in_range = l; is_room = s.0; distance = at_d ∙ sym here ∙ sym s.1; less = omega (arith, s.1, s.2); room = s.3 })
      ];
    }

-- a bin with room is noted as an end
pub noted_room : (p : Problem) (ats : List (Option ℕ)) (b x : ℕ) (old new : SearchState) → new ≡ record old { cost = x; end = Room b } → x ≡ get_or old.distances b 0 → x < old.cost → used ats b < capacity_of p b → IsNoted p ats b old new
noted_room p ats b x old new e d l r = subst (λ (m : SearchState). IsNoted p ats b old m) (sym e) (record {
  distances = refl;
  vias = refl;
  ranks = refl;
  settled = refl;
  settled_bins = refl;
  kept = λ q m. m;
  entry = λ k. absurd (omega arith);
  room = λ k. omega arith;
  ends = inr (refl, d, omega arith, r);
})
