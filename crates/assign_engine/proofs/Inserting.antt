-- The walk from the end of a search back to the new item.
use Rattle.std.proofs.Common.{◌≡◌, ◌+◌, ◌<◌, ◌≤◌, ◌≢◌, eqb, cond, ℕ, List, Option, Some, None, inl, inr, get_or, set, refl, sym, ap, ◌∙◌, subst, arith}
use Rattle.std.proofs.lemmas.Bool.{cases_eq}
use Rattle.std.proofs.lemmas.Bool.Decides.{nat_tests}
use Rattle.std.proofs.lemmas.Option.{none-some, same_Some}
use Rattle.price_certificate.specs.Problem.{Problem, IsProblem, capacity_of, weight_of, IsAllowed}
use Rattle.assign_engine.specs.Seats.{seat, used, IsSound, IsWaiting}
use Rattle.assign_engine.specs.Searched.{IsNear, HasTrail, IsWalking, IsInserted}
use Rattle.assign_engine.specs.Searching.{EndsAt, EndFree, HasWay, target_of}
use Rattle.assign_engine.specs.declared.ends.End.{End}
use Rattle.assign_engine.specs.declared.ends.End.TheVariants.{Leave, Room, Uncover}
use Rattle.assign_engine.proofs.Walking.{walk_to_room, walk_to_item, walk_on, walk_ends}
use Rattle.price_certificate.proofs.InstanceRows.{allowed_bin}

one_more : (cap n y x : ℕ) → n < cap → n + cond (eqb y x) 1 0 ≤ cap
one_more cap n y x l = grind (arith, nat_tests)

no_more : (cap n y x : ℕ) → x ≢ y → n ≤ cap → n + cond (eqb y x) 1 0 ≤ cap
no_more cap n y x d l = let e : y ≢ x = λ q. d (sym q) in grind (arith, nat_tests)

room_target : (cap n y x : ℕ) → n ≤ cap → (x ≡ y → n < cap) → n + cond (eqb y x) 1 0 ≤ cap
room_target cap n y x l h = elim (cases_eq x y) [ inl e ↦ one_more cap n y x (h e) | inr d ↦ no_more cap n y x d l ]

module _ (p : Problem) (old : List (Option ℕ)) (us vs : List ℕ) (s : ℕ) (d vias ranks : List ℕ) (cost : ℕ) (valid : IsProblem p) (h : IsSound p old us vs) (new : seat old s ≡ None) where
  at_room : (y : ℕ) → HasWay p old us vs s d vias ranks cost (Room y) → IsNear p d cost y × IsWalking p old us us vs s ranks (target_of (Room y) old) y old
  at_room y e = (e.1, walk_to_room p old us us vs s ranks (target_of (Room y) old) valid h y new (λ t k w. w) (λ x. refl))

  at_item : (i y : ℕ) → HasWay p old us vs s d vias ranks cost (Uncover i y) → IsNear p d cost y × IsWalking p old us us vs s ranks (target_of (Uncover i y) old) y (set old i None)
  at_item i y e = (e.1, walk_to_item p old us us vs s ranks (target_of (Uncover i y) old) valid h y i new (λ t k w. w) e.2 e.3 (λ x. refl))

  pub init_room : (end : End) (y hole : ℕ) (ats : List (Option ℕ)) → end ≡ Room y → hole ≡ y → ats ≡ old → HasWay p old us vs s d vias ranks cost end → HasTrail p old us vs s d vias ranks cost × IsNear p d cost hole × IsWalking p old us us vs s ranks (target_of end old) hole ats
  init_room end y hole ats ee he ae e =
      let q = subst (HasWay p old us vs s d vias ranks cost) ee e in
      let r = subst (λ (m : List (Option ℕ)). IsNear p d cost hole × IsWalking p old us us vs s ranks (target_of end old) hole m) (sym ae)
      (subst (λ (m : ℕ). IsNear p d cost m × IsWalking p old us us vs s ranks (target_of end old) m old) (sym he)
      (subst (λ (m : End). IsNear p d cost y × IsWalking p old us us vs s ranks (target_of m old) y old) (sym ee)
      (at_room y q))) in
      (q.0, r.0, r.1)

  pub init_item : (end : End) (i y hole : ℕ) (ats : List (Option ℕ)) → end ≡ Uncover i y → hole ≡ y → ats ≡ set old i None → HasWay p old us vs s d vias ranks cost end → HasTrail p old us vs s d vias ranks cost × IsNear p d cost hole × IsWalking p old us us vs s ranks (target_of end old) hole ats
  init_item end i y hole ats ee he ae e =
      let q = subst (HasWay p old us vs s d vias ranks cost) ee e in
      let r = subst (λ (m : List (Option ℕ)). IsNear p d cost hole × IsWalking p old us us vs s ranks (target_of end old) hole m) (sym ae)
      (subst (λ (m : ℕ). IsNear p d cost m × IsWalking p old us us vs s ranks (target_of end old) m (set old i None)) (sym he)
      (subst (λ (m : End). IsNear p d cost y × IsWalking p old us us vs s ranks (target_of m old) y (set old i None)) (sym ee)
      (at_item i y q))) in
      (q.0, r.0, r.1)

  target_most : (end : End) → HasWay p old us vs s d vias ranks cost end → (x : ℕ) → target_of end old x ≤ capacity_of p x
  target_most Leave e x = h.within x
  target_most (Room y) e x = room_target (capacity_of p x) (used old x) y x (h.within x) (λ q. subst (λ (m : ℕ). used old m < capacity_of p m) (sym q) e.2)
  target_most (Uncover i y) e x = h.within x

  target_least : (end : End) (x : ℕ) → 0 < get_or vs x 0 → capacity_of p x ≤ target_of end old x
  target_least Leave x l = h.full x l
  target_least (Room y) x l = omega (arith, h.full x l)
  target_least (Uncover i y) x l = h.full x l

  -- one step of the walk
  pub step : (target : ℕ → ℕ) (hole t b : ℕ) (ats : List (Option ℕ)) → HasTrail p old us vs s d vias ranks cost → IsNear p d cost hole → IsWalking p old us us vs s ranks target hole ats → t ≡ get_or vias hole 0 → seat ats t ≡ Some b → (IsNear p d cost b × IsWalking p old us us vs s ranks target b (set ats t (Some hole))) × (get_or ranks b 0 < get_or ranks hole 0)
  step target hole t b ats trail near w te e =
      let a : IsAllowed p t hole = subst (λ (m : ℕ). IsAllowed p m hole) (sym te) (trail.allowed hole near) in
      let q : get_or us t 0 + get_or vs hole 0 ≡ weight_of p t hole = subst (λ (m : ℕ). get_or us m 0 + get_or vs hole 0 ≡ weight_of p m hole) (sym te) (trail.tight hole near) in
      elim (trail.back hole near) [
        | inl k ↦ absurd (none-some b (sym w.new ∙ ap (seat ats) (sym (te ∙ k)) ∙ e))
        | inr k ↦
            (let seated : seat old t ≡ Some k.0 = ap (seat old) te ∙ k.1 in
            let yb : k.0 ≡ b = same_Some k.0 b (sym (w.same t k.0 seated k.2) ∙ e) in
            let r : get_or ranks b 0 < get_or ranks hole 0 = subst (λ (m : ℕ). get_or ranks m 0 < get_or ranks hole 0) yb k.2 in
            ((subst (λ (m : ℕ). IsNear p d cost m) yb k.3, walk_on p old us us vs s ranks target valid h hole t b ats w a q (seated ∙ ap Some yb) r), r))
      ]

  -- the end of the walk
  pub done : (end : End) (hole t : ℕ) (ats : List (Option ℕ)) → HasWay p old us vs s d vias ranks cost end → HasTrail p old us vs s d vias ranks cost → IsNear p d cost hole → IsWalking p old us us vs s ranks (target_of end old) hole ats → t ≡ get_or vias hole 0 → seat ats t ≡ None → IsInserted p old us s (set ats t (Some hole)) us vs
  done end hole t ats e trail near w te n =
      elim (trail.back hole near) [
        | inl k ↦
            (let ts : t ≡ s = te ∙ k in
            subst (λ (m : ℕ). IsInserted p old us s (set ats m (Some hole)) us vs) (sym ts)
            (walk_ends p old us us vs s ranks (target_of end old) valid h hole ats w
            (subst (λ (m : ℕ). IsAllowed p m hole) k (trail.allowed hole near))
            (subst (λ (m : ℕ). get_or us m 0 + get_or vs hole 0 ≡ weight_of p m hole) k (trail.tight hole near))
            (target_most end e) (target_least end)))
        | inr k ↦ absurd (none-some k.0 (sym n ∙ w.same t k.0 (ap (seat old) te ∙ k.1) k.2))
      ]

-- what the search and the price step owe the walk
pub way_after : (p : Problem) (ats : List (Option ℕ)) (us lower higher : List ℕ) (s : ℕ) (d vias ranks : List ℕ) (cost : ℕ) (end : End) → IsProblem p → IsSound p ats lower higher → EndsAt p ats us s d cost end → EndFree lower s end → (cost < get_or us s 0 → HasTrail p ats lower higher s d vias ranks cost) → HasWay p ats lower higher s d vias ranks cost end
way_after p ats us lower higher s d vias ranks cost Leave valid h e z trail = z
way_after p ats us lower higher s d vias ranks cost (Room y) valid h e z trail = (trail e.2, record { in_range = e.0; within = omega (arith, e.1) }, e.3)
way_after p ats us lower higher s d vias ranks cost (Uncover i y) valid h e z trail = (trail e.2, record { in_range = allowed_bin p valid i y (h.allowed i y e.0); within = omega (arith, e.1) }, e.0, z)

-- who waits after the price step waited before
pub inserted_from : (p : Problem) (old : List (Option ℕ)) (us lower higher : List ℕ) (s : ℕ) (ats : List (Option ℕ)) → ((t : ℕ) → t ≢ s → IsWaiting old lower t → IsWaiting old us t) → IsInserted p old lower s ats lower higher → IsInserted p old us s ats lower higher
inserted_from p old us lower higher s ats waits i = record { sound = i.sound; waiting = λ t w. (let k = i.waiting t w in (waits t k.1 k.0, k.1)) }
