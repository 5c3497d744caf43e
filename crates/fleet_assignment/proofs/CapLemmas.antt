-- What is within caps as a plan is within them as an allocation, and the other way round; so the best is the best.
use Rattle.std.proofs.Common.{◌≡◌, ℕ, ◌+◌, ◌*◌, List, Option, Some, length, cond, eqb, ap, ◌∙◌, inl, inr, arith}
use Rattle.std.specs.Prelude.{slice_get, slice_index}
use Rattle.std.specs.Option.{option_map_or}
use Rattle.price_certificate.specs.Assignment.{IsFeasible, left}
use Rattle.spread_certificate.specs.Within.{IsWithin, IsBestWithin as IsBestPlanWithin}
use Rattle.fleet.specs.IsFleet.{IsFleet}
use Rattle.fleet.specs.declared.collector.Collector.{Collector}
use Rattle.fleet_assignment.specs.Allocation.{allocation_of}
use Rattle.fleet_assignment.specs.Best.{IsOnce, IsSound}
use Rattle.fleet_assignment.specs.Instance.{instance_of}
use Rattle.fleet_assignment.specs.Within.{AreWithin, BestCoverMost, IsBestWithin, cap_at}
use Rattle.fleet_assignment.proofs.Moment.{Moment}
use Rattle.fleet_assignment.proofs.CountLemmas.{sum_by-map}
use Rattle.fleet_assignment.proofs.FitLemmas.{bin_of, item_of, place_is}
use Rattle.fleet_assignment.proofs.TransferLemmas.{allocation_leaves, allocation_size, allocation_sound, bin_share, moves_no_more, plan_feasible, plan_from, plan_leaves, plan_size}
use Rattle.fleet_assignment.proofs.WithinLemmas.{find_id, share_nobody, share_uses}

-- the cap on a share is that of its bin
cap_is :
    (m : Moment) (caps : List ℕ) (place collector job : ℕ) (one : Collector) → IsFleet m.fleet → slice_get m.fleet.collectors place ≡ Some one → one.id ≡ collector
    → cap_at m.fleet caps collector job ≡ slice_index caps (place * length m.fleet.jobs + job)
cap_is m caps place collector job one kept found is =
    ap (λ (o : Option ℕ). option_map_or (λ (p : ℕ). slice_index caps (p * length m.fleet.jobs + job)) o 0) (place_is m place collector one kept found is)

-- the allocation of a plan within the caps is within them
allocation_capped : (m : Moment) (caps : List ℕ) (plan : List (ℕ × ℕ)) → IsFleet m.fleet → IsFeasible (instance_of m.fleet m.before) plan → IsWithin caps plan → AreWithin m.fleet caps (allocation_of m.fleet plan)
allocation_capped m caps plan kept feasible within = λ collector job in_range. elim (find_id m.fleet.collectors collector) [
  | inl none ↦ omega (arith, share_nobody m plan collector job none)
  | inr h ↦
      omega (
        arith,
        share_uses m plan kept feasible collector job h,
        within (h.place * length m.fleet.jobs + job),
        cap_is m caps h.place collector job h.one kept h.found h.number,
      )
]

-- the plan of an allocation within the caps is within them
plan_capped : (m : Moment) (caps : List ℕ) (pairs : List (ℕ × ℕ)) → IsFleet m.fleet → IsSound m.fleet pairs → AreWithin m.fleet caps pairs → IsWithin caps (plan_from m pairs)
plan_capped m caps pairs kept sound within = λ bin.
    let same = sum_by-map (λ (r : ℕ × ℕ). cond (eqb r.1 bin) 1 0) (λ (q : ℕ × ℕ). (let r : ℕ × ℕ = (item_of m q.0, bin_of m q.0 q.1) in r)) pairs in
    elim (bin_share m pairs bin kept sound) [
      | inl none ↦ omega (arith, same, none)
      | inr s ↦
          omega (
            arith,
            same,
            s.few,
            within s.collector s.job s.home,
            cap_is m caps s.place s.collector s.job s.one kept s.found s.number,
            ap (λ (n : ℕ). slice_index caps n) s.is,
          )
    ]

-- the allocation of a plan that is the best within caps is the best within them
pub best_within : (m : Moment) (caps : List ℕ) (plan : List (ℕ × ℕ)) → IsFleet m.fleet → IsOnce m.before → IsBestPlanWithin caps (instance_of m.fleet m.before) plan → IsBestWithin m.fleet caps m.before (allocation_of m.fleet plan)
best_within m caps plan is_kept once best =
    let sound = allocation_sound m plan is_kept best.feasible in
    let size = allocation_size m plan is_kept best.feasible in
    record {
      sound = sound;
      within = allocation_capped m caps plan is_kept best.feasible best.within;
      covers = λ others fine. omega (arith, best.covers_most (plan_from m others) (plan_feasible m others is_kept fine), plan_size m others, size);
      leaves = λ others fine same.
          omega (arith, best.leaves_least (plan_from m others) (plan_feasible m others is_kept fine) (plan_size m others ∙ same ∙ size), plan_leaves m others is_kept fine, allocation_leaves m plan is_kept best.feasible);
      moves = λ others fine inside same alike.
          let leaves : left (instance_of m.fleet m.before) (plan_from m others) ≡ left (instance_of m.fleet m.before) plan = plan_leaves m others is_kept fine ∙ alike ∙ allocation_leaves m plan is_kept best.feasible in
          moves_no_more m plan others is_kept once best.feasible sound fine
          (best.moves_least (plan_from m others) (plan_feasible m others is_kept fine) (plan_capped m caps others is_kept fine inside) (plan_size m others ∙ same ∙ size) leaves);
    }

pub best_cover_most : BestCoverMost
best_cover_most = record {
  of_all = λ fleet before pairs best. record { sound = best.sound; covers = best.covers; leaves = best.leaves };
  within = λ fleet caps before pairs best. record { sound = best.sound; covers = best.covers; leaves = best.leaves };
}
