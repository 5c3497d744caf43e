-- What stands beside each number: what is put down, and what is still to be put down.
use Rattle.std.proofs.Common.{◌≡◌, ℕ, zero, suc, ◌+◌, ◌<◌, ◌≤◌, List, [], ◌∷◌, ◌++◌, Bool, true, false, Option, Some, None, length, get_or, drop, cond, eqb, refl, sym, ap, ◌∙◌, arith, add-one, drop-cons}
use Rattle.std.specs.Prelude.{replicate}
use Rattle.std.specs.Option.{option_to_list}
use Rattle.fleet.specs.declared.collector.Collector.{Collector}
use Rattle.std.proofs.lemmas.List.{get_or-replicate, length-replicate}
use Rattle.fleet_assignment.specs.Beside.{beside}
use Rattle.fleet_assignment.specs.Allocation.{pair_by, pairs_from}
use Rattle.fleet_assignment.specs.Tables.{first_of, ArePlaced, PlacesAll, SetsPlace}

pub record PlacesLeft (pairs : List (ℕ × ℕ)) (i : ℕ) (old places : List (Option ℕ)) : Type 0 where
  pub same : length places ≡ length old
  pub at : (n : ℕ) → n < length old → first_of (get_or places n None) (beside (drop i pairs) n) ≡ first_of (get_or old n None) (beside pairs n)

pub places_start : (pairs : List (ℕ × ℕ)) (old : List (Option ℕ)) → PlacesLeft pairs 0 old old
places_start pairs old = record { same = refl; at = λ n l. refl }

step_by : (b : Bool) (old rest : Option ℕ) (x : ℕ) → first_of (cond b (first_of old (Some x)) old) rest ≡ first_of old (cond b (Some x) rest)
step_by true None rest x = refl
step_by true (Some y) rest x = refl
step_by false old rest x = refl

pub places_step :
    (pairs : List (ℕ × ℕ)) (i : ℕ) (q : ℕ × ℕ) (old places more : List (Option ℕ)) → i < length pairs → get_or pairs i (0, 0) ≡ q → PlacesLeft pairs i old places → SetsPlace q.0 q.1 places more → PlacesLeft pairs (i + 1) old more
places_step pairs i q old places more l is left sets =
    record {
      same = sets.same ∙ left.same;
      at = λ n bound.
          let rest : drop i pairs ≡ q ∷ drop (i + 1) pairs = drop-cons pairs i (0, 0) l ∙ ap (λ (r : ℕ × ℕ). r ∷ drop (suc i) pairs) is ∙ ap (λ (j : ℕ). q ∷ drop j pairs) (sym (add-one i)) in
          ap (λ (o : Option ℕ). first_of o (beside (drop (i + 1) pairs) n)) (sets.at n (omega (arith, left.same)))
          ∙ step_by (eqb q.0 n) (get_or places n None) (beside (drop (i + 1) pairs) n) q.1
          ∙ ap (λ (ps : List (ℕ × ℕ)). first_of (get_or places n None) (beside ps n)) (sym rest)
          ∙ left.at n bound;
    }

none_after : (o : Option ℕ) → first_of o None ≡ o
none_after None = refl
none_after (Some x) = refl

drop_past : (xs : List (ℕ × ℕ)) (i : ℕ) → length xs ≤ i → drop i xs ≡ []
drop_past [] zero l = refl
drop_past [] (suc i) l = refl
drop_past (x ∷ xs) zero l = absurd (omega arith)
drop_past (x ∷ xs) (suc i) l = drop_past xs i (omega arith)

pub places_end : (pairs : List (ℕ × ℕ)) (i : ℕ) (old places : List (Option ℕ)) → length pairs ≤ i → PlacesLeft pairs i old places → PlacesAll pairs old places
places_end pairs i old places l left =
    record {
      same = left.same;
      at = λ n bound. sym (none_after (get_or places n None)) ∙ ap (λ (ps : List (ℕ × ℕ)). first_of (get_or places n None) (beside ps n)) (sym (drop_past pairs i l)) ∙ left.at n bound;
    }

pub fresh_places : (pairs : List (ℕ × ℕ)) (n : ℕ) (old new : List (Option ℕ)) → old ≡ replicate n None → PlacesAll pairs old new → (length new ≡ n) × ArePlaced pairs new
fresh_places pairs n old new fresh all =
    let size : length old ≡ n = ap (λ (xs : List (Option ℕ)). length xs) fresh ∙ length-replicate n None in (
      all.same ∙ size,
      record {
        at = λ k bound. all.at k (omega (arith, all.same)) ∙ ap (λ (o : Option ℕ). first_of o (beside pairs k)) (ap (λ (xs : List (Option ℕ)). get_or xs k None) fresh ∙ get_or-replicate n k None None (omega (arith, all.same, size)));
      },
    )

pairs_by : (b c : Option ℕ) (jobs : ℕ) (collectors : List Collector) (target : ℕ) (xs ys : List (ℕ × ℕ)) → b ≡ c → xs ≡ ys → option_to_list (pair_by jobs collectors b target) ++ xs ≡ option_to_list (pair_by jobs collectors c target) ++ ys
pairs_by b c jobs collectors target xs ys e f = λ i. option_to_list (pair_by jobs collectors (e i) target) ++ f i

-- items with the same bins have the same pairs
pub pairs_alike :
    (jobs : ℕ) (collectors : List Collector) (f g : ℕ → Option ℕ) (item : ℕ) (live : List ℕ) → ((i : ℕ) → i < item + length live → f i ≡ g i) → pairs_from jobs collectors f item live ≡ pairs_from jobs collectors g item live
pairs_alike jobs collectors f g item [] same = refl
pairs_alike jobs collectors f g item (t ∷ live) same =
    pairs_by (f item) (g item) jobs collectors t (pairs_from jobs collectors f (item + 1) live) (pairs_from jobs collectors g (item + 1) live) (same item (omega arith))
    (pairs_alike jobs collectors f g (item + 1) live (λ i l. same i (omega arith)))
