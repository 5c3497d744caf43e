-- The steps of the loops over an item's row and over a bin's items.
use Rattle.std.proofs.Common.{◌≡◌, ◌+◌, ◌<◌, ◌≤◌, ℕ, List, Option, Some, Contains, inl, inr, length, get_or, set, refl, sym, ap, ◌∙◌, subst, arith}
use Rattle.std.proofs.lemmas.Bool.{cases_eq}
use Rattle.std.proofs.lemmas.List.{get_or_default, get_or-set_same}
use Rattle.std.proofs.lemmas.List.Elements.{Contains-get_or}
use Rattle.price_certificate.specs.Problem.{Problem, IsProblem, row_of, weight_of, IsAllowed}
use Rattle.price_certificate.proofs.InstanceRows.{allowed_bin}
use Rattle.assign_engine.specs.Usable.{one_if}
use Rattle.assign_engine.specs.Seats.{sits, seat}
use Rattle.assign_engine.specs.Roll.{times_in}
use Rattle.assign_engine.specs.SearchTables.{SearchState}
use Rattle.assign_engine.specs.Changed.{WayOver, WayFrom, IsChanged, IsNoted, IsRelaxed, IsExpanding, IsExpanded}
use Rattle.assign_engine.proofs.Rolling.{one-there, times_place}
use Rattle.assign_engine.proofs.Changing.{distance_falls, changed_by, changed_after, changed_one}

pub allowed_in : (p : Problem) (t k : ℕ) (row : List ℕ) → row ≡ row_of p t → k < length row → IsAllowed p t (get_or row k 0)
allowed_in p t k row e l = subst (λ (r : List ℕ). Contains r (get_or row k 0)) e (Contains-get_or row k 0 l)

-- an allowed bin stands at some place of the row
pub place_of : (p : Problem) (t b : ℕ) → IsAllowed p t b → (k : ℕ) × (k < length (row_of p t)) × (get_or (row_of p t) k 0 ≡ b)
place_of p t b a = (a.0, a.1, get_or_default (row_of p t) a.0 0 b a.1 ∙ a.2)

module _ (p : Problem) (ats : List (Option ℕ)) (vs : List ℕ) (t base k b : ℕ) (old now : SearchState) (valid : IsProblem p) (h : IsRelaxed p ats vs t base k old now) (at_k : get_or (row_of p t) k 0 ≡ b) (a : IsAllowed p t b) where
  here_or_before : (P : ℕ → Type 0) → ((i : ℕ) → i < k → P (get_or (row_of p t) i 0)) → P b → (i : ℕ) → i < k + 1 → P (get_or (row_of p t) i 0)
  here_or_before P before here i l = elim (cases_eq i k) [
    | inl q ↦ subst P (sym (ap (λ (m : ℕ). get_or (row_of p t) m 0) q ∙ at_k)) here
    | inr q ↦ before i (omega arith)
  ]

  -- the way over t is no shorter
  pub relaxed_same : (new : SearchState) → new ≡ now → get_or now.distances b 0 + weight_of p t b ≤ base + get_or vs b 0 → IsRelaxed p ats vs t base (k + 1) old new
  relaxed_same new e le = subst (λ (m : SearchState). IsRelaxed p ats vs t base (k + 1) old m) (sym e) (record {
    changed = h.changed;
    done = here_or_before (λ c. get_or now.distances c 0 + weight_of p t c ≤ base + get_or vs c 0) h.done le;
  })

  -- the way over t is shorter
  pub relaxed_lower : (x : ℕ) (low noted new : SearchState) → new ≡ noted → low ≡ record now { distances = set now.distances b x; vias = set now.vias b t } → b < length now.distances → b < length now.vias → x < get_or now.distances b 0 → x + weight_of p t b ≡ base + get_or vs b 0 → IsNoted p ats b low noted → IsRelaxed p ats vs t base (k + 1) old new
  relaxed_lower x low noted new e le ld lv lt eq n =
      let noted_low = subst (λ (m : SearchState). IsNoted p ats b m noted) le n in
      let one : IsChanged p ats (WayOver p vs t base) now noted = changed_one p ats (WayOver p vs t base) now noted b x t (allowed_bin p valid t b a) ld lv lt (refl, a, eq) noted_low in
      let fall = λ (c : ℕ). distance_falls p ats (WayOver p vs t base) now noted one c in
      let at_b : get_or noted.distances b 0 ≡ x = ap (λ (m : List ℕ). get_or m b 0) noted_low.distances ∙ get_or-set_same now.distances b x 0 ld in
      subst (λ (m : SearchState). IsRelaxed p ats vs t base (k + 1) old m) (sym e) (record {
        changed = changed_after p ats (WayOver p vs t base) old now noted h.changed one;
        done = here_or_before (λ c. get_or noted.distances c 0 + weight_of p t c ≤ base + get_or vs c 0) (λ i l. omega (arith, h.done i l, fall (get_or (row_of p t) i 0))) (omega (arith, at_b));
      })

way_from : (p : Problem) (ats : List (Option ℕ)) (us vs : List ℕ) (y base t : ℕ) → seat ats t ≡ Some y → (via b x : ℕ) → WayOver p vs t (base + get_or us t 0) via b x → WayFrom p ats us vs y base via b x
way_from p ats us vs y base t s via b x w =
    let e : x + weight_of p t b ≡ base + (get_or us t 0 + get_or vs b 0) = omega (arith, w.2) in
    let P : ℕ → Type 0 = λ m. (seat ats m ≡ Some y) × IsAllowed p m b × (x + weight_of p m b ≡ base + (get_or us m 0 + get_or vs b 0)) in
    subst P (sym w.0) (s, w.1, e)

module _ (p : Problem) (ats : List (Option ℕ)) (us vs : List ℕ) (y base : ℕ) (items : List ℕ) (n : ℕ) (old now : SearchState) (h : IsExpanding p ats us vs y base items n old now) where
  -- the pairs of one more item were relaxed
  pub expanding_more : (t item_base : ℕ) (new : SearchState) → t ≡ get_or items n 0 → item_base ≡ base + get_or us t 0 → seat ats t ≡ Some y → IsRelaxed p ats vs t item_base (length (row_of p t)) now new → IsExpanding p ats us vs y base items (n + 1) old new
  expanding_more t item_base new te be s r =
      let r2 = subst (λ (m : ℕ). IsRelaxed p ats vs t m (length (row_of p t)) now new) be r in
      let one = changed_by p ats (WayOver p vs t (base + get_or us t 0)) (WayFrom p ats us vs y base) now new (way_from p ats us vs y base t s) r2.changed in
      let fall = λ (c : ℕ). distance_falls p ats (WayFrom p ats us vs y base) now new one c in
      let here = λ (b : ℕ) (a : IsAllowed p t b). (
      let place = place_of p t b a in
      let P : ℕ → Type 0 = λ c. get_or new.distances c 0 + weight_of p t c ≤ base + get_or us t 0 + get_or vs c 0 in
      let done = subst P place.2 (r2.done place.0 place.1) in
      let q : get_or new.distances b 0 + weight_of p t b ≤ base + (get_or us t 0 + get_or vs b 0) = omega (arith, done) in q) in
      record {
        changed = changed_after p ats (WayFrom p ats us vs y base) old now new h.changed one;
        done = λ k b l a. elim (cases_eq k n) [
          | inl q ↦
              let e : t ≡ get_or items k 0 = te ∙ ap (λ (m : ℕ). get_or items m 0) (sym q) in
              subst (λ (m : ℕ). get_or new.distances b 0 + weight_of p m b ≤ base + (get_or us m 0 + get_or vs b 0)) e (here b (subst (λ (m : ℕ). IsAllowed p m b) (sym e) a))
          | inr q ↦ omega (arith, h.done k b (omega arith) a, fall b)
        ];
      }

  -- the pairs of all items of the bin were relaxed
  pub expanded_all : length items ≤ n → ((t : ℕ) → times_in items t ≡ one_if (sits y (seat ats t))) → IsExpanded p ats us vs y base old now
  expanded_all l each = record {
    changed = h.changed;
    done = λ t b m s a.
        (let listed : 0 < times_in items t = omega (arith, each t, ap (λ (o : Option ℕ). one_if (sits y o)) s, one-there y) in
        let place = times_place items t listed in
        subst (λ (u : ℕ). get_or now.distances b 0 + weight_of p u b ≤ base + (get_or us u 0 + get_or vs b 0)) place.2 (h.done place.0 b (omega (arith, place.1)) (subst (λ (u : ℕ). IsAllowed p u b) (sym place.2) a)));
  }
