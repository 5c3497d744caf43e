-- What instances keep that are made of another.
use Rattle.std.proofs.Common.{◌≡◌, ◌<◌, ◌≤◌, ℕ, zero, suc, Bool, List, [], ◌∷◌, All, Option, None, length, get_or, map, sum_by, refl, sym, subst, ◌∙◌, arith}
use Rattle.std.specs.Prelude.{replicate, nat_lt}
use Rattle.std.proofs.lemmas.List.{length-map, length-replicate}
use Rattle.std.proofs.lemmas.List.Kept.{IsStrictlyIncreasing-filter}
use Rattle.std.proofs.lemmas.List.Elements.{All-nil, All-cons, All-head, All-tail, All-filter}
use Rattle.std.proofs.lemmas.List.Sums.{sum_by-cons, length-filter, count_by-le-length}
use Rattle.std.proofs.lemmas.Option.{none-some}
use Rattle.price_certificate.specs.Problem.{Problem, IsProblem, IsRow, items_of, bins_of}
use Rattle.price_certificate.specs.Derived.{bare, capped, open_bins}

-- what is open of a row is a row
open_row : (bins : ℕ) (caps row : List ℕ) → IsRow bins row → IsRow bins (open_bins caps row)
open_row bins caps row h = record {
  ascending = IsStrictlyIncreasing-filter (λ b. nat_lt 0 (get_or caps b 0)) row h.ascending;
  in_range = All-filter (λ b. nat_lt 0 (get_or caps b 0)) (λ b. b < bins) row h.in_range;
}

open_rows : (bins : ℕ) (caps : List ℕ) (rows : List (List ℕ)) → All (IsRow bins) rows → All (IsRow bins) (map (open_bins caps) rows)
open_rows bins caps [] h = All-nil (IsRow bins)
open_rows bins caps (row ∷ rows) h = All-cons (IsRow bins) (open_bins caps row) (map (open_bins caps) rows) (open_row bins caps row (All-head (IsRow bins) row rows h)) (open_rows bins caps rows (All-tail (IsRow bins) row rows h))

-- no pair more is allowed
open_pairs : (caps : List ℕ) (rows : List (List ℕ)) → sum_by length (map (open_bins caps) rows) ≤ sum_by length rows
open_pairs caps [] = omega arith
open_pairs caps (row ∷ rows) = omega (
  arith,
  open_pairs caps rows,
  sum_by-cons (λ (r : List ℕ). length r) row rows,
  sum_by-cons (λ (r : List ℕ). length r) (open_bins caps row) (map (open_bins caps) rows),
  length-filter (λ b. nat_lt 0 (get_or caps b 0)) row,
  count_by-le-length (λ b. nat_lt 0 (get_or caps b 0)) row,
)

-- nothing is anywhere
abbrev nowhere : ℕ → List (Option ℕ)
nowhere n = replicate n None

pub nowhere_at : (n k : ℕ) → get_or (nowhere n) k None ≡ None
nowhere_at zero k = refl
nowhere_at (suc n) zero = refl
nowhere_at (suc n) (suc k) = nowhere_at n k

pub bare_problem : (p : Problem) → IsProblem p → IsProblem (bare p)
bare_problem p h = record {
  reach = h.reach;
  bins = h.bins;
  old = h.old;
  items = length-replicate (items_of p) None;
  before_in_range = λ item bin e. absurd (none-some bin (sym (nowhere_at (items_of p) item) ∙ e));
}

pub capped_problem : (caps : List ℕ) (p : Problem) → length caps ≡ bins_of p → IsProblem p → IsProblem (capped caps p)
capped_problem caps p e h = record {
  reach = record {
    items = omega (arith, length-map p.rows (open_bins caps), h.reach.items);
    bins = omega (arith, e, h.reach.bins);
    pairs = omega (arith, open_pairs caps p.rows, h.reach.pairs);
    each_row = subst (λ (n : ℕ). All (IsRow n) (map (open_bins caps) p.rows)) (sym e) (open_rows (bins_of p) caps p.rows h.reach.each_row);
  };
  bins = h.bins ∙ sym e;
  old = h.old;
  items = h.items ∙ sym (length-map p.rows (open_bins caps));
  before_in_range = λ item bin b. omega (arith, e, h.before_in_range item bin b);
}

-- of its parts
pub capped_parts : (caps : List ℕ) (p : Problem) (limits : List ℕ) (draining : List Bool) (rows : List (List ℕ)) (before : List (Option ℕ)) → length caps ≡ bins_of p → IsProblem p → limits ≡ caps → draining ≡ p.draining → rows ≡ map (open_bins caps) p.rows → before ≡ p.before
    → IsProblem (record { version = p.version; limits = limits; draining = draining; rows = rows; before = before })
capped_parts caps p limits draining rows before e h is_limits is_draining is_rows is_before =
    subst (λ (x : List ℕ). IsProblem (record { version = p.version; limits = x; draining = draining; rows = rows; before = before })) (sym is_limits)
    (subst (λ (x : List Bool). IsProblem (record { version = p.version; limits = caps; draining = x; rows = rows; before = before })) (sym is_draining)
    (subst (λ (x : List (List ℕ)). IsProblem (record { version = p.version; limits = caps; draining = p.draining; rows = x; before = before })) (sym is_rows)
    (subst (λ (x : List (Option ℕ)). IsProblem (record { version = p.version; limits = caps; draining = p.draining; rows = map (open_bins caps) p.rows; before = x })) (sym is_before)
    (capped_problem caps p e h))))
