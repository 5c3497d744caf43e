-- The instance that a JSON value spells, as a function of the value. It is the one that the document's definition has.
use Rattle.std.specs.Prelude.{ℕ, zero, suc, ◌==◌, List, [], ◌∷◌, ◌++◌, Bool, true, not, ◌&&◌, nat_le, nat_lt, length, sum_by, Option, Some, None, option_and_then, codes, if◌then◌else◌}
use Rattle.std.specs.List.{list_all, list_any}
use Rattle.serde_json.specs.Data.{Data}
use Rattle.lists.specs.Rising.{rises}
use Rattle.json_values.specs.Spelling.{number_in, pair_in, list_in, member_in}
use Rattle.price_certificate.specs.Document.{draining_in}
use Rattle.price_certificate.specs.Problem.{Problem, bin_in}
use Rattle.price_certificate.specs.Reach.{rows_in}
use Rattle.price_certificate.specs.declared.shape.TheConstants.{MOST_BINS, MOST_ITEMS, MOST_PAIRS}
use Rattle.price_certificate.specs.declared.version.Version.{Version}
use Rattle.price_certificate.specs.declared.version.Version.TheVariants.{One, Two}

-- the bins ascend and are bins of the instance
abbrev pub is_row : ℕ → List ℕ → Bool
is_row bins row = list_all (λ bin. nat_lt bin bins) row && rises row

-- limits and rows within the limits
abbrev pub is_reach : List ℕ → List (List ℕ) → Bool
is_reach limits rows = nat_le (length rows) MOST_ITEMS && nat_le (length limits) MOST_BINS && nat_le (sum_by length rows) MOST_PAIRS && list_all (is_row (length limits)) rows

-- no item is named twice
abbrev pub are_once : List (ℕ × ℕ) → Bool
are_once [] = true
are_once (q ∷ pairs) = not (list_any (λ (r : ℕ × ℕ). r.0 == q.0) pairs) && are_once pairs

-- a list of pairs names items and bins in range, and no item twice
abbrev pub is_preceding : ℕ → ℕ → List (ℕ × ℕ) → Bool
is_preceding items bins pairs = list_all (λ (q : ℕ × ℕ). nat_lt q.0 items && nat_lt q.1 bins) pairs && are_once pairs

abbrev pub is_shaped : List ℕ → List ℕ → List (List ℕ) → List (ℕ × ℕ) → Bool
is_shaped limits draining rows pairs = is_reach limits rows && is_row (length limits) draining && is_preceding (length rows) (length limits) pairs

-- what stands at each number below n
abbrev pub each_below : {A : Type 0} → (ℕ → A) → ℕ → List A
each_below at zero = []
each_below at (suc n) = each_below at n ++ at n ∷ []

-- the instance of these parts
abbrev pub problem_of : Version → List ℕ → List ℕ → List (List ℕ) → List (ℕ × ℕ) → Problem
problem_of version limits draining rows pairs =
    record {
      version = version;
      limits = limits;
      draining = each_below (λ bin. list_any (λ b. b == bin) draining) (length limits);
      rows = rows;
      before = each_below (bin_in pairs) (length rows);
    }

abbrev pub problem_if : Bool → Problem → Option Problem
problem_if shaped p = if shaped then Some p else None

abbrev pub version_of : ℕ → Option Version
version_of number = if number == 1 then Some One else (if number == 2 then Some Two else None)

abbrev pub problem_from : Version → Data → Option Problem
problem_from version d =
    option_and_then (λ limits. option_and_then (λ draining. option_and_then (λ rows. option_and_then (λ pairs. problem_if (is_shaped limits draining rows pairs) (problem_of version limits draining rows pairs))
    (member_in (list_in pair_in) (codes "before") d)) (member_in rows_in (codes "reach") d)) (draining_in version d)) (member_in (list_in number_in) (codes "bins") d)

unfoldable pub problem_in : Data → Option Problem
problem_in d = option_and_then (λ version. problem_from version d) (option_and_then version_of (member_in number_in (codes "version") d))
