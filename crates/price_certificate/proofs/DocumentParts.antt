-- What an instance keeps of the pairs before, as a list in order of items.
use Rattle.std.proofs.Common.{◌≡◌, ℕ, zero, suc, cond, eqb, ◌+◌, ◌<◌, ◌≤◌, ◌||◌, Bool, true, false, List, [], ◌∷◌, Option, Some, None, All, inl, inr, length, get_or, count_by, refl, sym, ap, subst, ◌∙◌, arith}
use Rattle.std.specs.List.{list_any}
use Rattle.std.specs.List.Sorted.{IsStrictlyIncreasing}
use Rattle.std.proofs.lemmas.List.Elements.{All-nil, All-cons, All-weaker, All-get_or}
use Rattle.std.proofs.lemmas.List.Sums.{sum_by-cons}
use Rattle.std.proofs.lemmas.Bool.{cases_eq, eq-eqb, ne_eqb, or_from}
use Rattle.serde_json.specs.Data.{Data}
use Rattle.price_certificate.specs.Problem.{Problem, IsProblem, IsRow, IsMarked, IsPlaced, IsPreceding, bin_in, items_of, bins_of}
use Rattle.price_certificate.specs.declared.version.Version.{Version}
use Rattle.price_certificate.specs.declared.version.Version.TheVariants.{One, Two}
use Rattle.json_values.specs.Spelling.{number_in, pair_in, list_in}
use Rattle.price_certificate.specs.Document.{pairs_from, marked_from, object_of, SpellsInstance}
use Rattle.price_certificate.specs.Reach.{rows_in}

chosen_not : (b : Bool) (x : ℕ) (rest : Option ℕ) → b ≡ false → cond b (Some x) rest ≡ rest
chosen_not true x rest e = cc
chosen_not false x rest e = refl

chosen : (b : Bool) (x : ℕ) (rest : Option ℕ) → b ≡ true → cond b (Some x) rest ≡ Some x
chosen true x rest e = refl
chosen false x rest e = cc

earlier : (n item : ℕ) → item < n → n ≡ item → ⊥
earlier n item l e = omega arith

-- no pair is of an item before the first
bin_in-earlier : (n : ℕ) (places : List (Option ℕ)) (item : ℕ) → item < n → bin_in (pairs_from n places) item ≡ None
bin_in-earlier n [] item l = refl
bin_in-earlier n (None ∷ places) item l = bin_in-earlier (n + 1) places item (omega arith)
bin_in-earlier n (Some bin ∷ places) item l = chosen_not (eqb n item) bin _ (ne_eqb n item (earlier n item l)) ∙ bin_in-earlier (n + 1) places item (omega arith)

-- beside each item stands its bin
bin_in-pairs_from : (n : ℕ) (places : List (Option ℕ)) (k item : ℕ) → item ≡ n + k → get_or places k None ≡ bin_in (pairs_from n places) item
bin_in-pairs_from n [] k item e = refl
bin_in-pairs_from n (None ∷ places) zero item e = sym (bin_in-earlier (n + 1) places item (omega arith))
bin_in-pairs_from n (None ∷ places) (suc k) item e = bin_in-pairs_from (n + 1) places k item (omega arith)
bin_in-pairs_from n (Some bin ∷ places) zero item e = sym (chosen (eqb n item) bin _ (eq-eqb n item (omega arith)))
bin_in-pairs_from n (Some bin ∷ places) (suc k) item e = bin_in-pairs_from (n + 1) places k item (omega arith) ∙ sym (chosen_not (eqb n item) bin _ (ne_eqb n item (λ same. omega arith)))

in_range-pairs_from : (n items bins : ℕ) (places : List (Option ℕ)) → n + length places ≤ items → ((k bin : ℕ) → get_or places k None ≡ Some bin → bin < bins) → All (λ (q : ℕ × ℕ). (q.0 < items) × (q.1 < bins)) (pairs_from n places)
in_range-pairs_from n items bins [] l below = All-nil (λ (q : ℕ × ℕ). (q.0 < items) × (q.1 < bins))
in_range-pairs_from n items bins (None ∷ places) l below = in_range-pairs_from (n + 1) items bins places (omega arith) (λ k bin e. below (suc k) bin e)
in_range-pairs_from n items bins (Some bin ∷ places) l below =
    All-cons (λ (q : ℕ × ℕ). (q.0 < items) × (q.1 < bins)) (n, bin) _ (omega arith, below zero bin refl) (in_range-pairs_from (n + 1) items bins places (omega arith) (λ k b e. below (suc k) b e))

count_of : ℕ → List (ℕ × ℕ) → ℕ
count_of item pairs = count_by (λ (q : ℕ × ℕ). eqb q.0 item) pairs

count_of-cons : (item : ℕ) (q : ℕ × ℕ) (pairs : List (ℕ × ℕ)) → count_of item (q ∷ pairs) ≡ cond (eqb q.0 item) 1 0 + count_of item pairs
unfolding count_of
count_of-cons item q pairs = sum_by-cons (λ (r : ℕ × ℕ). cond (eqb r.0 item) 1 0) q pairs

is_no : (b : Bool) → b ≡ false → ◌≡◌ {A = ℕ} (cond b 1 0) 0
is_no true e = cc
is_no false e = refl

at_most_one : (b : Bool) → cond b 1 0 ≤ 1
at_most_one true = omega arith
at_most_one false = omega arith

count_of-earlier : (n : ℕ) (places : List (Option ℕ)) (item : ℕ) → item < n → count_of item (pairs_from n places) ≡ 0
unfolding count_of
count_of-earlier n [] item l = refl
count_of-earlier n (None ∷ places) item l = count_of-earlier (n + 1) places item (omega arith)
count_of-earlier n (Some bin ∷ places) item l = omega (arith, count_of-cons item (n, bin) (pairs_from (n + 1) places), is_no _ (ne_eqb n item (earlier n item l)), count_of-earlier (n + 1) places item (omega arith))

once-pairs_from : (n : ℕ) (places : List (Option ℕ)) (item : ℕ) → count_of item (pairs_from n places) ≤ 1
unfolding count_of
once-pairs_from n [] item = omega arith
once-pairs_from n (None ∷ places) item = once-pairs_from (n + 1) places item
once-pairs_from n (Some bin ∷ places) item = elim (cases_eq n item) [
  | inl same ↦ omega (arith, count_of-cons item (n, bin) (pairs_from (n + 1) places), at_most_one (eqb n item), count_of-earlier (n + 1) places item (omega arith))
  | inr other ↦ omega (arith, count_of-cons item (n, bin) (pairs_from (n + 1) places), is_no _ (ne_eqb n item other), once-pairs_from (n + 1) places item)
]

preceding : (p : Problem) → IsProblem p → IsPreceding (items_of p) (bins_of p) (pairs_from 0 p.before)
unfolding count_of
preceding p h = record {
  in_range = in_range-pairs_from 0 (items_of p) (bins_of p) p.before (omega (arith, h.items)) h.before_in_range;
  once = once-pairs_from 0 p.before;
}

-- no bin before the first is written
marked-earlier : (n : ℕ) (marks : List Bool) (bin : ℕ) → bin < n → list_any (λ b. eqb b bin) (marked_from n marks) ≡ false
marked-earlier n [] bin l = refl
marked-earlier n (false ∷ marks) bin l = marked-earlier (n + 1) marks bin (omega arith)
marked-earlier n (true ∷ marks) bin l = or_from (eqb n bin) _ (ne_eqb n bin (earlier n bin l)) (marked-earlier (n + 1) marks bin (omega arith))

-- a bin is written exactly if it is marked
marked-there : (n : ℕ) (marks : List Bool) (k bin : ℕ) → bin ≡ n + k → get_or marks k false ≡ list_any (λ b. eqb b bin) (marked_from n marks)
marked-there n [] k bin e = refl
marked-there n (false ∷ marks) zero bin e = sym (marked-earlier (n + 1) marks bin (omega arith))
marked-there n (false ∷ marks) (suc k) bin e = marked-there (n + 1) marks k bin (omega arith)
marked-there n (true ∷ marks) zero bin e = sym (ap (λ (b : Bool). b || list_any (λ c. eqb c bin) (marked_from (n + 1) marks)) (eq-eqb n bin (omega arith)))
marked-there n (true ∷ marks) (suc k) bin e = marked-there (n + 1) marks k bin (omega arith) ∙ sym (ap (λ (b : Bool). b || list_any (λ c. eqb c bin) (marked_from (n + 1) marks)) (ne_eqb n bin (λ same. omega arith)))

-- the bins that are written ascend, from the first on, and are in range
marked-least : (n : ℕ) (marks : List Bool) → All (λ b. n ≤ b) (marked_from n marks)
marked-least n [] = All-nil (λ (b : ℕ). n ≤ b)
marked-least n (false ∷ marks) = All-weaker (λ (b : ℕ). n + 1 ≤ b) (λ (b : ℕ). n ≤ b) (λ b l. omega arith) _ (marked-least (n + 1) marks)
marked-least n (true ∷ marks) = All-cons (λ (b : ℕ). n ≤ b) n _ (omega arith) (All-weaker (λ (b : ℕ). n + 1 ≤ b) (λ (b : ℕ). n ≤ b) (λ b l. omega arith) _ (marked-least (n + 1) marks))

marked-below : (n bins : ℕ) (marks : List Bool) → n + length marks ≤ bins → All (λ b. b < bins) (marked_from n marks)
marked-below n bins [] l = All-nil (λ (b : ℕ). b < bins)
marked-below n bins (false ∷ marks) l = marked-below (n + 1) bins marks (omega arith)
marked-below n bins (true ∷ marks) l = All-cons (λ (b : ℕ). b < bins) n _ (omega arith) (marked-below (n + 1) bins marks (omega arith))

rises-cons : (n : ℕ) (xs : List ℕ) → All (λ b. n + 1 ≤ b) xs → IsStrictlyIncreasing xs → (k : ℕ) → k + 1 < length (n ∷ xs) → get_or (n ∷ xs) k 0 < get_or (n ∷ xs) (k + 1) 0
rises-cons n xs above h zero l = omega (arith, All-get_or (λ (b : ℕ). n + 1 ≤ b) xs 0 0 (omega (arith, l)) above)
rises-cons n xs above h (suc k) l =
    let next : suc k + 1 ≡ suc (k + 1) = omega arith in
    subst (λ (m : ℕ). get_or (n ∷ xs) (suc k) 0 < get_or (n ∷ xs) m 0) (sym next) (h k (omega (arith, l)))

marked-rises : (n : ℕ) (marks : List Bool) → IsStrictlyIncreasing (marked_from n marks)
marked-rises n [] = λ k l. absurd (omega (arith, l))
marked-rises n (false ∷ marks) = marked-rises (n + 1) marks
marked-rises n (true ∷ marks) = rises-cons n (marked_from (n + 1) marks) (marked-least (n + 1) marks) (marked-rises (n + 1) marks)

-- the bins that are written are a row of bins, and mark what was marked
pub marked_is_row : (marks : List Bool) → IsRow (length marks) (marked_from 0 marks)
marked_is_row marks = record { ascending = marked-rises 0 marks; in_range = marked-below 0 (length marks) marks (omega arith) }

pub marked_is_marked : (marks : List Bool) → IsMarked (length marks) (marked_from 0 marks) marks
marked_is_marked marks = record { each = refl; at = λ bin below. marked-there 0 marks bin bin (omega arith) }

no-row : (bins : ℕ) → IsRow bins []
no-row bins = record { ascending = λ k l. absurd (omega (arith, l)); in_range = All-nil (λ (b : ℕ). b < bins) }

placed : (p : Problem) → IsProblem p → IsPlaced (items_of p) (pairs_from 0 p.before) p.before
placed p h = record { each = h.items; bins = λ item below. bin_in-pairs_from 0 p.before item item (omega arith) }

spells_by : (p : Problem) (v : Version) → p.version ≡ v → (before bin_prices bins draining item_prices pairs reach : Data) → IsProblem p → list_in pair_in before ≡ Some (pairs_from 0 p.before) → list_in number_in bins ≡ Some p.limits → list_in number_in draining ≡ Some (marked_from 0 p.draining) → rows_in reach ≡ Some p.rows → SpellsInstance (object_of v before bin_prices bins draining item_prices pairs reach) p
spells_by p One e before bin_prices bins draining item_prices pairs reach h b l d r = record {
  version = One;
  limits = p.limits;
  draining = [];
  rows = p.rows;
  preceding = pairs_from 0 p.before;
  parts = record { number = refl; bins = l; drains = refl; reach = r; before = b };
  shaped = record { reach = h.reach; drains = no-row (bins_of p); preceding = preceding p h };
  same = record { same_version = e; same_limits = refl; same_draining = record { each = h.bins; at = λ bin below. h.old e bin }; same_rows = refl; before = placed p h };
}
spells_by p Two e before bin_prices bins draining item_prices pairs reach h b l d r = record {
  version = Two;
  limits = p.limits;
  draining = marked_from 0 p.draining;
  rows = p.rows;
  preceding = pairs_from 0 p.before;
  parts = record { number = refl; bins = l; drains = d; reach = r; before = b };
  shaped = record { reach = h.reach; drains = subst (λ (n : ℕ). IsRow n (marked_from 0 p.draining)) h.bins (marked_is_row p.draining); preceding = preceding p h };
  same = record { same_version = e; same_limits = refl; same_draining = subst (λ (n : ℕ). IsMarked n (marked_from 0 p.draining) p.draining) h.bins (marked_is_marked p.draining); same_rows = refl; before = placed p h };
}

-- an object with the members of an instance spells it
pub spells_instance : (p : Problem) (before bin_prices bins draining item_prices pairs reach : Data) → IsProblem p → list_in pair_in before ≡ Some (pairs_from 0 p.before) → list_in number_in bins ≡ Some p.limits → list_in number_in draining ≡ Some (marked_from 0 p.draining) → rows_in reach ≡ Some p.rows → SpellsInstance (object_of p.version before bin_prices bins draining item_prices pairs reach) p
spells_instance p before bin_prices bins draining item_prices pairs reach h b l d r = spells_by p p.version refl before bin_prices bins draining item_prices pairs reach h b l d r
