-- The parts of the instance of a moment are those of an instance.
use Rattle.std.proofs.Common.{◌≡◌, ◌≢◌, ℕ, zero, suc, ◌+◌, ◌*◌, ◌<◌, ◌≤◌, List, [], ◌∷◌, ◌++◌, Bool, true, false, Option, Some, None, All, length, get_or, cond, eqb, count_by, refl, sym, ap, subst, ◌∙◌, inl, inr, drop, arith, add-one, append_assoc, length-append}
use Rattle.std.specs.Prelude.{map, replicate, sum_by, option_and_then, slice_get}
use Rattle.std.specs.List.{list_any}
use Rattle.std.specs.List.Sorted.{IsStrictlyIncreasing}
use Rattle.std.specs.Option.{option_map, option_map_or, option_to_list}
use Rattle.std.proofs.Math.Nat.{mul-le-mul_left}
use Rattle.std.proofs.lemmas.List.{append-nil, at_drop_more, drop_all, length-map, length-replicate, get_or-map, ext_get_or}
use Rattle.std.proofs.lemmas.List.Elements.{All-nil, All-head, All-tail}
use Rattle.std.proofs.lemmas.List.Sums.{sum_by-cons}
use Rattle.std.proofs.lemmas.Bool.{cases_eq, eq-eqb, ne_eqb}
use Rattle.price_certificate.specs.Problem.{Problem, IsShaped, IsRow, IsPreceding, IsProblemOf, bin_in as bin_of_item}
use Rattle.price_certificate.specs.Document.{marked_from}
use Rattle.price_certificate.specs.declared.version.Version.TheVariants.{Two}
use Rattle.price_certificate.proofs.DocumentParts.{marked_is_row, marked_is_marked}
use Rattle.reach_rules.specs.Rules.{reaches}
use Rattle.fleet.proofs.ChangeLemmas.{position_below}
use Rattle.fleet_assignment.specs.Instance.{limits_for, draining_for, row_from, row_in, place_of, bin_in, bin_before_in, problem_of}
use Rattle.fleet_assignment.specs.Tables.{preceding_from, ArePlaced}
use Rattle.fleet.specs.ShareLimit.{share_limit}
use Rattle.fleet.specs.declared.job.JobSpec.{JobSpec}
use Rattle.fleet.specs.declared.known_target.KnownTarget.{KnownTarget}
use Rattle.fleet.specs.declared.collector.Collector.{Collector}

pub length-limits : (jobs : List JobSpec) (cs : List Collector) → length (limits_for jobs cs) ≡ length jobs * length cs
length-limits jobs [] = omega arith
length-limits jobs (c ∷ cs) =
    omega (arith, length-append (map (λ (job : JobSpec). share_limit job c) jobs) (limits_for jobs cs), length-map jobs (λ (job : JobSpec). share_limit job c), length-limits jobs cs)

pub length-draining : (jobs : ℕ) (cs : List Collector) → length (draining_for jobs cs) ≡ jobs * length cs
length-draining jobs [] = omega arith
length-draining jobs (c ∷ cs) = omega (arith, length-append (replicate jobs c.draining) (draining_for jobs cs), length-replicate jobs c.draining, length-draining jobs cs)

-- one collector more, and the limits of its shares
pub limits_more :
    (jobs : List JobSpec) (cs : List Collector) (i : ℕ) (one : Collector) (old new : List ℕ) → i < length cs → get_or cs i one ≡ one → old ++ limits_for jobs (drop i cs) ≡ limits_for jobs cs → new ≡ old ++ map (λ (j : JobSpec). share_limit j one) jobs
    → new ++ limits_for jobs (drop (i + 1) cs) ≡ limits_for jobs cs
limits_more jobs cs i one old new l read before is =
    let rest = limits_for jobs (drop (i + 1) cs) in
    let split : limits_for jobs (drop i cs) ≡ map (λ (j : JobSpec). share_limit j one) jobs ++ rest = at_drop_more (limits_for jobs) cs i one l ∙ ap (λ (c : Collector). map (λ (j : JobSpec). share_limit j c) jobs ++ rest) read in
    ap (λ (xs : List ℕ). xs ++ rest) is ∙ append_assoc old (map (λ (j : JobSpec). share_limit j one) jobs) rest ∙ ap (λ (xs : List ℕ). old ++ xs) (sym split) ∙ before

-- all bins, and those of them that drain
pub all_marked : (jobs : ℕ) (cs : List Collector) (bin : ℕ) (found : List ℕ) → jobs * length cs ≤ bin → found ++ marked_from bin (drop bin (draining_for jobs cs)) ≡ marked_from 0 (draining_for jobs cs) → found ≡ marked_from 0 (draining_for jobs cs)
all_marked jobs cs bin found l is = sym (append-nil found) ∙ sym (ap (λ (marks : List Bool). found ++ marked_from bin marks) (drop_all bin (draining_for jobs cs) (omega (arith, length-draining jobs cs)))) ∙ is

-- the numbers ascend from one on, below another
abbrev Ascends : ℕ → ℕ → List ℕ → Type 0
Ascends low high [] = Unit {0}
Ascends low high (x ∷ xs) = (low ≤ x) × (x < high) × Ascends (x + 1) high xs

ascends_lower : (low lower high : ℕ) (xs : List ℕ) → lower ≤ low → Ascends low high xs → Ascends lower high xs
ascends_lower low lower high [] l a = tt
ascends_lower low lower high (x ∷ xs) l a = (omega (arith, a.0), a.1, a.2)

row_step : (b : Bool) (low x next high : ℕ) (xs : List ℕ) → low ≤ x → x < next → x < high → Ascends next high xs → Ascends low high (cond b (x ∷ xs) xs)
row_step true low x next high xs l n h a = (l, h, ascends_lower next (x + 1) high xs (omega arith) a)
row_step false low x next high xs l n h a = ascends_lower next low high xs (omega arith) a

row_ascends : (jobs place high : ℕ) (cs : List Collector) (k : KnownTarget) → k.job < jobs → (place + length cs) * jobs ≤ high → Ascends (place * jobs) high (row_from jobs place cs k)
row_ascends jobs place high [] k home few = tt
row_ascends jobs place high (c ∷ cs) k home few =
    row_step (reaches c.reach k.target) (place * jobs) (place * jobs + k.job) ((place + 1) * jobs) high (row_from jobs (place + 1) cs k) (omega arith) (omega (arith, home)) (omega (arith, home, few))
    (row_ascends jobs (place + 1) high cs k home (omega (arith, few)))

increasing : (low high : ℕ) (xs : List ℕ) → Ascends low high xs → IsStrictlyIncreasing xs
increasing low high [] a k l = absurd (omega arith)
increasing low high (x ∷ []) a k l = absurd (omega arith)
increasing low high (x ∷ y ∷ ys) a zero l = omega (arith, a.2.0)
increasing low high (x ∷ y ∷ ys) a (suc k) l = rw add-one (rw add-one at (increasing (x + 1) high (y ∷ ys) a.2 k (omega arith)))

all_below : (low high : ℕ) (xs : List ℕ) → Ascends low high xs → All (λ b. b < high) xs
all_below low high [] a k d l = absurd (omega arith)
all_below low high (x ∷ xs) a zero d l = a.1
all_below low high (x ∷ xs) a (suc k) d l = all_below (x + 1) high xs a.2 k d (omega arith)

row_is : (jobs bins : ℕ) (cs : List Collector) (k : KnownTarget) → k.job < jobs → jobs * length cs ≤ bins → IsRow bins (row_from jobs 0 cs k)
row_is jobs bins cs k home few =
    let a = row_ascends jobs 0 bins cs k home (omega (arith, few)) in
    record { ascending = increasing (0 * jobs) bins (row_from jobs 0 cs k) a; in_range = all_below (0 * jobs) bins (row_from jobs 0 cs k) a }

-- what holds of each element holds of the one that is found
pub found_has : {X : Type 0} (P : X → Type 0) (xs : List X) (i : ℕ) (x : X) → All P xs → slice_get xs i ≡ Some x → P x
found_has P [] i x all e = cc
found_has P (y ∷ xs) zero x all e = let same : y ≡ x = cc in subst P same (All-head P y xs all)
found_has P (y ∷ xs) (suc i) x all e = found_has P xs i x (All-tail P y xs all) e

row_of_found : (jobs bins : ℕ) (cs : List Collector) (o : Option KnownTarget) → ((k : KnownTarget) → o ≡ Some k → k.job < jobs) → jobs * length cs ≤ bins → IsRow bins (option_map_or (λ (k : KnownTarget). row_from jobs 0 cs k) o [])
row_of_found jobs bins cs None home few = record { ascending = λ k l. absurd (omega arith); in_range = All-nil (λ b. b < bins) }
row_of_found jobs bins cs (Some k) home few = row_is jobs bins cs k (home k refl) few

each_row : (jobs bins : ℕ) (cs : List Collector) (known : List KnownTarget) (live : List ℕ) → All (λ (k : KnownTarget). k.job < jobs) known → jobs * length cs ≤ bins → All (IsRow bins) (map (row_in jobs cs known) live)
each_row jobs bins cs known [] homes few k d l = absurd (omega arith)
each_row jobs bins cs known (t ∷ live) homes few zero d l = row_of_found jobs bins cs (slice_get known t) (λ k e. found_has (λ (k : KnownTarget). k.job < jobs) known t k homes e) few
each_row jobs bins cs known (t ∷ live) homes few (suc k) d l = each_row jobs bins cs known live homes few k d (omega arith)

longer : (b : Bool) (x n : ℕ) (xs : List ℕ) → length xs ≤ n → length (cond b (x ∷ xs) xs) ≤ suc n
longer true x n xs l = omega arith
longer false x n xs l = omega arith

row_length : (jobs place : ℕ) (cs : List Collector) (k : KnownTarget) → length (row_from jobs place cs k) ≤ length cs
row_length jobs place [] k = omega arith
row_length jobs place (c ∷ cs) k = longer (reaches c.reach k.target) (place * jobs + k.job) (length cs) (row_from jobs (place + 1) cs k) (row_length jobs (place + 1) cs k)

row_in_length : (jobs : ℕ) (cs : List Collector) (o : Option KnownTarget) → length (option_map_or (λ (k : KnownTarget). row_from jobs 0 cs k) o []) ≤ length cs
row_in_length jobs cs None = omega arith
row_in_length jobs cs (Some k) = row_length jobs 0 cs k

pairs_few : (jobs : ℕ) (cs : List Collector) (known : List KnownTarget) (live : List ℕ) → sum_by (λ (row : List ℕ). length row) (map (row_in jobs cs known) live) ≤ length live * length cs
pairs_few jobs cs known [] = omega arith
pairs_few jobs cs known (t ∷ live) =
    omega (arith, sum_by-cons (λ (row : List ℕ). length row) (row_in jobs cs known t) (map (row_in jobs cs known) live), row_in_length jobs cs (slice_get known t), pairs_few jobs cs known live)

-- the pairs before: each item in range, and once
pre_range_by :
    (o : Option ℕ) (item high bins : ℕ) (rest : List (ℕ × ℕ)) → item < high → ((b : ℕ) → o ≡ Some b → b < bins) → All (λ (q : ℕ × ℕ). (q.0 < high) × (q.1 < bins)) rest
    → All (λ (q : ℕ × ℕ). (q.0 < high) × (q.1 < bins)) (option_to_list (option_map (λ (b : ℕ). (item, b)) o) ++ rest)
pre_range_by None item high bins rest l below all k d less = all k d less
pre_range_by (Some b) item high bins rest l below all zero d less = (l, below b refl)
pre_range_by (Some b) item high bins rest l below all (suc k) d less = all k d (omega arith)

pre_range :
    (f : ℕ → Option ℕ) (bins : ℕ) → ((t b : ℕ) → f t ≡ Some b → b < bins) → (live : List ℕ) (item high : ℕ) → item + length live ≤ high → All (λ (q : ℕ × ℕ). (q.0 < high) × (q.1 < bins)) (preceding_from f item live)
pre_range f bins below [] item high l = All-nil (λ (q : ℕ × ℕ). (q.0 < high) × (q.1 < bins))
pre_range f bins below (t ∷ live) item high l =
    pre_range_by (f t) item high bins (preceding_from f (item + 1) live) (omega arith) (below t) (pre_range f bins below live (item + 1) high (omega arith))

pre_once_by :
    (o : Option ℕ) (item n : ℕ) (rest : List (ℕ × ℕ)) → (n < item + 1 → count_by (λ (q : ℕ × ℕ). eqb q.0 n) rest ≡ 0) → count_by (λ (q : ℕ × ℕ). eqb q.0 n) rest ≤ 1
    → (n < item → count_by (λ (q : ℕ × ℕ). eqb q.0 n) (option_to_list (option_map (λ (b : ℕ). (item, b)) o) ++ rest) ≡ 0) × (count_by (λ (q : ℕ × ℕ). eqb q.0 n) (option_to_list (option_map (λ (b : ℕ). (item, b)) o) ++ rest) ≤ 1)
pre_once_by None item n rest none once = (λ l. none (omega arith), once)
pre_once_by (Some b) item n rest none once =
    let more = sum_by-cons (λ (q : ℕ × ℕ). cond (eqb q.0 n) 1 0) (item, b) rest in
    elim (cases_eq item n) [
      | inl e ↦ (λ l. absurd (omega arith), omega (arith, more, none (omega arith), ap (λ (c : Bool). (let r : ℕ = cond c 1 0 in r)) (eq-eqb item n e)))
      | inr d ↦ (λ l. omega (arith, more, none (omega arith), ap (λ (c : Bool). (let r : ℕ = cond c 1 0 in r)) (ne_eqb item n d)), omega (arith, more, once, ap (λ (c : Bool). (let r : ℕ = cond c 1 0 in r)) (ne_eqb item n d)))
    ]

pre_once :
    (f : ℕ → Option ℕ) (live : List ℕ) (item n : ℕ) → (n < item → count_by (λ (q : ℕ × ℕ). eqb q.0 n) (preceding_from f item live) ≡ 0) × (count_by (λ (q : ℕ × ℕ). eqb q.0 n) (preceding_from f item live) ≤ 1)
pre_once f [] item n = (λ l. refl, omega arith)
pre_once f (t ∷ live) item n = let r = pre_once f live (item + 1) n in pre_once_by (f t) item n (preceding_from f (item + 1) live) r.0 r.1

skip_by : (o : Option ℕ) (item n : ℕ) (rest : List (ℕ × ℕ)) → item ≢ n → bin_of_item (option_to_list (option_map (λ (b : ℕ). (item, b)) o) ++ rest) n ≡ bin_of_item rest n
skip_by None item n rest d = refl
skip_by (Some b) item n rest d = ap (λ (c : Bool). cond c (Some b) (bin_of_item rest n)) (ne_eqb item n d)

pre_none : (f : ℕ → Option ℕ) (live : List ℕ) (item n : ℕ) → n < item → bin_of_item (preceding_from f item live) n ≡ None
pre_none f [] item n l = refl
pre_none f (t ∷ live) item n l = skip_by (f t) item n (preceding_from f (item + 1) live) (λ e. absurd (omega arith)) ∙ pre_none f live (item + 1) n (omega arith)

here_by : (o : Option ℕ) (item n : ℕ) (rest : List (ℕ × ℕ)) → item ≡ n → bin_of_item rest n ≡ None → bin_of_item (option_to_list (option_map (λ (b : ℕ). (item, b)) o) ++ rest) n ≡ o
here_by None item n rest e none = none
here_by (Some b) item n rest e none = ap (λ (c : Bool). cond c (Some b) (bin_of_item rest n)) (eq-eqb item n e)

pre_place : (f : ℕ → Option ℕ) (live : List ℕ) (item k n : ℕ) → k < length live → n ≡ item + k → bin_of_item (preceding_from f item live) n ≡ f (get_or live k 0)
pre_place f [] item k n l e = absurd (omega arith)
pre_place f (t ∷ live) item zero n l e = here_by (f t) item n (preceding_from f (item + 1) live) (omega arith) (pre_none f live (item + 1) n (omega arith))
pre_place f (t ∷ live) item (suc k) n l e = skip_by (f t) item n (preceding_from f (item + 1) live) (λ s. absurd (omega arith)) ∙ pre_place f live (item + 1) k n (omega arith) (omega arith)

-- the bin of a live collector is in range
bin_below_by :
    (jobs n bins b : ℕ) (k : Option KnownTarget) (place : Option ℕ) → ((x : KnownTarget) → k ≡ Some x → x.job < jobs) → ((p : ℕ) → place ≡ Some p → p < n) → jobs * n ≤ bins
    → option_and_then (λ (x : KnownTarget). option_map (λ (p : ℕ). p * jobs + x.job) place) k ≡ Some b → b < bins
bin_below_by jobs n bins b None place home within few e = cc
bin_below_by jobs n bins b (Some x) None home within few e = cc
bin_below_by jobs n bins b (Some x) (Some p) home within few e =
    let s : p * jobs + x.job ≡ b = cc in
    let up : jobs * (p + 1) ≤ jobs * n = mul-le-mul_left jobs (let h : p + 1 ≤ n = omega (arith, within p refl) in h) in
    omega (arith, s, up, home x refl, few)

pub bin_below :
    (jobs bins b t : ℕ) (cs : List Collector) (known : List KnownTarget) (o : Option ℕ) → All (λ (k : KnownTarget). k.job < jobs) known → jobs * length cs ≤ bins → option_and_then (bin_in jobs cs known t) o ≡ Some b → b < bins
bin_below jobs bins b t cs known None homes few e = cc
bin_below jobs bins b t cs known (Some id) homes few e =
    bin_below_by jobs (length cs) bins b (slice_get known t) (place_of cs id) (λ x s. found_has (λ (k : KnownTarget). k.job < jobs) known t x homes s)
    (λ p s. omega (arith, position_below (λ (c : Collector). eqb c.id id) 0 p cs s)) few e

-- the bins before, by the list of what each target's collector is
abbrev held_bin : ℕ → List Collector → List KnownTarget → List (Option ℕ) → ℕ → Option ℕ
held_bin jobs cs known holders t = option_and_then (bin_in jobs cs known t) (get_or holders t None)

pub parts_shaped :
    (jobs : List JobSpec) (cs : List Collector) (known : List KnownTarget) (live : List ℕ) (holders : List (Option ℕ)) (limits draining : List ℕ) (rows : List (List ℕ)) (before : List (ℕ × ℕ))
    → All (λ (k : KnownTarget). k.job < length jobs) known → length jobs * length cs ≤ 16384 → length cs ≤ 256 → length live ≤ 16384
    → limits ≡ limits_for jobs cs → draining ≡ marked_from 0 (draining_for (length jobs) cs) → rows ≡ map (row_in (length jobs) cs known) live → before ≡ preceding_from (held_bin (length jobs) cs known holders) 0 live → IsShaped limits draining rows before
parts_shaped jobs cs known live holders limits draining rows before homes few_bins few_collectors few_live is_limits is_draining is_rows is_before =
    let j : ℕ = length jobs in
    let bins : length limits ≡ j * length cs = ap (λ (xs : List ℕ). length xs) is_limits ∙ length-limits jobs cs in
    let items : length rows ≡ length live = ap (λ (xs : List (List ℕ)). length xs) is_rows ∙ length-map live (row_in j cs known) in
    let few : j * length cs ≤ length limits = omega (arith, bins) in
    let marks : length (draining_for j cs) ≡ length limits = length-draining j cs ∙ sym bins in
    record {
      drains = subst (λ (xs : List ℕ). IsRow (length limits) xs) (sym is_draining) (subst (λ (n : ℕ). IsRow n (marked_from 0 (draining_for j cs))) marks (marked_is_row (draining_for j cs)));
      reach = record {
        items = omega (arith, items);
        bins = omega (arith, bins);
        pairs = subst (λ (xs : List (List ℕ)). sum_by (λ (row : List ℕ). length row) xs ≤ 4194304) (sym is_rows) (omega (arith, pairs_few j cs known live, mul-le-mul_left (length live) few_collectors));
        each_row = subst (λ (xs : List (List ℕ)). All (IsRow (length limits)) xs) (sym is_rows) (each_row j (length limits) cs known live homes few);
      };
      preceding = subst (λ (xs : List (ℕ × ℕ)). IsPreceding (length rows) (length limits) xs) (sym is_before) (record {
        in_range = pre_range (held_bin j cs known holders) (length limits) (λ t b e. bin_below j (length limits) b t cs known (get_or holders t None) homes few e) live 0 (length rows) (omega (arith, items));
        once = λ n. (pre_once (held_bin j cs known holders) live 0 n).1;
      });
    }

pub parts_make :
    (jobs : List JobSpec) (cs : List Collector) (known : List KnownTarget) (live : List ℕ) (pairs : List (ℕ × ℕ)) (holders seen : List (Option ℕ)) (limits draining : List ℕ) (rows : List (List ℕ)) (before : List (ℕ × ℕ)) (p : Problem)
    → All (λ n. n < length known) live → length holders ≡ length known → ArePlaced pairs holders → seen ≡ holders
    → limits ≡ limits_for jobs cs → draining ≡ marked_from 0 (draining_for (length jobs) cs) → rows ≡ map (row_in (length jobs) cs known) live → before ≡ preceding_from (held_bin (length jobs) cs known seen) 0 live → IsProblemOf p Two limits draining rows before → p ≡ problem_of jobs cs known live pairs
parts_make jobs cs known live pairs holders seen limits draining rows before p numbers size placed same is_limits is_draining is_rows is_before made =
    let j : ℕ = length jobs in
    let items : length rows ≡ length live = ap (λ (xs : List (List ℕ)). length xs) is_rows ∙ length-map live (row_in j cs known) in
    let bins : p.before ≡ map (bin_before_in j cs known pairs) live =
    ext_get_or None p.before (map (bin_before_in j cs known pairs) live) (made.before.each ∙ items ∙ sym (length-map live (bin_before_in j cs known pairs)))
    (λ i l.
    let in_live : i < length live = omega (arith, made.before.each, items) in
    made.before.bins i (omega (arith, made.before.each))
    ∙ ap (λ (xs : List (ℕ × ℕ)). bin_of_item xs i) is_before
    ∙ pre_place (held_bin j cs known seen) live 0 i i in_live (omega arith)
    ∙ ap (λ (hs : List (Option ℕ)). held_bin j cs known hs (get_or live i 0)) same
    ∙ ap (λ (o : Option ℕ). option_and_then (bin_in j cs known (get_or live i 0)) o) (placed.at (get_or live i 0) (omega (arith, size, numbers i 0 in_live)))
    ∙ sym (get_or-map (bin_before_in j cs known pairs) live i 0 None in_live)) in
    let marks : p.draining ≡ draining_for j cs =
    (let long : length (draining_for j cs) ≡ length limits = length-draining j cs ∙ sym (ap (λ (xs : List ℕ). length xs) is_limits ∙ length-limits jobs cs) in
    ext_get_or false p.draining (draining_for j cs) (made.same_draining.each ∙ sym long)
    (λ i l.
    let in_bins : i < length limits = omega (arith, made.same_draining.each) in
    made.same_draining.at i in_bins ∙ ap (λ (xs : List ℕ). list_any (λ (b : ℕ). eqb b i) xs) is_draining ∙ sym ((marked_is_marked (draining_for j cs)).at i (omega (arith, long))))) in
    λ i. record { version = made.same_version i; limits = (made.same_limits ∙ is_limits) i; draining = marks i; rows = (made.same_rows ∙ is_rows) i; before = bins i }
