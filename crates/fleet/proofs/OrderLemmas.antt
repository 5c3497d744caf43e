-- What is kept of the lists of a state: by a source that lists other targets, by a collector that joins or leaves.
use Rattle.std.proofs.Common.{◌≡◌, ℕ, zero, suc, ◌+◌, ◌<◌, ◌&&◌, ◌||◌, List, [], ◌∷◌, ◌++◌, Bool, true, false, Some, None, All, length, get_or, map, cond, eqb, refl, sym, ap, subst, ◌∙◌, inl, inr, arith}
use Rattle.std.specs.Prelude.{AllPairs, filter, find, not, replicate}
use Rattle.std.specs.List.{list_any, position_or_len}
use Rattle.std.specs.Option.{option_map}
use Rattle.std.specs.Str.{bytes_eq}
use Rattle.std.proofs.Math.ListN.{set, length-set}
use Rattle.std.proofs.lemmas.Bool.{cases_eq, cases_lt, eq-eqb, eqb-true}
use Rattle.std.proofs.lemmas.List.{get_or-map, get_or-set_same, get_or-set_other, get_or_past, length-map}
use Rattle.std.proofs.lemmas.List.Elements.{All-cons, All-nil, All-weaker}
use Rattle.std.proofs.lemmas.List.Folds.{Any-from_list_any}
use Rattle.std.proofs.lemmas.List.Kept.{AllPairs-filter}
use Rattle.std.proofs.lemmas.List.Quantifiers.{all_pairs_push}
use Rattle.label_sets.specs.Target.{FinalTarget, target_text}
use Rattle.fleet.specs.Jobs.{nothing_listed}
use Rattle.fleet.specs.KnownTarget.{same_known, with_known, number_of, known_with, numbers_of}
use Rattle.fleet.specs.Live.{with_list, chosen_below, is_in}
use Rattle.fleet.specs.Orderly.{IsOrderly, is_of, listed_at}
use Rattle.fleet.specs.Fleet.{id_named}
use Rattle.fleet.proofs.Chosen.{chosen_ascend, chosen_pass}
use Rattle.fleet.specs.declared.job.JobSpec.{JobSpec}
use Rattle.fleet.specs.declared.known_target.KnownTarget.{KnownTarget}
use Rattle.fleet.specs.declared.collector.Collector.{Collector}

-- what holds of each two elements holds of them changed, where the change keeps it
pub pairs_map : {X : Type 0} (R : X → X → Type 0) (f : X → X) (xs : List X) → ((a b : X) → R a b → R (f a) (f b)) → AllPairs R xs → AllPairs R (map f xs)
pairs_map {X} R f xs keep all i j d less in_range =
    let within : j < length xs = omega (arith, length-map xs f) in
    rw (get_or-map f xs i d d (omega arith), get_or-map f xs j d d within) (keep (get_or xs i d) (get_or xs j d) (all i j d less within))

either_false : (a b : Bool) → (a || b) ≡ false → (a ≡ false) × (b ≡ false)
either_false true b e = cc
either_false false b e = (refl, e)

-- what no element passes, each fails
none_passes : {X : Type 0} (p : X → Bool) (xs : List X) → list_any p xs ≡ false → All (λ x. p x ≡ false) xs
none_passes {X} p [] e = All-nil (λ (x : X). p x ≡ false)
none_passes {X} p (x ∷ xs) e =
    let parts = either_false (p x) (list_any p xs) e in
    All-cons (λ (y : X). p y ≡ false) x xs parts.0 (none_passes p xs parts.1)

-- a known target that is the same is of the same job
job_of_same : (a b : Bool) → (a && b) ≡ true → a ≡ true
job_of_same true b e = refl
job_of_same false b e = e

later_of : (x : KnownTarget) (known : List KnownTarget) (job n m : ℕ) → m ≡ 1 + n → is_of (x ∷ known) job m ≡ is_of known job n
later_of x known job n zero e = absurd (omega arith)
later_of x known job n (suc m) e = ap (is_of known job) (let r : m ≡ n = omega arith in r)

-- a target has a number of its job, new or known
number_by :
    (x k : KnownTarget) (known : List KnownTarget) (same : Bool) → same_known k x ≡ same → is_of (cond (list_any (same_known k) known) known (known ++ k ∷ [])) k.job (position_or_len (same_known k) known) ≡ true
    → is_of (cond (same || list_any (same_known k) known) (x ∷ known) (x ∷ (known ++ k ∷ []))) k.job (cond (not same) (1 + position_or_len (same_known k) known) 0) ≡ true
number_by x k known true e rest = eq-eqb x.job k.job (sym (eqb-true k.job x.job (job_of_same (eqb k.job x.job) (bytes_eq (target_text k.target) (target_text x.target)) e)))
number_by x k known false e rest = behind (list_any (same_known k) known) rest
  where
    behind : (some : Bool) → is_of (cond some known (known ++ k ∷ [])) k.job (position_or_len (same_known k) known) ≡ true → is_of (cond some (x ∷ known) (x ∷ (known ++ k ∷ []))) k.job (1 + position_or_len (same_known k) known) ≡ true
    behind true h = later_of x known k.job (position_or_len (same_known k) known) (1 + position_or_len (same_known k) known) refl ∙ h
    behind false h = later_of x (known ++ k ∷ []) k.job (position_or_len (same_known k) known) (1 + position_or_len (same_known k) known) refl ∙ h

number_here : (known : List KnownTarget) (k : KnownTarget) → is_of (with_known known k) k.job (number_of known k) ≡ true
number_here [] k = eq-eqb k.job k.job refl
number_here (x ∷ known) k = number_by x k known (same_known k x) refl (number_here known k)

-- a number stays of its job where more targets are known
of_front : (known more : List KnownTarget) (job target : ℕ) → is_of known job target ≡ true → is_of (known ++ more) job target ≡ true
of_front [] more job target e = cc
of_front (x ∷ known) more job zero e = e
of_front (x ∷ known) more job (suc target) e = of_front known more job target e

of_with : (some : Bool) (known : List KnownTarget) (k : KnownTarget) (job target : ℕ) → is_of known job target ≡ true → is_of (cond some known (known ++ k ∷ [])) job target ≡ true
of_with true known k job target e = e
of_with false known k job target e = of_front known (k ∷ []) job target e

of_known_with : (known : List KnownTarget) (entered : ℕ) (targets : List FinalTarget) (job target : ℕ) → is_of known job target ≡ true → is_of (known_with known entered targets) job target ≡ true
of_known_with known entered [] job target e = e
of_known_with known entered (t ∷ targets) job target e =
    let k : KnownTarget = record { job = entered; target = t } in
    of_known_with (with_known known k) entered targets job target (of_with (list_any (same_known k) known) known k job target e)

-- the numbers of a job's list are of the job
numbers_own : (known : List KnownTarget) (job : ℕ) (targets : List FinalTarget) → All (λ (n : ℕ). is_of (known_with known job targets) job n ≡ true) (numbers_of known job targets)
numbers_own known job [] = All-nil (λ (n : ℕ). is_of known job n ≡ true)
numbers_own known job (t ∷ targets) =
    let k : KnownTarget = record { job = job; target = t } in
    All-cons (λ (n : ℕ). is_of (known_with (with_known known k) job targets) job n ≡ true) (number_of known k) (numbers_of (with_known known k) job targets)
    (of_known_with (with_known known k) job targets job (number_of known k) (number_here known k))
    (numbers_own (with_known known k) job targets)

-- no target is entered twice
once_with : (known : List KnownTarget) (k : KnownTarget) (some : Bool) → list_any (same_known k) known ≡ some → AllPairs (λ (a b : KnownTarget). same_known b a ≡ false) known → AllPairs (λ (a b : KnownTarget). same_known b a ≡ false) (cond some known (known ++ k ∷ []))
once_with known k true e once = once
once_with known k false e once = all_pairs_push (λ (a b : KnownTarget). same_known b a ≡ false) known k once (none_passes (same_known k) known e)

pub known_once : (known : List KnownTarget) (job : ℕ) (targets : List FinalTarget) → AllPairs (λ (a b : KnownTarget). same_known b a ≡ false) known → AllPairs (λ (a b : KnownTarget). same_known b a ≡ false) (known_with known job targets)
known_once known job [] once = once
known_once known job (t ∷ targets) once =
    let k : KnownTarget = record { job = job; target = t } in
    known_once (with_known known k) job targets (once_with known k (list_any (same_known k) known) refl once)

-- what holds of each number of a list holds of each that is in it
pub in_all : (P : ℕ → Type 0) (numbers : List ℕ) (n : ℕ) → All P numbers → is_in numbers n ≡ true → P n
in_all P numbers n all e =
    let found = Any-from_list_any (λ (x : ℕ). eqb x n) numbers e in
    subst P (found.3 ∙ eqb-true found.1 n found.4) (all found.0 found.1 found.2)

-- what holds of each source's list, where one lists other numbers
lists_with :
    (P : ℕ → List ℕ → Type 0) (listed : List (List (List ℕ))) (job source : ℕ) (numbers : List ℕ) → job < length listed → ((j s : ℕ) → P j (listed_at listed j s)) → P job numbers
    → (j s : ℕ) → P j (listed_at (with_list listed job source numbers) j s)
lists_with P listed job source numbers inside old new j s =
    let sources : List (List ℕ) = get_or listed job [] in
    elim (cases_eq j job) [
      | inr d ↦ subst (λ (xs : List (List ℕ)). P j (get_or xs s [])) (sym (get_or-set_other listed job j (set sources source numbers) [] d)) (old j s)
      | inl e ↦ subst (λ (i : ℕ). P i (listed_at (with_list listed job source numbers) i s)) (sym e)
          (subst (λ (xs : List (List ℕ)). P job (get_or xs s [])) (sym (get_or-set_same listed job (set sources source numbers) [] inside)) (here sources (old job)))
    ]
  where
    here : (sources : List (List ℕ)) → ((t : ℕ) → P job (get_or sources t [])) → P job (get_or (set sources source numbers) s [])
    here sources each = elim (cases_eq s source) [
      | inr d ↦ subst (P job) (sym (get_or-set_other sources source s numbers [] d)) (each s)
      | inl e ↦ elim (cases_lt source (length sources)) [
        | inl l ↦ subst (λ (i : ℕ). P job (get_or (set sources source numbers) i [])) (sym e) (subst (P job) (sym (get_or-set_same sources source numbers [] l)) new)
        | inr g ↦ subst (P job) (get_or_past sources s [] (omega arith) ∙ sym (get_or_past (set sources source numbers) s [] (omega (arith, length-set sources source numbers)))) (each s)
      ]
    ]

-- after a discovery
pub orderly_discovered :
    (listed : List (List (List ℕ))) (known : List KnownTarget) (collectors : List Collector) (job source : ℕ) (targets : List FinalTarget) → job < length listed → IsOrderly listed known collectors
    → IsOrderly (with_list listed job source (chosen_below (is_in (numbers_of known job targets)) (length (known_with known job targets)))) (known_with known job targets) collectors
orderly_discovered listed known collectors job source targets inside orderly =
    let entered : List KnownTarget = known_with known job targets in
    let numbers : List ℕ = chosen_below (is_in (numbers_of known job targets)) (length entered) in
    record {
      own = lists_with (λ (j : ℕ) (xs : List ℕ). All (λ (t : ℕ). is_of entered j t ≡ true) xs) listed job source numbers inside
          (λ j s. All-weaker (λ (t : ℕ). is_of known j t ≡ true) (λ (t : ℕ). is_of entered j t ≡ true) (λ t e. of_known_with known job targets j t e) (listed_at listed j s) (orderly.own j s))
          (All-weaker (λ (t : ℕ). is_in (numbers_of known job targets) t ≡ true) (λ (t : ℕ). is_of entered job t ≡ true) (λ t e. in_all (λ (n : ℕ). is_of entered job n ≡ true) (numbers_of known job targets) t (numbers_own known job targets) e) numbers (chosen_pass (is_in (numbers_of known job targets)) (length entered)));
      rising = lists_with (λ (j : ℕ) (xs : List ℕ). AllPairs (λ (a b : ℕ). a < b) xs) listed job source numbers inside orderly.rising (chosen_ascend (is_in (numbers_of known job targets)) (length entered));
      once = known_once known job targets orderly.once;
      named = orderly.named;
    }

unnamed_by :
    (x : Collector) (collectors : List Collector) (name : List ℕ) (b : Bool) → bytes_eq x.name name ≡ b → option_map (λ (c : Collector). c.id) (cond b (Some x) (find (λ (c : Collector). bytes_eq c.name name) collectors)) ≡ None
    → (id_named collectors name ≡ None → All (λ (c : Collector). bytes_eq c.name name ≡ false) collectors) → All (λ (c : Collector). bytes_eq c.name name ≡ false) (x ∷ collectors)
unnamed_by x collectors name true is none rest = cc
unnamed_by x collectors name false is none rest = All-cons (λ (c : Collector). bytes_eq c.name name ≡ false) x collectors is (rest none)

unnamed : (collectors : List Collector) (name : List ℕ) → id_named collectors name ≡ None → All (λ (c : Collector). bytes_eq c.name name ≡ false) collectors
unnamed [] name e = All-nil (λ (c : Collector). bytes_eq c.name name ≡ false)
unnamed (x ∷ collectors) name e = unnamed_by x collectors name (bytes_eq x.name name) refl e (unnamed collectors name)

-- after a collector that joins under a name that nobody has
pub orderly_joined : (listed : List (List (List ℕ))) (known : List KnownTarget) (collectors : List Collector) (c : Collector) → id_named collectors c.name ≡ None → IsOrderly listed known collectors → IsOrderly listed known (collectors ++ c ∷ [])
orderly_joined listed known collectors c none orderly =
    record {
      own = orderly.own;
      rising = orderly.rising;
      once = orderly.once;
      named = all_pairs_push (λ (a b : Collector). bytes_eq a.name b.name ≡ false) collectors c orderly.named (unnamed collectors c.name none);
    }

-- after some that leave
pub orderly_left : (listed : List (List (List ℕ))) (known : List KnownTarget) (collectors : List Collector) (p : Collector → Bool) → IsOrderly listed known collectors → IsOrderly listed known (filter p collectors)
orderly_left listed known collectors p orderly =
    record {
      own = orderly.own;
      rising = orderly.rising;
      once = orderly.once;
      named = AllPairs-filter (λ (a b : Collector). bytes_eq a.name b.name ≡ false) p collectors orderly.named;
    }

-- after some changed, but for their names
pub orderly_changed :
    (listed : List (List (List ℕ))) (known : List KnownTarget) (collectors : List Collector) (f : Collector → Collector) → ((c : Collector) → (f c).name ≡ c.name) → IsOrderly listed known collectors → IsOrderly listed known (map f collectors)
orderly_changed listed known collectors f name orderly =
    record {
      own = orderly.own;
      rising = orderly.rising;
      once = orderly.once;
      named = pairs_map (λ (a b : Collector). bytes_eq a.name b.name ≡ false) f collectors (λ a b e. rw (name a, name b) e) orderly.named;
    }

nothing_in : (n s : ℕ) → get_or (replicate n (let r : List ℕ = [] in r)) s [] ≡ []
nothing_in zero s = refl
nothing_in (suc n) zero = refl
nothing_in (suc n) (suc s) = nothing_in n s

nothing_at : (jobs : List JobSpec) (j s : ℕ) → listed_at (nothing_listed jobs) j s ≡ []
nothing_at [] j s = refl
nothing_at (job ∷ jobs) zero s = nothing_in job.sources s
nothing_at (job ∷ jobs) (suc j) s = nothing_at jobs j s

-- in the beginning
pub orderly_first : (jobs : List JobSpec) → IsOrderly (nothing_listed jobs) [] []
orderly_first jobs =
    record {
      own = λ j s. subst (λ (xs : List ℕ). All (λ (t : ℕ). is_of [] j t ≡ true) xs) (sym (nothing_at jobs j s)) (All-nil (λ (t : ℕ). is_of [] j t ≡ true));
      rising = λ j s. subst (λ (xs : List ℕ). AllPairs (λ (a b : ℕ). a < b) xs) (sym (nothing_at jobs j s)) (λ i k d l less. absurd (omega arith));
      once = λ i k d l less. absurd (omega arith);
      named = λ i k d l less. absurd (omega arith);
    }
