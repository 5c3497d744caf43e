-- An allocation of a feasible plan gives no collector more of a job's targets than the job's limit.
use Rattle.std.proofs.Common.{◌≡◌, ◌≢◌, ℕ, zero, suc, ◌+◌, ◌*◌, ◌/◌, ◌%◌, ◌<◌, ◌≤◌, ◌&&◌, ◌||◌, ◌⊎◌, List, [], ◌∷◌, ◌++◌, Bool, true, false, Option, Some, None, All, length, get_or, cond, eqb, refl, sym, ap, subst, ◌∙◌, inl, inr, arith}
use Rattle.std.specs.Prelude.{AllPairs, Contains, find, map, replicate, slice_get, slice_index}
use Rattle.std.specs.List.{list_any}
use Rattle.std.specs.Option.{option_map, option_map_or, option_to_list}
use Rattle.std.proofs.lemmas.Nat.{div-add-mod', div-mul-add, div_below, mod_below}
use Rattle.std.proofs.lemmas.List.{length-map, length-replicate, get_or-replicate}
use Rattle.std.proofs.lemmas.List.Sums.{sum_by-cons}
use Rattle.std.proofs.lemmas.Bool.{cases_eq, cases_lt, eq-eqb, ne_eqb}
use Rattle.price_certificate.specs.Problem.{IsAllowed, capacity_by, capacity_of, items_of, is_bin}
use Rattle.price_certificate.specs.Assignment.{IsFeasible, uses_of_bin}
use Rattle.reach_rules.specs.OwnLimits.{own_limit}
use Rattle.fleet.specs.Fleet.{live_of}
use Rattle.fleet.specs.ShareLimit.{lower_limit, share_limit}
use Rattle.fleet_assignment.proofs.Moment.{Moment}
use Rattle.fleet_assignment.specs.Beside.{beside}
use Rattle.fleet_assignment.specs.Instance.{instance_of, row_from, row_for, limits_for, draining_for}
use Rattle.fleet_assignment.specs.Allocation.{allocation_of, pair_by, pairs_from}
use Rattle.fleet.specs.IsFleet.{IsFleet}
use Rattle.fleet_assignment.specs.Best.{is_of_job, share_of, limit_at, own_limit_at}
use Rattle.fleet_assignment.proofs.LimitLemmas.{capacity_first, capacity_second}
use Rattle.fleet_assignment.proofs.Shapes.{found_has}
use Rattle.fleet_assignment.proofs.SoundLemmas.{row_is_from, row_at_item, beside_has}
use Rattle.fleet.specs.declared.job.JobSpec.{JobSpec}
use Rattle.fleet.specs.declared.known_target.KnownTarget.{KnownTarget}
use Rattle.fleet.specs.declared.collector.Collector.{Collector}

-- how many of the items from one on have the bin
abbrev with_bin : (ℕ → Option ℕ) → ℕ → ℕ → ℕ → ℕ
with_bin f bin item zero = 0
with_bin f bin item (suc n) = cond (is_bin (f item) bin) 1 0 + with_bin f bin (item + 1) n

with_none : (bin item n : ℕ) → with_bin (beside []) bin item n ≡ 0
with_none bin item zero = refl
with_none bin item (suc n) = omega (arith, with_none bin (item + 1) n)

-- one pair more is at most one item more, and none of the items behind its own
with_by : (c : Bool) (x bin : ℕ) (o : Option ℕ) → cond (is_bin (cond c (Some x) o) bin) 1 0 ≤ cond c (cond (eqb x bin) 1 0) 0 + cond (is_bin o bin) 1 0
with_by true x bin o = omega arith
with_by false x bin o = omega arith

with_past : (q : ℕ × ℕ) (pairs : List (ℕ × ℕ)) (bin item n : ℕ) → q.0 < item → with_bin (beside (q ∷ pairs)) bin item n ≡ with_bin (beside pairs) bin item n
with_past q pairs bin item zero l = refl
with_past q pairs bin item (suc n) l =
    let skip : cond (eqb q.0 item) (Some q.1) (beside pairs item) ≡ beside pairs item = ap (λ (c : Bool). cond c (Some q.1) (beside pairs item)) (ne_eqb q.0 item (λ e. absurd (omega arith))) in
    omega (arith, ap (λ (o : Option ℕ). (let r : ℕ = cond (is_bin o bin) 1 0 in r)) skip, with_past q pairs bin (item + 1) n (omega arith))

with_more : (q : ℕ × ℕ) (pairs : List (ℕ × ℕ)) (bin item n : ℕ) → with_bin (beside (q ∷ pairs)) bin item n ≤ cond (eqb q.1 bin) 1 0 + with_bin (beside pairs) bin item n
with_more q pairs bin item zero = omega arith
with_more q pairs bin item (suc n) = elim (cases_eq q.0 item) [
  | inl e ↦ omega (arith, with_by (eqb q.0 item) q.1 bin (beside pairs item), ap (λ (c : Bool). (let r : ℕ = cond c (cond (eqb q.1 bin) 1 0) 0 in r)) (eq-eqb q.0 item e), with_past q pairs bin (item + 1) n (omega arith))
  | inr d ↦ omega (arith, with_by (eqb q.0 item) q.1 bin (beside pairs item), ap (λ (c : Bool). (let r : ℕ = cond c (cond (eqb q.1 bin) 1 0) 0 in r)) (ne_eqb q.0 item d), with_more q pairs bin (item + 1) n)
]

-- no more items than pairs have the bin
with_uses : (pairs : List (ℕ × ℕ)) (bin item n : ℕ) → with_bin (beside pairs) bin item n ≤ uses_of_bin pairs bin
with_uses [] bin item n = omega (arith, with_none bin item n)
with_uses (q ∷ pairs) bin item n = omega (arith, with_more q pairs bin item n, with_uses pairs bin item n, sum_by-cons (λ (r : ℕ × ℕ). cond (eqb r.1 bin) 1 0) q pairs)

-- each pair of the collector and the job is of an item that has the bin
share_step :
    (m : Moment) (collector job bin target : ℕ) (f : Option ℕ) (o : Option (ℕ × ℕ)) (rest : List (ℕ × ℕ)) (n : ℕ) → ((q : ℕ × ℕ) → o ≡ Some q → (eqb q.1 collector && is_of_job m.fleet job q.0) ≡ true → is_bin f bin ≡ true)
    → share_of m.fleet rest collector job ≤ n → share_of m.fleet (option_to_list o ++ rest) collector job ≤ cond (is_bin f bin) 1 0 + n
share_step m collector job bin target f None rest n has few = omega (arith, few)
share_step m collector job bin target f (Some q) rest n has few =
    let more = sum_by-cons (λ (r : ℕ × ℕ). cond (eqb r.1 collector && is_of_job m.fleet job r.0) 1 0) q rest in
    share_test (eqb q.1 collector && is_of_job m.fleet job q.0) (is_bin f bin) (share_of m.fleet (q ∷ rest) collector job) (share_of m.fleet rest collector job) n (has q refl) more few
  where
    share_test : (a b : Bool) (all rest n : ℕ) → (a ≡ true → b ≡ true) → all ≡ cond a 1 0 + rest → rest ≤ n → all ≤ cond b 1 0 + n
    share_test true true all rest n h e l = omega arith
    share_test true false all rest n h e l = let s : false ≡ true = h refl in cc
    share_test false b all rest n h e l = omega arith

share_few :
    (m : Moment) (collector job bin : ℕ) (f : ℕ → Option ℕ) (item : ℕ) (live : List ℕ)
    → ((i : ℕ) → i < length live → (q : ℕ × ℕ) → pair_by (length m.fleet.jobs) m.fleet.collectors (f (item + i)) (get_or live i 0) ≡ Some q → (eqb q.1 collector && is_of_job m.fleet job q.0) ≡ true → is_bin (f (item + i)) bin ≡ true)
    → share_of m.fleet (pairs_from (length m.fleet.jobs) m.fleet.collectors f item live) collector job ≤ with_bin f bin item (length live)
share_few m collector job bin f item [] has = omega arith
share_few m collector job bin f item (t ∷ live) has =
    let here : f (item + 0) ≡ f item = ap f (let r : item + 0 ≡ item = omega arith in r) in
    share_step m collector job bin t (f item) (pair_by (length m.fleet.jobs) m.fleet.collectors (f item) t) (pairs_from (length m.fleet.jobs) m.fleet.collectors f (item + 1) live) (with_bin f bin (item + 1) (length live))
    (λ q e s. ap (λ (o : Option ℕ). is_bin o bin) (sym here) ∙ has 0 (omega arith) q (ap (λ (o : Option ℕ). pair_by (length m.fleet.jobs) m.fleet.collectors o t) here ∙ e) s)
    (share_few m collector job bin f (item + 1) live
    (λ i l q e s.
    let there : f (item + suc i) ≡ f (item + 1 + i) = ap f (let r : item + suc i ≡ item + 1 + i = omega arith in r) in
    ap (λ (o : Option ℕ). is_bin o bin) (sym there) ∙ has (suc i) (omega arith) q (ap (λ (o : Option ℕ). pair_by (length m.fleet.jobs) m.fleet.collectors o (get_or live i 0)) there ∙ e) s))

none_step : (m : Moment) (collector job : ℕ) (o : Option (ℕ × ℕ)) (rest : List (ℕ × ℕ)) → ((q : ℕ × ℕ) → o ≡ Some q → (eqb q.1 collector && is_of_job m.fleet job q.0) ≡ false) → share_of m.fleet rest collector job ≡ 0 → share_of m.fleet (option_to_list o ++ rest) collector job ≡ 0
none_step m collector job None rest has zero_rest = zero_rest
none_step m collector job (Some q) rest has zero_rest =
    omega (arith, sum_by-cons (λ (r : ℕ × ℕ). cond (eqb r.1 collector && is_of_job m.fleet job r.0) 1 0) q rest, ap (λ (b : Bool). (let r : ℕ = cond b 1 0 in r)) (has q refl), zero_rest)

not_both : (a b : Bool) → a ≡ false → (a && b) ≡ false
not_both true b e = cc
not_both false b e = refl

both : (a b : Bool) → (a && b) ≡ true → (a ≡ true) × (b ≡ true)
both true b e = (refl, e)
both false b e = cc

eqb_same : (a b : ℕ) → eqb a b ≡ true → a ≡ b
eqb_same a b e = elim (cases_eq a b) [ inl s ↦ s | inr d ↦ absurd (let f : eqb a b ≡ false = ne_eqb a b d in cc) ]

-- the collector of a pair
pair_one_by : (P : ℕ × ℕ → Type 0) (o : Option Collector) (target : ℕ) (q : ℕ × ℕ) → ((c : Collector) → o ≡ Some c → P (target, c.id)) → option_map (λ (c : Collector). (let r : ℕ × ℕ = (target, c.id) in r)) o ≡ Some q → P q
pair_one_by P None target q has e = cc
pair_one_by P (Some c) target q has e = let s : (let r : ℕ × ℕ = (target, c.id) in r) ≡ q = cc in subst P s (has c refl)

pair_one :
    (P : ℕ × ℕ → Type 0) (jobs : ℕ) (cs : List Collector) (bin : Option ℕ) (target : ℕ) (q : ℕ × ℕ) → ((b : ℕ) (c : Collector) → bin ≡ Some b → slice_get cs (b / jobs) ≡ Some c → P (target, c.id)) → pair_by jobs cs bin target ≡ Some q → P q
pair_one P jobs cs None target q has e = cc
pair_one P jobs cs (Some b) target q has e = pair_one_by P (slice_get cs (b / jobs)) target q (λ c s. has b c refl s) e

share_none :
    (m : Moment) (collector job : ℕ) (f : ℕ → Option ℕ) (item : ℕ) (live : List ℕ) → ((k : ℕ) (c : Collector) → slice_get m.fleet.collectors k ≡ Some c → eqb c.id collector ≡ false)
    → share_of m.fleet (pairs_from (length m.fleet.jobs) m.fleet.collectors f item live) collector job ≡ 0
share_none m collector job f item [] none = refl
share_none m collector job f item (t ∷ live) none =
    none_step m collector job (pair_by (length m.fleet.jobs) m.fleet.collectors (f item) t) (pairs_from (length m.fleet.jobs) m.fleet.collectors f (item + 1) live)
    (λ q e. pair_one (λ (r : ℕ × ℕ). (eqb r.1 collector && is_of_job m.fleet job r.0) ≡ false) (length m.fleet.jobs) m.fleet.collectors (f item) t q (λ b c s found. not_both (eqb c.id collector) (is_of_job m.fleet job t) (none (b / length m.fleet.jobs) c found)) e)
    (share_none m collector job f (item + 1) live none)

-- the place of a number, or nobody has it
pub record HasId (cs : List Collector) (id : ℕ) : Type 0 where
  pub place : ℕ
  pub one : Collector
  pub found : slice_get cs place ≡ Some one
  pub number : one.id ≡ id

pub find_id : (cs : List Collector) (id : ℕ) → ((k : ℕ) (c : Collector) → slice_get cs k ≡ Some c → eqb c.id id ≡ false) ⊎ HasId cs id
find_id [] id = inl (λ k c e. cc)
find_id (x ∷ cs) id = elim (cases_eq x.id id) [
  | inl e ↦ inr (record { place = 0; one = x; found = refl; number = e })
  | inr d ↦ elim (find_id cs id) [
    | inl none ↦ inl (nobody x cs id d none)
    | inr h ↦ inr (record { place = suc h.place; one = h.one; found = h.found; number = h.number })
  ]
]
  where
    nobody : (x : Collector) (cs : List Collector) (id : ℕ) → x.id ≢ id → ((k : ℕ) (c : Collector) → slice_get cs k ≡ Some c → eqb c.id id ≡ false) → (k : ℕ) (c : Collector) → slice_get (x ∷ cs) k ≡ Some c → eqb c.id id ≡ false
    nobody x cs id d none zero c e = let s : x ≡ c = cc in subst (λ (y : Collector). eqb y.id id ≡ false) s (ne_eqb x.id id d)
    nobody x cs id d none (suc k) c e = none k c e

pub got : (cs : List Collector) (k : ℕ) (c d : Collector) → slice_get cs k ≡ Some c → (k < length cs) × (get_or cs k d ≡ c)
got [] k c d e = cc
got (x ∷ cs) zero c d e = (omega arith, cc)
got (x ∷ cs) (suc k) c d e = let r = got cs k c d e in (omega (arith, r.0), r.1)

-- two places with one number are one place
pub one_place : (m : Moment) (p q : ℕ) (a b : Collector) → IsFleet m.fleet → slice_get m.fleet.collectors p ≡ Some a → slice_get m.fleet.collectors q ≡ Some b → a.id ≡ b.id → p ≡ q
one_place m p q a b kept e f same =
    let ga = got m.fleet.collectors p a a e in
    let gb = got m.fleet.collectors q b a f in
    elim (cases_eq p q) [
      | inl s ↦ s
      | inr d ↦ elim (cases_lt p q) [
        | inl l ↦ absurd (omega (arith, kept.ascending p q a l gb.0, ap (λ (c : Collector). c.id) ga.1, ap (λ (c : Collector). c.id) gb.1, same))
        | inr g ↦ absurd (omega (arith, kept.ascending q p a (omega arith) ga.0, ap (λ (c : Collector). c.id) ga.1, ap (λ (c : Collector). c.id) gb.1, same))
      ]
    ]

of_job_by : (o : Option KnownTarget) (job : ℕ) (k : KnownTarget) → o ≡ Some k → option_map_or (λ (x : KnownTarget). eqb x.job job) o false ≡ true → k.job ≡ job
of_job_by None job k e t = cc
of_job_by (Some x) job k e t = let s : x ≡ k = cc in subst (λ (y : KnownTarget). y.job ≡ job) s (eqb_same x.job job t)

-- a target's bin at a collector for a job
bin_by :
    (m : Moment) (collector job target b : ℕ) (c : Collector) (h : HasId m.fleet.collectors collector) (o : Option KnownTarget) → IsFleet m.fleet → slice_get m.fleet.known target ≡ o → ((k : KnownTarget) → o ≡ Some k → k.job < length m.fleet.jobs)
    → Contains (option_map_or (λ (k : KnownTarget). row_from (length m.fleet.jobs) 0 m.fleet.collectors k) o []) b → slice_get m.fleet.collectors (b / length m.fleet.jobs) ≡ Some c → (eqb c.id collector && is_of_job m.fleet job target) ≡ true → b ≡ h.place * length m.fleet.jobs + job
bin_by m collector job target b c h None kept e home (i, l, at) found test = absurd (omega arith)
bin_by m collector job target b c h (Some k) kept e home has found test =
    let f = row_is_from (length m.fleet.jobs) 0 b m.fleet.collectors k has in
    let zero_plus : 0 + f.further ≡ f.further = omega arith in
    let is : b ≡ f.further * length m.fleet.jobs + k.job = f.is ∙ ap (λ (n : ℕ). n * length m.fleet.jobs + k.job) zero_plus in
    let place : b / length m.fleet.jobs ≡ f.further = ap (λ (x : ℕ). x / length m.fleet.jobs) is ∙ div-mul-add f.further (length m.fleet.jobs) k.job (home k refl) in
    let tests = both (eqb c.id collector) (is_of_job m.fleet job target) test in
    let here : b / length m.fleet.jobs ≡ h.place = one_place m (b / length m.fleet.jobs) h.place c h.one kept found h.found (eqb_same c.id collector tests.0 ∙ sym h.number) in
    let job_is : k.job ≡ job = of_job_by (slice_get m.fleet.known target) job k e tests.1 in
    is ∙ (λ i. (sym place ∙ here) i * length m.fleet.jobs + job_is i)

get_front : (xs ys : List ℕ) (k : ℕ) → k < length xs → get_or (xs ++ ys) k 0 ≡ get_or xs k 0
get_front [] ys k l = absurd (omega arith)
get_front (x ∷ xs) ys zero l = refl
get_front (x ∷ xs) ys (suc k) l = get_front xs ys k (omega arith)

get_back : (xs ys : List ℕ) (i k : ℕ) → i ≡ length xs + k → get_or (xs ++ ys) i 0 ≡ get_or ys k 0
get_back [] ys i k e = ap (λ (n : ℕ). get_or ys n 0) (let r : i ≡ k = omega arith in r)
get_back (x ∷ xs) ys zero k e = absurd (omega arith)
get_back (x ∷ xs) ys (suc i) k e = get_back xs ys i k (omega arith)

job_in_range : (f : JobSpec → ℕ) (jobs : List JobSpec) (job : ℕ) → option_map_or f (slice_get jobs job) 0 ≢ 0 → job < length jobs
job_in_range f [] job d = absurd (d refl)
job_in_range f (j ∷ jobs) zero d = omega arith
job_in_range f (j ∷ jobs) (suc job) d = omega (arith, job_in_range f jobs job d)

limit_of_job : (f : JobSpec → ℕ) (jobs : List JobSpec) (job : ℕ) → get_or (map f jobs) job 0 ≡ option_map_or f (slice_get jobs job) 0
limit_of_job f [] job = refl
limit_of_job f (j ∷ jobs) zero = refl
limit_of_job f (j ∷ jobs) (suc job) = limit_of_job f jobs job

-- the bin of a collector's place and a job's has the limit of the collector's share of the job
share_of_bin : (jobs : List JobSpec) (cs : List Collector) (place job i : ℕ) (one : Collector) → slice_get cs place ≡ Some one → job < length jobs → i ≡ place * length jobs + job → get_or (limits_for jobs cs) i 0 ≡ option_map_or (λ (j : JobSpec). share_limit j one) (slice_get jobs job) 0
share_of_bin jobs [] place job i one found in_range e = cc
share_of_bin jobs (c ∷ cs) zero job i one found in_range e =
    let here : i ≡ job = omega arith in
    let is : c ≡ one = cc in
    let f : JobSpec → ℕ = λ j. share_limit j c in
    ap (λ (n : ℕ). get_or (limits_for jobs (c ∷ cs)) n 0) here ∙ get_front (map f jobs) (limits_for jobs cs) job (omega (arith, length-map jobs f)) ∙ limit_of_job f jobs job ∙ ap (λ (x : Collector). option_map_or (λ (j : JobSpec). share_limit j x) (slice_get jobs job) 0) is
share_of_bin jobs (c ∷ cs) (suc place) job i one found in_range e =
    let f : JobSpec → ℕ = λ j. share_limit j c in
    get_back (map f jobs) (limits_for jobs cs) i (place * length jobs + job) (omega (arith, length-map jobs f))
    ∙ share_of_bin jobs cs place job (place * length jobs + job) one found in_range refl

-- the limit of a share is the lower of the job's and the collector's own
lower_by : (o : Option JobSpec) (one : Collector) → option_map_or (λ (j : JobSpec). share_limit j one) o 0 ≡ lower_limit (option_map_or (λ (j : JobSpec). j.target_limit) o 0) (option_map_or (λ (j : JobSpec). own_limit one.limits j.name) o 0)
lower_by None one = refl
lower_by (Some j) one = refl

find_step : (b : Bool) (x one : Collector) (rest : Option Collector) → (b ≡ true → x ≡ one) → (b ≡ false → rest ≡ Some one) → cond b (Some x) rest ≡ Some one
find_step true x one rest here there = let s = here refl in cc
find_step false x one rest here there = there refl

-- the first collector of a number is the one that has it
pub find_one : (cs : List Collector) (place : ℕ) (one : Collector) (id : ℕ) → AllPairs (λ (a b : Collector). a.id < b.id) cs → slice_get cs place ≡ Some one → one.id ≡ id → find (λ (c : Collector). eqb c.id id) cs ≡ Some one
find_one [] place one id rises found is = cc
find_one (x ∷ cs) zero one id rises found is = let s : x ≡ one = cc in find_step (eqb x.id id) x one (find (λ (c : Collector). eqb c.id id) cs) (λ e. s) (λ e. absurd (true_false (sym (eq-eqb x.id id (ap (λ (c : Collector). c.id) s ∙ is)) ∙ e)))
  where
    true_false : true ≡ false → ⊥
    true_false e = cc
find_one (x ∷ cs) (suc place) one id rises found is =
    let there = got cs place one x found in
    let below : x.id < one.id = omega (arith, rises 0 (suc place) x (omega arith) (omega (arith, there.0)), ap (λ (c : Collector). c.id) there.1) in
    find_step (eqb x.id id) x one (find (λ (c : Collector). eqb c.id id) cs) (λ e. absurd (omega (arith, below, is, eqb_same x.id id e)))
    (λ e. find_one cs place one id (λ i j d l less. rises (suc i) (suc j) d (omega arith) (omega arith)) found is)

-- the limit of the bin, as the fleet tells both
pub limit_of_bin :
    (m : Moment) (place job bin : ℕ) (one : Collector) → IsFleet m.fleet → slice_get m.fleet.collectors place ≡ Some one → job < length m.fleet.jobs → bin ≡ place * length m.fleet.jobs + job
    → slice_index (instance_of m.fleet m.before).limits bin ≡ lower_limit (limit_at m.fleet job) (own_limit_at m.fleet one.id job)
unfolding instance_of
limit_of_bin m place job bin one kept found in_range is =
    let own : own_limit_at m.fleet one.id job ≡ option_map_or (λ (j : JobSpec). own_limit one.limits j.name) (slice_get m.fleet.jobs job) 0 =
    ap (λ (o : Option Collector). option_map_or (λ (c : Collector). option_map_or (λ (j : JobSpec). own_limit c.limits j.name) (slice_get m.fleet.jobs job) 0) o 0) (find_one m.fleet.collectors place one one.id kept.ascending found refl) in
    share_of_bin m.fleet.jobs m.fleet.collectors place job bin one found in_range is ∙ lower_by (slice_get m.fleet.jobs job) one ∙ ap (lower_limit (limit_at m.fleet job)) (sym own)

-- a collector's share of a job is no more than its bin has
pub share_uses :
    (m : Moment) (plan : List (ℕ × ℕ)) → IsFleet m.fleet → IsFeasible (instance_of m.fleet m.before) plan → (collector job : ℕ) (h : HasId m.fleet.collectors collector)
    → share_of m.fleet (allocation_of m.fleet plan) collector job ≤ uses_of_bin plan (h.place * length m.fleet.jobs + job)
unfolding allocation_of
share_uses m plan kept feasible collector job h =
    let bin : ℕ = h.place * length m.fleet.jobs + job in
    let few = share_few m collector job bin (beside plan) 0 (live_of m.fleet)
    (λ i l q e test. bin_test m plan collector job i q h kept feasible l e test) in
    omega (arith, few, with_uses plan bin 0 (length (live_of m.fleet)))
  where
    bin_test :
        (m : Moment) (plan : List (ℕ × ℕ)) (collector job i : ℕ) (q : ℕ × ℕ) (h : HasId m.fleet.collectors collector) → IsFleet m.fleet → IsFeasible (instance_of m.fleet m.before) plan → i < length (live_of m.fleet)
        → pair_by (length m.fleet.jobs) m.fleet.collectors (beside plan (0 + i)) (get_or (live_of m.fleet) i 0) ≡ Some q → (eqb q.1 collector && is_of_job m.fleet job q.0) ≡ true → is_bin (beside plan (0 + i)) (h.place * length m.fleet.jobs + job) ≡ true
    bin_test m plan collector job i q h kept feasible l e test =
        let t : ℕ = get_or (live_of m.fleet) i 0 in
        pair_one (λ (r : ℕ × ℕ). (eqb r.1 collector && is_of_job m.fleet job r.0) ≡ true → is_bin (beside plan (0 + i)) (h.place * length m.fleet.jobs + job) ≡ true) (length m.fleet.jobs) m.fleet.collectors (beside plan (0 + i)) t q
        (λ b c s found tested.
        let has : Contains (row_for m.fleet t) b = subst (λ (row : List ℕ). Contains row b) (row_at_item m i l) (beside_has (λ (item bin : ℕ). IsAllowed (instance_of m.fleet m.before) item bin) plan i b feasible.allowed (ap (beside plan) (let r : i ≡ 0 + i = omega arith in r) ∙ s)) in
        let is : b ≡ h.place * length m.fleet.jobs + job = bin_by m collector job t b c h (slice_get m.fleet.known t) kept refl (λ k f. found_has (λ (x : KnownTarget). x.job < length m.fleet.jobs) m.fleet.known t k kept.homes f) has found tested in
        ap (λ (o : Option ℕ). is_bin o (h.place * length m.fleet.jobs + job)) s ∙ eq-eqb b (h.place * length m.fleet.jobs + job) is) e test

-- and no more than the bin holds
share_capacity :
    (m : Moment) (plan : List (ℕ × ℕ)) → IsFleet m.fleet → IsFeasible (instance_of m.fleet m.before) plan → (collector job : ℕ) (h : HasId m.fleet.collectors collector)
    → share_of m.fleet (allocation_of m.fleet plan) collector job ≤ capacity_of (instance_of m.fleet m.before) (h.place * length m.fleet.jobs + job)
share_capacity m plan kept feasible collector job h = omega (arith, share_uses m plan kept feasible collector job h, feasible.within (h.place * length m.fleet.jobs + job))

pub share_nobody :
    (m : Moment) (plan : List (ℕ × ℕ)) (collector job : ℕ) → ((k : ℕ) (c : Collector) → slice_get m.fleet.collectors k ≡ Some c → eqb c.id collector ≡ false) → share_of m.fleet (allocation_of m.fleet plan) collector job ≡ 0
unfolding allocation_of
share_nobody m plan collector job none = share_none m collector job (beside plan) 0 (live_of m.fleet) none

-- the capacity of the bin, by the two limits that the fleet tells
capacity_is :
    (m : Moment) (collector job : ℕ) (h : HasId m.fleet.collectors collector) → IsFleet m.fleet → job < length m.fleet.jobs
    → capacity_of (instance_of m.fleet m.before) (h.place * length m.fleet.jobs + job) ≡ capacity_by (items_of (instance_of m.fleet m.before)) (lower_limit (limit_at m.fleet job) (own_limit_at m.fleet collector job))
capacity_is m collector job h kept in_range =
    ap (capacity_by (items_of (instance_of m.fleet m.before)))
    (limit_of_bin m h.place job (h.place * length m.fleet.jobs + job) h.one kept h.found in_range refl ∙ ap (λ (id : ℕ). lower_limit (limit_at m.fleet job) (own_limit_at m.fleet id job)) h.number)

-- no collector has more than the job's limit
pub allocation_within :
    (m : Moment) (plan : List (ℕ × ℕ)) → IsFleet m.fleet → IsFeasible (instance_of m.fleet m.before) plan → (collector job : ℕ) → limit_at m.fleet job ≢ 0 → share_of m.fleet (allocation_of m.fleet plan) collector job ≤ limit_at m.fleet job
allocation_within m plan kept feasible collector job limited = elim (find_id m.fleet.collectors collector) [
  | inl none ↦ omega (arith, share_nobody m plan collector job none)
  | inr h ↦
      omega (
        arith,
        share_capacity m plan kept feasible collector job h,
        capacity_is m collector job h kept (job_in_range (λ (j : JobSpec). j.target_limit) m.fleet.jobs job limited),
        capacity_first (items_of (instance_of m.fleet m.before)) (limit_at m.fleet job) (own_limit_at m.fleet collector job) limited,
      )
]

own_in_range : (m : Moment) (o : Option Collector) (job : ℕ) → option_map_or (λ (c : Collector). option_map_or (λ (j : JobSpec). own_limit c.limits j.name) (slice_get m.fleet.jobs job) 0) o 0 ≢ 0 → job < length m.fleet.jobs
own_in_range m None job d = absurd (d refl)
own_in_range m (Some c) job d = job_in_range (λ (j : JobSpec). own_limit c.limits j.name) m.fleet.jobs job d

-- nor than its own limit
pub allocation_within_own :
    (m : Moment) (plan : List (ℕ × ℕ)) → IsFleet m.fleet → IsFeasible (instance_of m.fleet m.before) plan → (collector job : ℕ) → own_limit_at m.fleet collector job ≢ 0 → share_of m.fleet (allocation_of m.fleet plan) collector job ≤ own_limit_at m.fleet collector job
allocation_within_own m plan kept feasible collector job limited = elim (find_id m.fleet.collectors collector) [
  | inl none ↦ omega (arith, share_nobody m plan collector job none)
  | inr h ↦
      omega (
        arith,
        share_capacity m plan kept feasible collector job h,
        capacity_is m collector job h kept (own_in_range m (find (λ (c : Collector). eqb c.id collector) m.fleet.collectors) job limited),
        capacity_second (items_of (instance_of m.fleet m.before)) (limit_at m.fleet job) (own_limit_at m.fleet collector job) limited,
      )
]

get_front_flag : (xs ys : List Bool) (k : ℕ) → k < length xs → get_or (xs ++ ys) k false ≡ get_or xs k false
get_front_flag [] ys k l = absurd (omega arith)
get_front_flag (x ∷ xs) ys zero l = refl
get_front_flag (x ∷ xs) ys (suc k) l = get_front_flag xs ys k (omega arith)

get_back_flag : (xs ys : List Bool) (i k : ℕ) → i ≡ length xs + k → get_or (xs ++ ys) i false ≡ get_or ys k false
get_back_flag [] ys i k e = ap (λ (n : ℕ). get_or ys n false) (let r : i ≡ k = omega arith in r)
get_back_flag (x ∷ xs) ys zero k e = absurd (omega arith)
get_back_flag (x ∷ xs) ys (suc i) k e = get_back_flag xs ys i k (omega arith)

-- the bin of a collector's place and a job's drains if the collector does
pub draining_at : (jobs : ℕ) (cs : List Collector) (place job i : ℕ) (one : Collector) → slice_get cs place ≡ Some one → job < jobs → i ≡ place * jobs + job → get_or (draining_for jobs cs) i false ≡ one.draining
draining_at jobs [] place job i one found in_range e = cc
draining_at jobs (c ∷ cs) zero job i one found in_range e =
    let is : c ≡ one = cc in
    get_front_flag (replicate jobs c.draining) (draining_for jobs cs) i (omega (arith, length-replicate jobs c.draining))
    ∙ get_or-replicate jobs i c.draining false (omega arith) ∙ ap (λ (x : Collector). x.draining) is
draining_at jobs (c ∷ cs) (suc place) job i one found in_range e =
    get_back_flag (replicate jobs c.draining) (draining_for jobs cs) i (place * jobs + job) (omega (arith, length-replicate jobs c.draining))
    ∙ draining_at jobs cs place job (place * jobs + job) one found in_range refl

or_same : (a b c : Bool) → a ≡ c → b ≡ false → (a || b) ≡ c
or_same true b c e f = e
or_same false b c e f = f ∙ e

none_drains : (cs : List Collector) (id : ℕ) → All (λ (c : Collector). id < c.id) cs → list_any (λ (c : Collector). eqb c.id id && c.draining) cs ≡ false
none_drains [] id above = refl
none_drains (x ∷ cs) id above =
    or_same (eqb x.id id && x.draining) (list_any (λ (c : Collector). eqb c.id id && c.draining) cs) false
    (not_both (eqb x.id id) x.draining (ne_eqb x.id id (λ e. absurd (omega (arith, e, above 0 x (omega arith))))))
    (none_drains cs id (λ k d l. above (suc k) d (omega arith)))

and_first : (a b c : Bool) → a ≡ true → b ≡ c → (a && b) ≡ c
and_first true b c e f = f
and_first false b c e f = cc

-- the number of a live collector drains if that collector does
pub draining_one : (cs : List Collector) (place : ℕ) (one : Collector) → AllPairs (λ (a b : Collector). a.id < b.id) cs → slice_get cs place ≡ Some one → list_any (λ (c : Collector). eqb c.id one.id && c.draining) cs ≡ one.draining
draining_one [] place one rises found = cc
draining_one (x ∷ cs) zero one rises found =
    let is : x ≡ one = cc in
    or_same (eqb x.id one.id && x.draining) (list_any (λ (c : Collector). eqb c.id one.id && c.draining) cs) one.draining
    (and_first (eqb x.id one.id) x.draining one.draining (eq-eqb x.id one.id (ap (λ (c : Collector). c.id) is)) (ap (λ (c : Collector). c.draining) is))
    (none_drains cs one.id (λ k d l. omega (arith, rises 0 (suc k) d (omega arith) (omega arith), ap (λ (c : Collector). c.id) is)))
draining_one (x ∷ cs) (suc place) one rises found =
    let there = got cs place one x found in
    let below : x.id < one.id = omega (arith, rises 0 (suc place) x (omega arith) (omega (arith, there.0)), ap (λ (c : Collector). c.id) there.1) in
    or_swap (eqb x.id one.id && x.draining) (list_any (λ (c : Collector). eqb c.id one.id && c.draining) cs) one.draining
    (not_both (eqb x.id one.id) x.draining (ne_eqb x.id one.id (λ e. absurd (omega (arith, below, e)))))
    (draining_one cs place one (λ i j d l less. rises (suc i) (suc j) d (omega arith) (omega arith)) found)
  where
    or_swap : (a b c : Bool) → a ≡ false → b ≡ c → (a || b) ≡ c
    or_swap true b c e f = cc
    or_swap false b c e f = f

some_at : (cs : List Collector) (k : ℕ) (d : Collector) → k < length cs → slice_get cs k ≡ Some (get_or cs k d)
some_at [] k d l = absurd (omega arith)
some_at (x ∷ cs) zero d l = refl
some_at (x ∷ cs) (suc k) d l = some_at cs k d (omega arith)

some_jobs : (jobs n bin : ℕ) → bin < jobs * n → 0 < jobs
some_jobs zero n bin l = absurd (omega (arith, l))
some_jobs (suc jobs) n bin l = omega arith

-- a bin drains if the collector of its place does
pub drains_here : (jobs : ℕ) (cs : List Collector) (bin : ℕ) (d : Collector) → bin < jobs * length cs → (get_or cs (bin / jobs) d).draining ≡ get_or (draining_for jobs cs) bin false
drains_here jobs cs bin d l =
    let some = some_jobs jobs (length cs) bin l in
    let below : bin / jobs < length cs = div_below bin jobs (length cs) some (omega (arith, l)) in
    sym (draining_at jobs cs (bin / jobs) (bin % jobs) bin (get_or cs (bin / jobs) d) (some_at cs (bin / jobs) d below) (mod_below bin jobs some) (sym (div-add-mod' bin jobs)))
