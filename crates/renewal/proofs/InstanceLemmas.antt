-- With the same jobs the instance is the same.
use Rattle.std.proofs.Common.{◌≡◌, ℕ, zero, suc, ◌+◌, ◌*◌, ◌<◌, List, [], ◌∷◌, ◌++◌, Bool, true, false, Option, Some, None, cond, get_or, length, map, refl, sym, ap, ◌∙◌, arith, add-one}
use Rattle.std.specs.Prelude.{◌==◌, ◌||◌, option_and_then, replicate, slice_get}
use Rattle.std.specs.List.{list_any, position_from}
use Rattle.std.specs.Option.{option_map, option_map_or}
use Rattle.std.specs.Str.{bytes_eq}
use Rattle.std.proofs.lemmas.Bool.{or_parts}
use Rattle.std.proofs.lemmas.List.{append-nil, map-append}
use Rattle.std.proofs.lemmas.Option.{slice_get-get_or}
use Rattle.price_certificate.specs.declared.version.Version.TheVariants.{Two}
use Rattle.reach_rules.specs.Rules.{reaches}
use Rattle.fleet.specs.Fleet.{FleetState, is_joined, is_live, live_of}
use Rattle.fleet.specs.IsFleet.{IsFleet}
use Rattle.fleet.specs.Jobs.{are_jobs, is_job, job_named}
use Rattle.fleet.specs.Live.{chosen_below, count_below}
use Rattle.fleet.specs.Orderly.{is_of, listed_at}
use Rattle.fleet.specs.ShareLimit.{lower_limit, share_limit}
use Rattle.fleet.specs.declared.collector.Collector.{Collector}
use Rattle.fleet.specs.declared.job.JobSpec.{JobSpec}
use Rattle.fleet.specs.declared.known_target.KnownTarget.{KnownTarget}
use Rattle.fleet.proofs.Chosen.{chosen_pass}
use Rattle.fleet_assignment.specs.Beside.{beside}
use Rattle.fleet_assignment.specs.Instance.{bin_before_in, bin_in, draining_for, instance_of, limits_for, row_from, row_in}
use Rattle.fleet_renewal.specs.Renewed.{carried, renewed_collector, renewed_fleet, survives}
use Rattle.fleet_renewal.proofs.Gets.{all_at, some_same}
use Rattle.fleet_renewal.proofs.JobLemmas.{job_here, name_same, placed}
use Rattle.fleet_renewal.proofs.ListedLemmas.{in_found, listed_found}
use Rattle.fleet_renewal.proofs.Moving.{known_after, known_count}
use Rattle.fleet_renewal.proofs.RenewedKept.{job_of}
use Rattle.renewal.specs.Continuity.{KeepsSources, job_name}
use Rattle.renewal.proofs.Apart.{AreApart}
use Rattle.renewal.proofs.Going.{going, if_live, live_survives, name_at, same_holder, same_live}
use Rattle.renewal.proofs.LimitsKept.{limit_kept}

-- ---- bins

shares_same : (jobs all : List JobSpec) (c : Collector) → ((i : ℕ) (job : JobSpec) → slice_get jobs i ≡ Some job → is_job all job.name ≡ true) → map (λ (job : JobSpec). share_limit job (renewed_collector all c)) jobs ≡ map (λ (job : JobSpec). share_limit job c) jobs
shares_same [] all c are = refl
shares_same (job ∷ jobs) all c are =
    let first : share_limit job (renewed_collector all c) ≡ share_limit job c = ap (lower_limit job.target_limit) (limit_kept all c job.name (are 0 job refl)) in
    λ i. first i ∷ shares_same jobs all c (λ k x here. are (suc k) x here) i

limits_same : (jobs : List JobSpec) (collectors : List Collector) → ((i : ℕ) (job : JobSpec) → slice_get jobs i ≡ Some job → is_job jobs job.name ≡ true) → limits_for jobs (map (renewed_collector jobs) collectors) ≡ limits_for jobs collectors
limits_same jobs [] are = refl
limits_same jobs (c ∷ collectors) are = λ i. shares_same jobs jobs c are i ++ limits_same jobs collectors are i

draining_same : (count : ℕ) (jobs : List JobSpec) (collectors : List Collector) → draining_for count (map (renewed_collector jobs) collectors) ≡ draining_for count collectors
draining_same count jobs [] = refl
draining_same count jobs (c ∷ collectors) = ap (λ (bs : List Bool). replicate count c.draining ++ bs) (draining_same count jobs collectors)

row_by : (b : Bool) (bin : ℕ) (xs ys : List ℕ) → xs ≡ ys → cond b (bin ∷ xs) xs ≡ cond b (bin ∷ ys) ys
row_by true bin xs ys e = ap (λ (zs : List ℕ). bin ∷ zs) e
row_by false bin xs ys e = e

row_same : (count place : ℕ) (jobs : List JobSpec) (collectors : List Collector) (k : KnownTarget) → row_from count place (map (renewed_collector jobs) collectors) k ≡ row_from count place collectors k
row_same count place jobs [] k = refl
row_same count place jobs (c ∷ collectors) k = row_by (reaches c.reach k.target) (place * count + k.job) _ _ (row_same count (place + 1) jobs collectors k)

place_same : (jobs : List JobSpec) (collectors : List Collector) (id i : ℕ) → position_from (λ (c : Collector). c.id == id) i (map (renewed_collector jobs) collectors) ≡ position_from (λ (c : Collector). c.id == id) i collectors
place_same jobs [] id i = refl
place_same jobs (c ∷ collectors) id i = ap (λ (o : Option ℕ). cond (c.id == id) (let s : Option ℕ = Some i in s) o) (place_same jobs collectors id (i + 1))

-- ---- items

is_named : (jobs : List JobSpec) (i : ℕ) (job : JobSpec) → slice_get jobs i ≡ Some job → is_job jobs job.name ≡ true
is_named [] i job here = cc
is_named (x ∷ jobs) zero job here = first (bytes_eq x.name job.name) (name_same x.name job.name (ap (λ (j : JobSpec). j.name) (some_same x job here)))
  where
    first : (b : Bool) → b ≡ true → (b || is_job jobs job.name) ≡ true
    first true e = refl
    first false e = cc
is_named (x ∷ jobs) (suc i) job here = behind (bytes_eq x.name job.name) (is_named jobs i job here)
  where
    behind : (b : Bool) → is_job jobs job.name ≡ true → (b || is_job jobs job.name) ≡ true
    behind true e = refl
    behind false e = e

-- a live target and its job
live_named : (fleet : FleetState) (target : ℕ) → IsFleet fleet → is_live fleet target ≡ true → (name : List ℕ) × (job_name fleet target ≡ Some name) × (is_job fleet.jobs name ≡ true)
live_named fleet target kept live =
    let found = listed_found fleet.listed target live in
    let at = in_found (listed_at fleet.listed found.0 found.1) target found.2 in
    let home = job_of fleet.known target found.0 (all_at (λ (t : ℕ). is_of fleet.known found.0 t ≡ true) (listed_at fleet.listed found.0 found.1) at.0 target (kept.orderly.own found.0 found.1) at.1) in
    let within : home.0.job < length fleet.jobs = all_at (λ (k : KnownTarget). k.job < length fleet.jobs) fleet.known target home.0 kept.homes home.1 in
    let none : JobSpec = record { name = []; target_limit = 0; sources = 0 } in
    let job = get_or fleet.jobs home.0.job none in
    let there : slice_get fleet.jobs home.0.job ≡ Some job = slice_get-get_or fleet.jobs home.0.job none within in
    (job.name, name_at fleet target home.0 job home.1 there, is_named fleet.jobs home.0.job job there)

pub live_stays : (fleet : FleetState) (pairs : List (ℕ × ℕ)) (slots : List ℕ) (target : ℕ) → IsFleet fleet → is_live fleet target ≡ true → survives fleet pairs slots fleet.jobs target ≡ true
live_stays fleet pairs slots target kept live = (let named = live_named fleet target kept live in live_survives fleet pairs slots fleet.jobs target named.0 live named.1 named.2)

-- a target that goes on is known as before
known_same : (fleet : FleetState) (pairs : List (ℕ × ℕ)) (slots : List ℕ) (target : ℕ) → are_jobs fleet.jobs ≡ true → survives fleet pairs slots fleet.jobs target ≡ true → slice_get (known_after fleet pairs slots fleet.jobs) (count_below (survives fleet pairs slots fleet.jobs) target) ≡ slice_get fleet.known target
known_same fleet pairs slots target named stays =
    let g = going fleet pairs slots fleet.jobs target stays in
    let p = placed fleet.jobs fleet.jobs g.before.job g.after.job g.job in
    let job : g.after.job ≡ g.before.job =
    some_same g.after.job g.before.job (sym (job_here fleet.jobs g.after.job p.after named p.is) ∙ ap (job_named fleet.jobs) p.name ∙ job_here fleet.jobs g.before.job p.before named p.was) in
    let same : g.after ≡ g.before = λ i. record { job = job i; target = g.same i } in
    g.is ∙ ap (λ (k : KnownTarget). (let o : Option KnownTarget = Some k in o)) same ∙ sym g.was

-- ---- what is made of the live targets

chosen_by :
    (q r p : ℕ → Bool) (n c : ℕ) (b : Bool) → count_below p n ≡ c → (b ≡ true → q c ≡ r n) → (b ≡ false → r n ≡ false) → chosen_below q c ≡ map (count_below p) (chosen_below r n)
    → chosen_below q (c + cond b 1 0) ≡ map (count_below p) (chosen_below r n ++ cond (r n) (n ∷ []) [])
chosen_by q r p n c true is same none rest =
    ap (chosen_below q) (add-one c)
    ∙ (λ i. rest i ++ cond (same refl i) (sym is i ∷ []) [])
    ∙ last (r n)
    ∙ sym (map-append (count_below p) (chosen_below r n) (cond (r n) (n ∷ []) []))
  where
    last : (d : Bool) → map (count_below p) (chosen_below r n) ++ cond d (count_below p n ∷ []) [] ≡ map (count_below p) (chosen_below r n) ++ map (count_below p) (cond d (n ∷ []) [])
    last true = refl
    last false = refl
chosen_by q r p n c false is same none rest =
    ap (chosen_below q) (let z : c + 0 ≡ c = omega arith in z)
    ∙ rest
    ∙ ap (map (count_below p)) (sym (append-nil (chosen_below r n)) ∙ ap (λ (d : Bool). chosen_below r n ++ cond d (n ∷ []) []) (sym (none refl)))

chosen_map : (q r p : ℕ → Bool) (n : ℕ) → ((k : ℕ) → k < n → p k ≡ true → q (count_below p k) ≡ r k) → ((k : ℕ) → k < n → p k ≡ false → r k ≡ false) → chosen_below q (count_below p n) ≡ map (count_below p) (chosen_below r n)
chosen_map q r p zero same none = refl
chosen_map q r p (suc n) same none = chosen_by q r p n (count_below p n) (p n) refl (λ e. same n (omega arith) e) (λ e. none n (omega arith) e) (chosen_map q r p n (λ k l e. same k (omega arith) e) (λ k l e. none k (omega arith) e))

map_same : {Y : Type 0} (f g : ℕ → Y) (c : ℕ → ℕ) (xs : List ℕ) → ((i t : ℕ) → slice_get xs i ≡ Some t → f (c t) ≡ g t) → map f (map c xs) ≡ map g xs
map_same f g c [] same = refl
map_same f g c (x ∷ xs) same = λ i. same 0 x refl i ∷ map_same f g c xs (λ k t here. same (suc k) t here) i

-- ---- the pairs before

not_there : (collectors : List Collector) (id i : ℕ) → list_any (λ (c : Collector). c.id == id) collectors ≡ false → position_from (λ (c : Collector). c.id == id) i collectors ≡ None
not_there [] id i e = refl
not_there (c ∷ collectors) id i e =
    let parts = or_parts (c.id == id) (list_any (λ (x : Collector). x.id == id) collectors) e in
    ap (λ (b : Bool). cond b (let s : Option ℕ = Some i in s) (position_from (λ (x : Collector). x.id == id) (i + 1) collectors)) parts.0 ∙ not_there collectors id (i + 1) parts.1

-- the bin of a target that a collector holds which is not live: none
bin_gone_by : (count : ℕ) (o : Option KnownTarget) → option_and_then (λ (k : KnownTarget). option_map (λ (place : ℕ). place * count + k.job) (let s : Option ℕ = None in s)) o ≡ None
bin_gone_by count None = refl
bin_gone_by count (Some k) = refl

bin_gone : (count : ℕ) (collectors : List Collector) (known : List KnownTarget) (target collector : ℕ) → list_any (λ (c : Collector). c.id == collector) collectors ≡ false → bin_in count collectors known target collector ≡ None
bin_gone count collectors known target collector gone =
    ap (λ (o : Option ℕ). option_and_then (λ (k : KnownTarget). option_map (λ (place : ℕ). place * count + k.job) o) (slice_get known target)) (not_there collectors collector 0 gone) ∙ bin_gone_by count (slice_get known target)

held_by : (fleet : FleetState) (count target c : ℕ) (b : Bool) → is_joined fleet c ≡ b → option_and_then (bin_in count fleet.collectors fleet.known target) (cond b (let o : Option ℕ = Some c in o) None) ≡ bin_in count fleet.collectors fleet.known target c
held_by fleet count target c true joined = refl
held_by fleet count target c false joined = sym (bin_gone count fleet.collectors fleet.known target c joined)

holder_same : (fleet : FleetState) (count target : ℕ) (o : Option ℕ) → option_and_then (bin_in count fleet.collectors fleet.known target) (if_live fleet o) ≡ option_and_then (bin_in count fleet.collectors fleet.known target) o
holder_same fleet count target None = refl
holder_same fleet count target (Some c) = held_by fleet count target c (is_joined fleet c) refl

bin_same :
    (fleet : FleetState) (pairs : List (ℕ × ℕ)) (slots : List ℕ) (count target c : ℕ) → are_jobs fleet.jobs ≡ true → survives fleet pairs slots fleet.jobs target ≡ true
    → bin_in count (map (renewed_collector fleet.jobs) fleet.collectors) (known_after fleet pairs slots fleet.jobs) (count_below (survives fleet pairs slots fleet.jobs) target) c ≡ bin_in count fleet.collectors fleet.known target c
bin_same fleet pairs slots count target c named stays =
    λ i. option_and_then (λ (k : KnownTarget). option_map (λ (place : ℕ). place * count + k.job) (place_same fleet.jobs fleet.collectors c 0 i)) (known_same fleet pairs slots target named stays i)

before_same :
    (fleet : FleetState) (pairs : List (ℕ × ℕ)) (slots : List ℕ) (count target : ℕ) → are_jobs fleet.jobs ≡ true → survives fleet pairs slots fleet.jobs target ≡ true → AreApart pairs
    → bin_before_in count (map (renewed_collector fleet.jobs) fleet.collectors) (known_after fleet pairs slots fleet.jobs) (carried fleet pairs slots fleet.jobs) (count_below (survives fleet pairs slots fleet.jobs) target) ≡ bin_before_in count fleet.collectors fleet.known pairs target
before_same fleet pairs slots count target named stays apart =
    (λ i. option_and_then (λ (c : ℕ). bin_same fleet pairs slots count target c named stays i) (same_holder fleet pairs slots fleet.jobs target stays apart i))
    ∙ holder_same fleet count target (beside pairs target)

row_at : (fleet : FleetState) (pairs : List (ℕ × ℕ)) (slots : List ℕ) (count target : ℕ) → are_jobs fleet.jobs ≡ true → survives fleet pairs slots fleet.jobs target ≡ true → row_in count (map (renewed_collector fleet.jobs) fleet.collectors) (known_after fleet pairs slots fleet.jobs) (count_below (survives fleet pairs slots fleet.jobs) target) ≡ row_in count fleet.collectors fleet.known target
row_at fleet pairs slots count target named stays =
    λ i. option_map_or (λ (k : KnownTarget). row_same count 0 fleet.jobs fleet.collectors k i) (known_same fleet pairs slots target named stays i) []

-- ---- the live targets

sources_kept : (fleet : FleetState) (target : ℕ) → KeepsSources fleet fleet.jobs target
sources_kept fleet target name e = omega arith

not_live : (fleet : FleetState) (pairs : List (ℕ × ℕ)) (slots : List ℕ) (target : ℕ) (b : Bool) → IsFleet fleet → is_live fleet target ≡ b → survives fleet pairs slots fleet.jobs target ≡ false → b ≡ false
not_live fleet pairs slots target true kept live stays = (let other = live_stays fleet pairs slots target kept live in cc)
not_live fleet pairs slots target false kept live stays = refl

pub live_same :
    (fleet : FleetState) (pairs : List (ℕ × ℕ)) (slots : List ℕ) → IsFleet fleet → are_jobs fleet.jobs ≡ true → live_of (renewed_fleet fleet pairs slots fleet.jobs) ≡ map (count_below (survives fleet pairs slots fleet.jobs)) (live_of fleet)
unfolding renewed_fleet
live_same fleet pairs slots kept named =
    let stays = survives fleet pairs slots fleet.jobs in
    let live = is_live (renewed_fleet fleet pairs slots fleet.jobs) in
    ap (chosen_below live) (known_count fleet pairs slots fleet.jobs)
    ∙ chosen_map live (is_live fleet) stays (length fleet.known) (λ k l e. same_live fleet pairs slots fleet.jobs k kept named named e (sources_kept fleet k)) (λ k l e. not_live fleet pairs slots k (is_live fleet k) kept refl e)

-- ---- the instance

pub instance_same : (fleet : FleetState) (pairs : List (ℕ × ℕ)) (slots : List ℕ) → IsFleet fleet → are_jobs fleet.jobs ≡ true → AreApart pairs → instance_of (renewed_fleet fleet pairs slots fleet.jobs) (carried fleet pairs slots fleet.jobs) ≡ instance_of fleet pairs
unfolding renewed_fleet instance_of
instance_same fleet pairs slots kept named apart =
    let count = length fleet.jobs in
    let stays = survives fleet pairs slots fleet.jobs in
    let known = known_after fleet pairs slots fleet.jobs in
    let collectors = map (renewed_collector fleet.jobs) fleet.collectors in
    let items = live_same fleet pairs slots kept named in
    let each : (i t : ℕ) → slice_get (live_of fleet) i ≡ Some t → stays t ≡ true = λ i t here. live_stays fleet pairs slots t kept (all_at (λ (n : ℕ). is_live fleet n ≡ true) (live_of fleet) i t (chosen_pass (is_live fleet) (length fleet.known)) here) in
    let rows = ap (map (row_in count collectors known)) items ∙ map_same (row_in count collectors known) (row_in count fleet.collectors fleet.known) (count_below stays) (live_of fleet) (λ i t here. row_at fleet pairs slots count t named (each i t here)) in
    let before =
    ap (map (bin_before_in count collectors known (carried fleet pairs slots fleet.jobs))) items
    ∙ map_same (bin_before_in count collectors known (carried fleet pairs slots fleet.jobs)) (bin_before_in count fleet.collectors fleet.known pairs) (count_below stays) (live_of fleet) (λ i t here. before_same fleet pairs slots count t named (each i t here) apart) in
    let limits = limits_same fleet.jobs fleet.collectors (λ i job here. is_named fleet.jobs i job here) in
    let draining = draining_same count fleet.jobs fleet.collectors in
    λ i. record { version = Two; limits = limits i; draining = draining i; rows = rows i; before = before i }
