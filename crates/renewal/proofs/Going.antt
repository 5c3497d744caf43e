-- A target that goes on, under its new number.
use Rattle.std.proofs.Common.{◌≡◌, ℕ, zero, suc, ◌+◌, ◌<◌, List, [], ◌∷◌, Bool, true, false, Option, Some, None, cond, eqb, get_or, length, map, refl, sym, ap, ◌∙◌, inl, inr, arith}
use Rattle.std.specs.Prelude.{◌||◌, is_some, option_and_then, slice_get, slice_index_or}
use Rattle.std.specs.List.{cons_option, filter_map, position_from}
use Rattle.std.specs.Option.{option_map, option_map_or}
use Rattle.std.specs.Str.{bytes_eq}
use Rattle.std.proofs.lemmas.Bool.{and_from, cases_eq, eq-eqb, ne_eqb}
use Rattle.label_sets.specs.Target.{target_text}
use Rattle.reach_rules.specs.Rules.{reaches}
use Rattle.reach_rules.specs.declared.rule.ReachRule.{ReachRule}
use Rattle.fleet.specs.Fleet.{FleetState, is_joined, is_live}
use Rattle.fleet.specs.IsFleet.{IsFleet}
use Rattle.fleet.specs.Jobs.{are_jobs, is_job, job_named, sources_at}
use Rattle.fleet.specs.Live.{count_below, is_in, is_listed}
use Rattle.fleet.specs.Orderly.{is_of, listed_at}
use Rattle.fleet.specs.Reached.{reaches_at, reaches_in}
use Rattle.fleet.specs.declared.collector.Collector.{Collector}
use Rattle.fleet.specs.declared.job.JobSpec.{JobSpec}
use Rattle.fleet.specs.declared.known_target.KnownTarget.{KnownTarget}
use Rattle.fleet_assignment.specs.Beside.{beside}
use Rattle.fleet_renewal.specs.Renewed.{carried, carried_pair, has_place, is_held, is_served, new_number, new_places, place_at, renewed_collector, renewed_fleet, renewed_lists, survives}
use Rattle.fleet_renewal.proofs.CarriedLemmas.{carries}
use Rattle.fleet_renewal.proofs.Counting.{count_apart, numbered, numbers_here}
use Rattle.fleet_renewal.proofs.Gets.{all_at, kept_here, none_some, some_same}
use Rattle.fleet_renewal.proofs.JobLemmas.{job_here, placed, places_get}
use Rattle.fleet_renewal.proofs.ListedLemmas.{in_found, in_here, list_is, listed_found, listed_here}
use Rattle.fleet_renewal.proofs.Moving.{known_after, known_at, moved_from, survivor_moved}
use Rattle.fleet_renewal.proofs.RenewedKept.{job_of, live_was}
use Rattle.renewal.specs.Continuity.{KeepsSources, job_name, live_holder, sources_of, text_of}
use Rattle.renewal.proofs.Apart.{AreApart, apart_head, apart_tail}

-- the target before and after
pub record Going (fleet : FleetState) (pairs : List (ℕ × ℕ)) (slots : List ℕ) (jobs : List JobSpec) (target : ℕ) : Type 0 where
  pub before : KnownTarget
  pub after : KnownTarget
  pub was : slice_get fleet.known target ≡ Some before
  pub is : slice_get (known_after fleet pairs slots jobs) (count_below (survives fleet pairs slots jobs) target) ≡ Some after
  pub job : place_at (new_places fleet.jobs jobs) before.job ≡ Some after.job
  pub same : after.target ≡ before.target

pub going : (fleet : FleetState) (pairs : List (ℕ × ℕ)) (slots : List ℕ) (jobs : List JobSpec) (target : ℕ) → survives fleet pairs slots jobs target ≡ true → Going fleet pairs slots jobs target
going fleet pairs slots jobs target stays =
    let found = survivor_moved fleet pairs slots jobs target stays in
    let m = moved_from fleet.known (new_places fleet.jobs jobs) target found.0 found.1 in
    record { before = m.before; after = found.0; was = m.was; is = known_at fleet pairs slots jobs target stays ∙ found.1; job = m.job; same = m.target }

pub name_at : (fleet : FleetState) (target : ℕ) (k : KnownTarget) (job : JobSpec) → slice_get fleet.known target ≡ Some k → slice_get fleet.jobs k.job ≡ Some job → job_name fleet target ≡ Some job.name
name_at fleet target k job here there =
    ap (option_and_then (λ (k : KnownTarget). option_map (λ (job : JobSpec). job.name) (slice_get fleet.jobs k.job))) here ∙ ap (option_map (λ (job : JobSpec). job.name)) there

pub same_job : (fleet : FleetState) (pairs : List (ℕ × ℕ)) (slots : List ℕ) (jobs : List JobSpec) (target : ℕ) → survives fleet pairs slots jobs target ≡ true → job_name (renewed_fleet fleet pairs slots jobs) (count_below (survives fleet pairs slots jobs) target) ≡ job_name fleet target
unfolding renewed_fleet
same_job fleet pairs slots jobs target stays =
    let g = going fleet pairs slots jobs target stays in
    let p = placed fleet.jobs jobs g.before.job g.after.job g.job in
    name_at (renewed_fleet fleet pairs slots jobs) (count_below (survives fleet pairs slots jobs) target) g.after p.after g.is p.is
    ∙ ap (λ (name : List ℕ). (let o : Option (List ℕ) = Some name in o)) p.name
    ∙ sym (name_at fleet target g.before p.before g.was p.was)

pub same_text : (fleet : FleetState) (pairs : List (ℕ × ℕ)) (slots : List ℕ) (jobs : List JobSpec) (target : ℕ) → survives fleet pairs slots jobs target ≡ true → text_of (renewed_fleet fleet pairs slots jobs) (count_below (survives fleet pairs slots jobs) target) ≡ text_of fleet target
unfolding renewed_fleet
same_text fleet pairs slots jobs target stays =
    let g = going fleet pairs slots jobs target stays in
    ap (option_map (λ (k : KnownTarget). target_text k.target)) g.is ∙ ap (λ t. (let o : Option (List ℕ) = Some (target_text t) in o)) g.same ∙ ap (option_map (λ (k : KnownTarget). target_text k.target)) (sym g.was)

-- ---- who reaches it

reach_same :
    (jobs : List JobSpec) (collectors : List Collector) (known others : List KnownTarget) (place n k : ℕ)
    → ((rules : List ReachRule) → option_map_or (λ (x : KnownTarget). reaches rules x.target) (slice_get others k) false ≡ option_map_or (λ (x : KnownTarget). reaches rules x.target) (slice_get known n) false)
    → reaches_in (map (renewed_collector jobs) collectors) others place k ≡ reaches_in collectors known place n
reach_same jobs [] known others place n k same = refl
reach_same jobs (c ∷ collectors) known others zero n k same = same c.reach
reach_same jobs (c ∷ collectors) known others (suc place) n k same = reach_same jobs collectors known others place n k same

pub same_reach :
    (fleet : FleetState) (pairs : List (ℕ × ℕ)) (slots : List ℕ) (jobs : List JobSpec) (target : ℕ) → survives fleet pairs slots jobs target ≡ true → (place : ℕ)
    → reaches_at (renewed_fleet fleet pairs slots jobs) place (count_below (survives fleet pairs slots jobs) target) ≡ reaches_at fleet place target
unfolding renewed_fleet
same_reach fleet pairs slots jobs target stays place =
    let g = going fleet pairs slots jobs target stays in
    reach_same jobs fleet.collectors fleet.known (known_after fleet pairs slots jobs) place target (count_below (survives fleet pairs slots jobs) target)
    (λ rules.
    ap (λ (o : Option KnownTarget). option_map_or (λ (x : KnownTarget). reaches rules x.target) o false) g.is ∙ ap (reaches rules) g.same ∙ ap (λ (o : Option KnownTarget). option_map_or (λ (x : KnownTarget). reaches rules x.target) o false) (sym g.was))

-- ---- who holds it

-- the collector, if it is live
abbrev pub if_live : FleetState → Option ℕ → Option ℕ
if_live fleet o = option_and_then (λ (c : ℕ). cond (is_joined fleet c) (let o : Option ℕ = Some c in o) None) o

absent : (pairs : List (ℕ × ℕ)) (target : ℕ) → ((j : ℕ) (r : ℕ × ℕ) → slice_get pairs j ≡ Some r → target ≡ r.0 → ⊥) → beside pairs target ≡ None
absent [] target other = refl
absent (q ∷ pairs) target other = absent_by (eqb q.0 target) (ne_eqb q.0 target (λ e. other 0 q refl (sym e))) (absent pairs target (λ j r here. other (suc j) r here))
  where
    absent_by : (b : Bool) → b ≡ false → beside pairs target ≡ None → cond b (let o : Option ℕ = Some q.1 in o) (beside pairs target) ≡ None
    absent_by true e rest = cc
    absent_by false e rest = rest

beside_front : (q : ℕ × ℕ) (pairs : List (ℕ × ℕ)) (number : ℕ) → q.0 ≡ number → beside (q ∷ pairs) number ≡ Some q.1
beside_front q pairs number e = ap (λ (b : Bool). cond b (let o : Option ℕ = Some q.1 in o) (beside pairs number)) (eq-eqb q.0 number e)

beside_other : (q : ℕ × ℕ) (pairs : List (ℕ × ℕ)) (number : ℕ) → (q.0 ≡ number → ⊥) → beside (q ∷ pairs) number ≡ beside pairs number
beside_other q pairs number d = ap (λ (b : Bool). cond b (let o : Option ℕ = Some q.1 in o) (beside pairs number)) (ne_eqb q.0 number d)

-- the pair is of the target
here_by :
    (fleet : FleetState) (stays : ℕ → Bool) (q : ℕ × ℕ) (rest : List (ℕ × ℕ)) (target : ℕ) (b : Bool) → stays target ≡ true → q.0 ≡ target → is_joined fleet q.1 ≡ b → beside rest (count_below stays target) ≡ None
    → beside (cons_option (cond b (option_map (λ (n : ℕ). (let p : ℕ × ℕ = (n, q.1) in p)) (new_number stays q.0)) None) rest) (count_below stays target) ≡ cond b (let o : Option ℕ = Some q.1 in o) None
here_by fleet stays q rest target true stay same joined none =
    let number : new_number stays q.0 ≡ Some (count_below stays target) = ap (new_number stays) same ∙ numbers_here stays target stay in
    ap (λ (o : Option ℕ). beside (cons_option (option_map (λ (n : ℕ). (let p : ℕ × ℕ = (n, q.1) in p)) o) rest) (count_below stays target)) number ∙ beside_front (count_below stays target, q.1) rest (count_below stays target) refl
here_by fleet stays q rest target false stay same joined none = none

-- the pair is of another
other_by : (stays : ℕ → Bool) (q : ℕ × ℕ) (o : Option (ℕ × ℕ)) (rest : List (ℕ × ℕ)) (target : ℕ) → ((r : ℕ × ℕ) → o ≡ Some r → r.0 ≡ count_below stays target → ⊥) → beside (cons_option o rest) (count_below stays target) ≡ beside rest (count_below stays target)
other_by stays q None rest target other = refl
other_by stays q (Some r) rest target other = beside_other r rest (count_below stays target) (other r refl)

beside_carried :
    (fleet : FleetState) (stays : ℕ → Bool) (pairs : List (ℕ × ℕ)) (target : ℕ) → stays target ≡ true → AreApart pairs → beside (filter_map (carried_pair fleet (new_number stays)) pairs) (count_below stays target) ≡ if_live fleet (beside pairs target)
beside_carried fleet stays [] target stay apart = refl
beside_carried fleet stays (q ∷ pairs) target stay apart =
    let rest = beside_carried fleet stays pairs target stay (apart_tail q pairs apart) in
    let after = filter_map (carried_pair fleet (new_number stays)) pairs in
    elim (cases_eq q.0 target) [
      | inl e ↦
          let none : beside pairs target ≡ None = absent pairs target (λ j r here same. apart_head q pairs j r apart here (e ∙ same)) in
          here_by fleet stays q after target (is_joined fleet q.1) stay e refl (rest ∙ ap (if_live fleet) none) ∙ ap (if_live fleet) (sym (beside_front q pairs target e))
      | inr d ↦
          other_by stays q (carried_pair fleet (new_number stays) q) after target
          (λ r is same. (let c = carries fleet (new_number stays) q r is in let n = numbered stays q.0 r.0 c.target in d (count_apart stays q.0 target n.passes stay (n.counts ∙ same))))
          ∙ rest ∙ ap (if_live fleet) (sym (beside_other q pairs target d))
    ]

pub same_holder :
    (fleet : FleetState) (pairs : List (ℕ × ℕ)) (slots : List ℕ) (jobs : List JobSpec) (target : ℕ) → survives fleet pairs slots jobs target ≡ true → AreApart pairs → beside (carried fleet pairs slots jobs) (count_below (survives fleet pairs slots jobs) target) ≡ live_holder fleet pairs target
unfolding carried
same_holder fleet pairs slots jobs target stays apart = beside_carried fleet (survives fleet pairs slots jobs) pairs target stays apart

-- ---- whether it is live

pub bool_same : (a b : Bool) → (a ≡ true → b ≡ true) → (b ≡ true → a ≡ true) → a ≡ b
bool_same true b f g = sym (f refl)
bool_same false true f g = g refl
bool_same false false f g = refl

in_some : (xs : List (List ℕ)) (s t : ℕ) → is_in (get_or xs s []) t ≡ true → s < length xs
in_some [] s t e = cc
in_some (x ∷ xs) zero t e = omega arith
in_some (x ∷ xs) (suc s) t e = omega (arith, in_some xs s t e)

live_goes :
    (fleet : FleetState) (pairs : List (ℕ × ℕ)) (slots : List ℕ) (jobs : List JobSpec) (target : ℕ) → IsFleet fleet → are_jobs fleet.jobs ≡ true → are_jobs jobs ≡ true → survives fleet pairs slots jobs target ≡ true → KeepsSources fleet jobs target → is_live fleet target ≡ true
    → is_listed (renewed_lists fleet (new_number (survives fleet pairs slots jobs)) jobs) (count_below (survives fleet pairs slots jobs) target) ≡ true
live_goes fleet pairs slots jobs target kept named good stays sources live =
    let number = new_number (survives fleet pairs slots jobs) in
    let found = listed_found fleet.listed target live in
    let j = found.0 in
    let s = found.1 in
    let at = in_found (listed_at fleet.listed j s) target found.2 in
    let home = job_of fleet.known target j (all_at (λ (t : ℕ). is_of fleet.known j t ≡ true) (listed_at fleet.listed j s) at.0 target (kept.orderly.own j s) at.1) in
    let g = going fleet pairs slots jobs target stays in
    let same : g.before ≡ home.0 = some_same g.before home.0 (sym g.was ∙ home.1) in
    let job : g.before.job ≡ j = ap (λ (k : KnownTarget). k.job) same ∙ home.2 in
    let p = placed fleet.jobs jobs g.before.job g.after.job g.job in
    let old : job_named fleet.jobs p.before.name ≡ Some g.before.job = job_here fleet.jobs g.before.job p.before named p.was in
    let new : job_named jobs p.before.name ≡ Some g.after.job = ap (job_named jobs) (sym p.name) ∙ job_here jobs g.after.job p.after good p.is in
    let many = sources p.before.name (name_at fleet target g.before p.before g.was p.was) in
    let many_old : sources_of fleet.jobs p.before.name ≡ sources_at fleet.jobs g.before.job = ap (λ (o : Option ℕ). option_map_or (λ (job : ℕ). sources_at fleet.jobs job) o 0) old in
    let many_new : sources_of jobs p.before.name ≡ sources_at jobs g.after.job = ap (λ (o : Option ℕ). option_map_or (λ (job : ℕ). sources_at jobs job) o 0) new in
    let last : sources_at jobs g.after.job ≡ p.after.sources = ap (λ (o : Option JobSpec). option_map_or (λ (x : JobSpec). x.sources) o 0) p.is in
    let within : s < p.after.sources = omega (arith, in_some (slice_index_or fleet.listed j []) s target found.2, kept.each_source j, ap (sources_at fleet.jobs) job, many, many_old, many_new, last) in
    let named_old : job_named fleet.jobs p.after.name ≡ Some j = ap (job_named fleet.jobs) p.name ∙ old ∙ ap (λ (n : ℕ). (let o : Option ℕ = Some n in o)) job in
    let lists : listed_at (renewed_lists fleet number jobs) g.after.job s ≡ filter_map number (listed_at fleet.listed j s) =
    list_is fleet number jobs g.after.job s p.after p.is within ∙ ap (λ (o : Option ℕ). filter_map number (slice_index_or (option_map_or (λ (job : ℕ). slice_index_or fleet.listed job []) o []) s [])) named_old in
    let there = kept_here number (listed_at fleet.listed j s) at.0 target (count_below (survives fleet pairs slots jobs) target) at.1 (numbers_here (survives fleet pairs slots jobs) target stays) in
    listed_here (renewed_lists fleet number jobs) g.after.job s (count_below (survives fleet pairs slots jobs) target)
    (ap (λ (xs : List ℕ). is_in xs (count_below (survives fleet pairs slots jobs) target)) lists ∙ in_here (filter_map number (listed_at fleet.listed j s)) there.0 (count_below (survives fleet pairs slots jobs) target) there.1)

pub same_live :
    (fleet : FleetState) (pairs : List (ℕ × ℕ)) (slots : List ℕ) (jobs : List JobSpec) (target : ℕ) → IsFleet fleet → are_jobs fleet.jobs ≡ true → are_jobs jobs ≡ true → survives fleet pairs slots jobs target ≡ true → KeepsSources fleet jobs target
    → is_live (renewed_fleet fleet pairs slots jobs) (count_below (survives fleet pairs slots jobs) target) ≡ is_live fleet target
unfolding renewed_fleet
same_live fleet pairs slots jobs target kept named good stays sources =
    bool_same _ (is_live fleet target) (λ e. live_was fleet pairs slots jobs target stays e) (λ e. live_goes fleet pairs slots jobs target kept named good stays sources e)

-- ---- a live target of a job that stays goes on

any_found : (name : List ℕ) (jobs : List JobSpec) (i : ℕ) → is_job jobs name ≡ true → is_some (position_from (λ (job : JobSpec). bytes_eq job.name name) i jobs) ≡ true
any_found name [] i e = cc
any_found name (x ∷ jobs) i e = found_by (bytes_eq x.name name) e (λ h. any_found name jobs (i + 1) h)
  where
    found_by : (b : Bool) → (b || is_job jobs name) ≡ true → (is_job jobs name ≡ true → is_some (position_from (λ (job : JobSpec). bytes_eq job.name name) (i + 1) jobs) ≡ true)
        → is_some (cond b (let o : Option ℕ = Some i in o) (position_from (λ (job : JobSpec). bytes_eq job.name name) (i + 1) jobs)) ≡ true
    found_by true e rest = refl
    found_by false e rest = rest e

job_place : (old new : List JobSpec) (j : ℕ) (name : List ℕ) (o : Option JobSpec) → slice_get old j ≡ o → option_map (λ (job : JobSpec). job.name) o ≡ Some name → is_job new name ≡ true → is_some (place_at (new_places old new) j) ≡ true
job_place old new j name None was e is = none_some name e
job_place old new j name (Some job) was e is =
    ap is_some (places_get old new j ∙ ap (option_and_then (λ (x : JobSpec). job_named new x.name)) was ∙ ap (job_named new) (some_same job.name name e)) ∙ any_found name new 0 is

target_place :
    (fleet : FleetState) (jobs : List JobSpec) (target : ℕ) (name : List ℕ) (o : Option KnownTarget) → slice_get fleet.known target ≡ o → option_and_then (λ (k : KnownTarget). option_map (λ (job : JobSpec). job.name) (slice_get fleet.jobs k.job)) o ≡ Some name → is_job jobs name ≡ true
    → has_place fleet.known (new_places fleet.jobs jobs) target ≡ true
target_place fleet jobs target name None was e is = none_some name e
target_place fleet jobs target name (Some k) was e is =
    ap (λ (o : Option KnownTarget). option_map_or (λ (k : KnownTarget). is_some (place_at (new_places fleet.jobs jobs) k.job)) o false) was ∙ job_place fleet.jobs jobs k.job name (slice_get fleet.jobs k.job) refl e is

either : (a b : Bool) → a ≡ true → (a || b) ≡ true
either true b e = refl
either false b e = cc

pub live_survives : (fleet : FleetState) (pairs : List (ℕ × ℕ)) (slots : List ℕ) (jobs : List JobSpec) (target : ℕ) (name : List ℕ) → is_live fleet target ≡ true → job_name fleet target ≡ Some name → is_job jobs name ≡ true → survives fleet pairs slots jobs target ≡ true
live_survives fleet pairs slots jobs target name live named is =
    let needed = is_live fleet target || is_held fleet pairs target in
    and_from (has_place fleet.known (new_places fleet.jobs jobs) target) (needed || is_served slots target) (target_place fleet jobs target name (slice_get fleet.known target) refl named is)
    (either needed (is_served slots target) (either (is_live fleet target) (is_held fleet pairs target) live))

other : (a b : Bool) → b ≡ true → (a || b) ≡ true
other true b e = refl
other false b e = e

pub served_survives : (fleet : FleetState) (pairs : List (ℕ × ℕ)) (slots : List ℕ) (jobs : List JobSpec) (target : ℕ) (name : List ℕ) → is_served slots target ≡ true → job_name fleet target ≡ Some name → is_job jobs name ≡ true → survives fleet pairs slots jobs target ≡ true
served_survives fleet pairs slots jobs target name served named is =
    let needed = is_live fleet target || is_held fleet pairs target in
    and_from (has_place fleet.known (new_places fleet.jobs jobs) target) (needed || is_served slots target) (target_place fleet jobs target name (slice_get fleet.known target) refl named is) (other needed (is_served slots target) served)
