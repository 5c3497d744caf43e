-- The jobs of a configuration that is read are few, each has a name of its own, and each is within the limits.
use Rattle.std.proofs.Common.{◌≡◌, ℕ, zero, suc, ◌+◌, ◌≤◌, Bool, true, false, cond, not, ◌&&◌, ◌||◌, List, [], ◌∷◌, ◌++◌, length, map, Option, Some, None, Result, Ok, Err, refl, sym, ap, ◌∙◌, subst, arith, append_assoc, length-append}
use Rattle.std.proofs.lemmas.List.{append-nil}
use Rattle.std.specs.Prelude.{is_some, option_and_then, codes, nat_le, sum_by, All}
use Rattle.std.specs.Option.{ok_or, option_map_or}
use Rattle.std.specs.Str.{bytes_eq}
use Rattle.std.specs.List.{list_any, AllByRecursion}
use Rattle.std.proofs.lemmas.Bool.{leb-true, and_parts}
use Rattle.serde_json.specs.Data.{Data, Items, no_items, item}
use Rattle.serde_json.specs.Find.{get, as_str, as_array, as_object}
use Rattle.serde_json.specs.Written.{has_float}
use Rattle.serde_json.specs.Events.{items_len}
use Rattle.serde_json.proofs.Views.{items_len-items_view}
use Rattle.sd_documents.specs.declared.error.SdError.{SdError}
use Rattle.sd_documents.specs.declared.error.SdError.TheVariants.{Shape, RepeatedJob, UnsupportedDiscovery, TooMany}
use Rattle.sd_documents.specs.declared.error.Limit.TheVariants.{Jobs, Sources, Rules, Targets}
use Rattle.sd_documents.specs.declared.error.Member.TheVariants.{JobName, Number, MetricsPath, Scheme, StaticConfigs, HttpSdConfigs, RelabelConfigs}
use Rattle.sd_documents.specs.declared.limits.TheConstants.{MOST_JOBS, MOST_URLS, MOST_RULES, MOST_TARGETS}
use Rattle.sd_documents.specs.declared.group.Group.{Group}
use Rattle.sd_documents.specs.declared.config.Job.{Job}
use Rattle.sd_documents.specs.declared.config.Param.{Param}
use Rattle.sd_documents.specs.Reading.{◌>>=◌, each_said}
use Rattle.sd_documents.specs.Groups.{group_said, few_targets}
use Rattle.sd_documents.specs.Config.{SettingsData, PartsData, JobData, job_data, name_said, text_or, limit_said, params_said, static_said, url_said, few_urls, urls_said, all_objects, few_rules, rules_said, unsupported_in, settings_said, parts_said, supported, members_said, job_said, is_taken, next_job, with_job, jobs_from, entries_said, few_entries, listed_entries}
use Rattle.sd_documents.specs.Limits.{are_new, IsWithinLimits, AreJobs}
use Rattle.sd_documents.proofs.NoFloat.{bind_ok}

-- what passed a test
pub passed : {A : Type 0} (b : Bool) (x y : A) (e : SdError) → cond b (Ok x) (Err e) ≡ Ok y → (b ≡ true) × (x ≡ y)
passed true x y e is = (refl, cc)
passed false x y e is = cc

-- what failed one
pub failed : {A : Type 0} (b : Bool) (x y : A) (e : SdError) → cond b (Err e) (Ok x) ≡ Ok y → (b ≡ false) × (x ≡ y)
failed true x y e is = cc
failed false x y e is = (refl, cc)

pub went : {A : Type 0} (b : Bool) (r : Result A SdError) (y : A) (e : SdError) → cond b r (Err e) ≡ Ok y → r ≡ Ok y
went true r y e is = is
went false r y e is = cc

pub went_on : {A : Type 0} (b : Bool) (r : Result A SdError) (y : A) (e : SdError) → cond b (Err e) r ≡ Ok y → r ≡ Ok y
went_on true r y e is = cc
went_on false r y e is = is

pub record Four {A B C D Y : Type 0} (a : Result A SdError) (b : Result B SdError) (c : Result C SdError) (d : Result D SdError) (y : A → B → C → D → Y) (made : Y) : Type 0 where
  pub p : A
  pub q : B
  pub r : C
  pub s : D
  pub of_a : a ≡ Ok p
  pub of_b : b ≡ Ok q
  pub of_c : c ≡ Ok r
  pub of_d : d ≡ Ok s
  pub is : y p q r s ≡ made

pub four_ok : {A B C D Y : Type 0} (a : Result A SdError) (b : Result B SdError) (c : Result C SdError) (d : Result D SdError) (y : A → B → C → D → Y) (made : Y)
    → (a >>= λ p. b >>= λ q. c >>= λ r. d >>= λ s. Ok (y p q r s)) ≡ Ok made → Four a b c d y made
four_ok (Ok p) (Ok q) (Ok r) (Ok s) y made e = record { p = p; q = q; r = r; s = s; of_a = refl; of_b = refl; of_c = refl; of_d = refl; is = cc }
four_ok (Ok p) (Ok q) (Ok r) (Err e) y made is = cc
four_ok (Ok p) (Ok q) (Err e) d y made is = cc
four_ok (Ok p) (Err e) c d y made is = cc
four_ok (Err e) b c d y made is = cc

-- ---- one job

pub record IsSound (job : JobData) : Type 0 where
  pub named : bytes_eq job.settings.name [] ≡ false
  pub targets : sum_by (λ (group : Group). length group.targets) job.parts.static_groups ≤ MOST_TARGETS
  pub urls : length job.parts.http_urls ≤ MOST_URLS
  pub rules : items_len job.parts.rules ≤ MOST_RULES

name_filled : (index : ℕ) (o : Option Data) (name : List ℕ) → name_said index o ≡ Ok name → bytes_eq name [] ≡ false
name_filled index o name e =
    let text = bind_ok (ok_or (option_and_then as_str o) (Shape index JobName)) (λ t. cond (bytes_eq t []) (Err (Shape index JobName)) (Ok t)) name e in
    let test = failed (bytes_eq text.0 []) text.0 name (Shape index JobName) text.2 in
    subst (λ (t : List ℕ). bytes_eq t [] ≡ false) test.1 test.0

settings_named : (index : ℕ) (d : Data) (settings : SettingsData) → settings_said index d ≡ Ok settings → bytes_eq settings.name [] ≡ false
unfolding settings_said
settings_named index d settings e =
    let made : List ℕ → List ℕ → List ℕ → ℕ → SettingsData = λ name metrics_path scheme target_limit. record { name = name; metrics_path = metrics_path; scheme = scheme; target_limit = target_limit } in
    let read = four_ok (name_said index (get (codes "job_name") d)) (text_or (codes "/metrics") index MetricsPath (get (codes "metrics_path") d)) (text_or (codes "http") index Scheme (get (codes "scheme") d)) (limit_said index (get (codes "target_limit") d)) made settings e in
    subst (λ (s : SettingsData). bytes_eq s.name [] ≡ false) read.is (name_filled index (get (codes "job_name") d) read.p read.of_a)

groups_few : (index : ℕ) (o : Option Data) (groups : List Group) → static_said index o ≡ Ok groups → sum_by (λ (group : Group). length group.targets) groups ≤ MOST_TARGETS
groups_few index None groups e = let none : [] ≡ groups = cc in subst (λ (gs : List Group). sum_by (λ (group : Group). length group.targets) gs ≤ MOST_TARGETS) none (omega arith)
groups_few index (Some d) groups e =
    let all = bind_ok (ok_or (as_array d) (Shape index StaticConfigs) >>= each_said (group_said index StaticConfigs)) few_targets groups e in
    let test = passed (nat_le (sum_by (λ (group : Group). length group.targets) all.0) MOST_TARGETS) all.0 groups (TooMany Targets) all.2 in
    subst (λ (gs : List Group). sum_by (λ (group : Group). length group.targets) gs ≤ MOST_TARGETS) test.1 (leb-true (sum_by (λ (group : Group). length group.targets) all.0) MOST_TARGETS test.0)

urls_few : (index : ℕ) (o : Option Data) (urls : List (List ℕ)) → urls_said index o ≡ Ok urls → length urls ≤ MOST_URLS
urls_few index None urls e = let none : [] ≡ urls = cc in subst (λ (us : List (List ℕ)). length us ≤ MOST_URLS) none (omega arith)
urls_few index (Some d) urls e =
    let all = bind_ok (ok_or (as_array d) (Shape index HttpSdConfigs) >>= each_said (url_said index)) few_urls urls e in
    let test = passed (nat_le (length all.0) MOST_URLS) all.0 urls (TooMany Sources) all.2 in
    subst (λ (us : List (List ℕ)). length us ≤ MOST_URLS) test.1 (leb-true (length all.0) MOST_URLS test.0)

rules_few : (index : ℕ) (o : Option Data) (rules : Items) → rules_said index o ≡ Ok rules → items_len rules ≤ MOST_RULES
rules_few index None rules e = let none : no_items ≡ rules = cc in subst (λ (rs : Items). items_len rs ≤ MOST_RULES) none (omega arith)
rules_few index (Some d) rules e =
    let all = bind_ok (ok_or (as_array d) (Shape index RelabelConfigs)) (λ ds. cond (all_objects ds) (few_rules ds) (Err (Shape index RelabelConfigs))) rules e in
    let few = went (all_objects all.0) (few_rules all.0) rules (Shape index RelabelConfigs) all.2 in
    let test = passed (nat_le (items_len all.0) MOST_RULES) all.0 rules (TooMany Rules) few in
    subst (λ (rs : Items). items_len rs ≤ MOST_RULES) test.1 (leb-true (items_len all.0) MOST_RULES test.0)

pub record PartsFew (parts : PartsData) : Type 0 where
  pub targets : sum_by (λ (group : Group). length group.targets) parts.static_groups ≤ MOST_TARGETS
  pub urls : length parts.http_urls ≤ MOST_URLS
  pub rules : items_len parts.rules ≤ MOST_RULES

pub parts_few : (index : ℕ) (d : Data) (parts : PartsData) → parts_said index d ≡ Ok parts → PartsFew parts
unfolding parts_said
parts_few index d parts e =
    let made : List Param → List Group → List (List ℕ) → Items → PartsData = λ params static_groups http_urls rules. record { params = params; static_groups = static_groups; http_urls = http_urls; rules = rules } in
    let read = four_ok (params_said index (get (codes "params") d)) (static_said index (get (codes "static_configs") d)) (urls_said index (get (codes "http_sd_configs") d)) (rules_said index (get (codes "relabel_configs") d)) made parts e in
    let few : PartsFew (made read.p read.q read.r read.s) = record {
      targets = groups_few index (get (codes "static_configs") d) read.q read.of_b;
      urls = urls_few index (get (codes "http_sd_configs") d) read.r read.of_c;
      rules = rules_few index (get (codes "relabel_configs") d) read.s read.of_d;
    } in
    subst (λ (ps : PartsData). PartsFew ps) read.is few

pub passed_job : (o : Option (List ℕ)) (job other : JobData) → option_map_or (λ name. Err (UnsupportedDiscovery name)) o (Ok job) ≡ Ok other → job ≡ other
passed_job None job other e = cc
passed_job (Some name) job other e = cc

members_sound : (index : ℕ) (d : Data) (job : JobData) → members_said index d ≡ Ok job → IsSound job
unfolding members_said
members_sound index d job e =
    let made : SettingsData → PartsData → JobData = λ settings parts. record { settings = settings; parts = parts } in
    let first = bind_ok (settings_said index d) (λ settings. parts_said index d >>= λ parts. supported d (made settings parts)) job e in
    let second = bind_ok (parts_said index d) (λ parts. supported d (made first.0 parts)) job first.2 in
    let few = parts_few index d second.0 second.1 in
    let sound : IsSound (made first.0 second.0) = record { named = settings_named index d first.0 first.1; targets = few.targets; urls = few.urls; rules = few.rules } in
    subst (λ (j : JobData). IsSound j) (passed_job (option_and_then unsupported_in (as_object d)) (made first.0 second.0) job second.2) sound

job_sound : (index : ℕ) (d : Data) (job : JobData) → job_said index d ≡ Ok job → IsSound job
unfolding job_said
job_sound index d job e =
    members_sound index d job
    (went_on (has_float d) (members_said index d) job (Shape index Number)
    (went (is_some (as_object d)) (cond (has_float d) (Err (Shape index Number)) (members_said index d)) job (Shape index JobName) e))

-- ---- the jobs

abbrev names : List JobData → List (List ℕ)
names jobs = map (λ (job : JobData). job.settings.name) jobs

pub record AreSound (jobs : List JobData) : Type 0 where
  pub each : AllByRecursion IsSound jobs
  pub new : are_new [] (names jobs) ≡ true

both : (a b : Bool) → a ≡ true → b ≡ true → (a && b) ≡ true
both a b first second = rw (first, second)

are_new-more : (before others : List (List ℕ)) (name : List ℕ) → are_new before others ≡ true → bytes_eq name [] ≡ false → list_any (λ other. bytes_eq other name) (before ++ others) ≡ false → are_new before (others ++ name ∷ []) ≡ true
are_new-more before [] name new filled other =
    let alone : list_any (λ (x : List ℕ). bytes_eq x name) before ≡ false = rw append-nil at other in
    rw (filled, alone)
are_new-more before (n ∷ others) name new filled other =
    let parts = and_parts (not (bytes_eq n []) && not (list_any (λ (x : List ℕ). bytes_eq x n) before)) (are_new (before ++ n ∷ []) others) new in
    let later : list_any (λ (x : List ℕ). bytes_eq x name) ((before ++ n ∷ []) ++ others) ≡ false = rw append_assoc other in
    both (not (bytes_eq n []) && not (list_any (λ (x : List ℕ). bytes_eq x n) before)) (are_new (before ++ n ∷ []) (others ++ name ∷ [])) parts.0
    (are_new-more (before ++ n ∷ []) others name parts.1 filled later)

any_name : (jobs : List JobData) (name : List ℕ) → list_any (λ other. bytes_eq other name) (names jobs) ≡ is_taken jobs name
any_name [] name = refl
any_name (job ∷ jobs) name = ap (λ (b : Bool). bytes_eq job.settings.name name || b) (any_name jobs name)

names-more : (jobs : List JobData) (job : JobData) → names (jobs ++ job ∷ []) ≡ names jobs ++ job.settings.name ∷ []
names-more [] job = refl
names-more (j ∷ jobs) job = ap (λ (ns : List (List ℕ)). j.settings.name ∷ ns) (names-more jobs job)

each_more : (jobs : List JobData) (job : JobData) → AllByRecursion IsSound jobs → IsSound job → AllByRecursion IsSound (jobs ++ job ∷ [])
each_more [] job each sound = (sound, tt)
each_more (j ∷ jobs) job each sound = (each.0, each_more jobs job each.1 sound)

next_sound : (index : ℕ) (jobs more : List JobData) (job : JobData) → next_job index jobs job ≡ Ok more → IsSound job → AreSound jobs → AreSound more
next_sound index jobs more job e sound before =
    let test = failed (is_taken jobs job.settings.name) (jobs ++ job ∷ []) more (RepeatedJob index) e in
    let new : are_new [] (names jobs ++ job.settings.name ∷ []) ≡ true = are_new-more [] (names jobs) job.settings.name before.new sound.named (any_name jobs job.settings.name ∙ test.0) in
    let all : AreSound (jobs ++ job ∷ []) = record {
      each = each_more jobs job before.each sound;
      new = ap (are_new []) (names-more jobs job) ∙ new;
    } in
    subst (λ (js : List JobData). AreSound js) test.1 all

pub jobs_sound : (index : ℕ) (jobs more : List JobData) (ds : Items) → jobs_from index jobs ds ≡ Ok more → AreSound jobs → AreSound more
jobs_sound index jobs more no_items e before = let same : jobs ≡ more = cc in subst (λ (js : List JobData). AreSound js) same before
jobs_sound index jobs more (item d ds) e before =
    let next = bind_ok (with_job index jobs d) (λ (js : List JobData). jobs_from (index + 1) js ds) more e in
    let job = bind_ok (job_said index d) (next_job index jobs) next.0 next.1 in
    jobs_sound (index + 1) next.0 more ds next.2 (next_sound index jobs next.0 job.0 job.2 (job_sound index d job.0 job.1) before)

pub jobs_count : (index : ℕ) (jobs more : List JobData) (ds : Items) → jobs_from index jobs ds ≡ Ok more → length more ≡ length jobs + items_len ds
jobs_count index jobs more no_items e = let same : jobs ≡ more = cc in omega (arith, ap length same)
jobs_count index jobs more (item d ds) e =
    let next = bind_ok (with_job index jobs d) (λ (js : List JobData). jobs_from (index + 1) js ds) more e in
    let job = bind_ok (job_said index d) (next_job index jobs) next.0 next.1 in
    let test = failed (is_taken jobs job.0.settings.name) (jobs ++ job.0 ∷ []) next.0 (RepeatedJob index) job.2 in
    omega (arith, jobs_count (index + 1) next.0 more ds next.2, ap length test.1, length-append jobs (job.0 ∷ []))

pub entries_few : (d : Data) (entries : Items) → listed_entries d ≡ Ok entries → items_len entries ≤ MOST_JOBS
entries_few d entries e =
    let all = bind_ok (entries_said d) few_entries entries e in
    let test = passed (nat_le (items_len all.0) MOST_JOBS) all.0 entries (TooMany Jobs) all.2 in
    subst (λ (ds : Items). items_len ds ≤ MOST_JOBS) test.1 (leb-true (items_len all.0) MOST_JOBS test.0)

-- ---- the jobs as the program has them

within : (job : Job) → IsSound (job_data job) → IsWithinLimits job
within job sound = record {
  targets = sound.targets;
  urls = sound.urls;
  rules = omega (arith, sound.rules, items_len-items_view job.rules);
}

all_within : (jobs : List Job) → AllByRecursion IsSound (map job_data jobs) → All IsWithinLimits jobs
all_within [] each k d lt = absurd (omega arith)
all_within (job ∷ jobs) each zero d lt = within job each.0
all_within (job ∷ jobs) each (suc k) d lt = all_within jobs each.1 k d (omega arith)

names_seen : (jobs : List Job) → names (map job_data jobs) ≡ map (λ (job : Job). job.name) jobs
names_seen [] = refl
names_seen (job ∷ jobs) = ap (λ (ns : List (List ℕ)). job.name ∷ ns) (names_seen jobs)

seen_count : (jobs : List Job) → length (map job_data jobs) ≡ length jobs
seen_count [] = refl
seen_count (job ∷ jobs) = ap suc (seen_count jobs)

pub are_jobs : (jobs : List Job) (d : Data) (entries : Items) → listed_entries d ≡ Ok entries → jobs_from 0 [] entries ≡ Ok (map job_data jobs) → AreJobs jobs
are_jobs jobs d entries listed read =
    let none : AreSound [] = record { each = tt; new = refl } in
    let sound = jobs_sound 0 [] (map job_data jobs) entries read none in
    record {
      few = omega (arith, entries_few d entries listed, jobs_count 0 [] (map job_data jobs) entries read, seen_count jobs);
      named = ap (are_new []) (sym (names_seen jobs)) ∙ sound.new;
      within = all_within jobs sound.each;
    }
