-- A configuration that is read has the shape of one, and says what its members say.
use Rattle.std.proofs.Common.{◌≡◌, ◌≢◌, inl, inr, ℕ, ◌+◌, ◌<◌, ◌^◌, ltb-true, Bool, true, false, cond, List, [], ◌∷◌, ◌++◌, length, Option, Some, None, Result, Ok, Err, refl, sym, ap, ◌∙◌, subst, arith, append_assoc}
use Rattle.std.proofs.lemmas.List.{append-nil}
use Rattle.std.specs.Prelude.{is_some, option_and_then, codes, nat_le, nat_lt, IsTrue}
use Rattle.std.specs.Option.{ok_or, option_map_or, MatchOption}
use Rattle.std.specs.Str.{bytes_eq}
use Rattle.serde_json.specs.Data.{Data, null, boolean, number, string, array, object, unsigned, negative, float, Items, no_items, item, Members, no_members, member}
use Rattle.serde_json.specs.Find.{get, as_str, as_array, as_object}
use Rattle.serde_json.specs.Written.{has_float}
use Rattle.serde_json.specs.Events.{items_len}
use Rattle.json_values.specs.Spelling.{number_in, number_data, list_data}
use Rattle.label_sets.specs.Laws.{SetGivesText}
use Rattle.sd_documents.specs.declared.limits.TheConstants.{MOST_JOBS, MOST_URLS, MOST_RULES}
use Rattle.sd_documents.specs.declared.error.SdError.{SdError}
use Rattle.sd_documents.specs.declared.error.SdError.TheVariants.{Shape, RepeatedJob, UnsupportedDiscovery, TooMany}
use Rattle.sd_documents.specs.declared.error.Limit.TheVariants.{Jobs, Sources, Rules}
use Rattle.sd_documents.specs.declared.error.Member.{Member}
use Rattle.sd_documents.specs.declared.error.Member.TheVariants.{ScrapeConfigs, JobName, Number, MetricsPath, Scheme, TargetLimit, Params, StaticConfigs, HttpSdConfigs, RelabelConfigs}
use Rattle.sd_documents.specs.declared.group.Group.{Group}
use Rattle.sd_documents.specs.declared.config.Param.{Param}
use Rattle.sd_documents.specs.Reading.{◌>>=◌, each_said, texts_said}
use Rattle.sd_documents.specs.Config.{SettingsData, PartsData, JobData, ConfigData, name_said, text_or, limit_said, params_from, params_said, static_said, url_said, few_urls, urls_said, all_objects, few_rules, rules_said, is_unsupported, unsupported_in, settings_said, parts_said, supported, members_said, job_said, is_taken, next_job, with_job, jobs_from, entries_in, entries_said, few_entries, listed_entries, as_read_from, config_said}
use Rattle.sd_documents.specs.Documents.{AreEach, IsListOf, HasMember, HasUrl, AreGroups, params_data, IsJob, IsConfig}
use Rattle.sd_documents.proofs.NoFloat.{bind_ok}
use Rattle.sd_documents.proofs.Within.{passed, failed, went, four_ok, passed_job, AreSound, jobs_sound, jobs_count, entries_few, parts_few}
use Rattle.sd_documents.proofs.AcceptedGroups.{is_text, is_array, is_object, some_object, tested, each_is, are_texts, are_groups}

-- ---- settings

found_some : {A : Type 0} (o : Option A) (e : SdError) (x : A) → ok_or o e ≡ Ok x → o ≡ Some x
found_some None e x is = cc
found_some (Some y) e x is = cc

text_there : (o : Option Data) (e : SdError) (text : List ℕ) → ok_or (option_and_then as_str o) e ≡ Ok text → o ≡ Some (string text)
text_there None e text is = cc
text_there (Some d) e text is = ap Some (is_text d e text is)

name_is : (index : ℕ) (o : Option Data) (name : List ℕ) → name_said index o ≡ Ok name → (o ≡ Some (string name)) × (name ≢ [])
name_is index o name is =
    let text = bind_ok (ok_or (option_and_then as_str o) (Shape index JobName)) (λ t. cond (bytes_eq t []) (Err (Shape index JobName)) (Ok t)) name is in
    let test = failed (bytes_eq text.0 []) text.0 name (Shape index JobName) text.2 in (
      text_there o (Shape index JobName) text.0 text.1 ∙ ap (λ t. Some (string t)) test.1,
      λ empty. let off : bytes_eq [] [] ≡ false = sym (ap (λ (t : List ℕ). bytes_eq t []) (test.1 ∙ empty)) ∙ test.0 in cc,
    )

text_is : (default : List ℕ) (index : ℕ) (part : Member) (o : Option Data) (text : List ℕ) → text_or default index part o ≡ Ok text → MatchOption o (text ≡ default) (λ v. v ≡ string text)
text_is default index part None text is = cc
text_is default index part (Some d) text is = is_text d (Shape index part) text is

of_bits : (b : Bool) (m n : ℕ) → cond b (Some m) None ≡ Some n → (b ≡ true) × (m ≡ n)
of_bits true m n is = (refl, cc)
of_bits false m n is = cc

is_number : (d : Data) (n : ℕ) → number_in d ≡ Some n → (d ≡ number_data n) × (n < 2 ^ 32)
is_number null n is = cc
is_number (boolean b) n is = cc
is_number (number (unsigned m)) n is =
    let test = of_bits (nat_lt m (2 ^ 32)) m n is in
    (ap number_data test.1, subst (λ (k : ℕ). k < 2 ^ 32) test.1 (ltb-true m (2 ^ 32) test.0))
is_number (number (negative z)) n is = cc
is_number (number (float x)) n is = cc
is_number (string s) n is = cc
is_number (array ds) n is = cc
is_number (object ms) n is = cc

limit_is : (index : ℕ) (o : Option Data) (limit : ℕ) → limit_said index o ≡ Ok limit → MatchOption o (limit ≡ 0) (λ v. v ≡ number_data limit) × (limit < 2 ^ 32)
limit_is index None limit is = let none : 0 ≡ limit = cc in (sym none, subst (λ (k : ℕ). k < 2 ^ 32) none (omega arith))
limit_is index (Some d) limit is = is_number d limit (found_some (number_in d) (Shape index TargetLimit) limit is)

-- ---- parts

params_of : (index : ℕ) (ms : Members) (params : List Param) → params_from index ms ≡ Ok params → ms ≡ params_data params
params_of index no_members params is = let none : [] ≡ params = cc in ap params_data none
params_of index (member name d ms) params is =
    let made : List (List ℕ) → List Param → List Param = λ values others. record { name = name; values = values } ∷ others in
    let values = bind_ok (texts_said index Params d) (λ values. params_from index ms >>= λ others. Ok (made values others)) params is in
    let others = bind_ok (params_from index ms) (λ others. Ok (made values.0 others)) params values.2 in
    let same : made values.0 others.0 ≡ params = let e : Ok (made values.0 others.0) ≡ Ok params = others.2 in cc in
    ap (λ v. member name v ms) (are_texts index Params d values.0 values.1) ∙ ap (member name (list_data string values.0)) (params_of index ms others.0 others.1) ∙ ap params_data same

params_are : (index : ℕ) (o : Option Data) (params : List Param) → params_said index o ≡ Ok params → MatchOption o (params ≡ []) (λ v. v ≡ object (params_data params))
params_are index None params is = cc
params_are index (Some d) params is =
    let ms = bind_ok (ok_or (as_object d) (Shape index Params)) (params_from index) params is in
    is_object d (Shape index Params) ms.0 ms.1 ∙ ap object (params_of index ms.0 params ms.2)

static_are : SetGivesText → (index : ℕ) (o : Option Data) (groups : List Group) → static_said index o ≡ Ok groups → MatchOption o (groups ≡ []) (λ v. AreGroups v groups)
static_are set index None groups is = cc
static_are set index (Some d) groups is = are_groups set index StaticConfigs d groups is

urls_are : (index : ℕ) (o : Option Data) (urls : List (List ℕ)) → urls_said index o ≡ Ok urls → MatchOption o (urls ≡ []) (IsListOf HasUrl urls)
urls_are index None urls is = cc
urls_are index (Some d) urls is =
    let all = bind_ok (ok_or (as_array d) (Shape index HttpSdConfigs) >>= each_said (url_said index)) few_urls urls is in
    let items = bind_ok (ok_or (as_array d) (Shape index HttpSdConfigs)) (each_said (url_said index)) all.0 all.1 in
    let test = passed (nat_le (length all.0) MOST_URLS) all.0 urls (TooMany Sources) all.2 in
    let each = each_is (url_said index) HasUrl (λ e url. text_there (get (codes "url") e) (Shape index HttpSdConfigs) url) items.0 all.0 items.2 in
    subst (λ (us : List (List ℕ)). IsListOf HasUrl us d) test.1 (items.0, is_array d (Shape index HttpSdConfigs) items.0 items.1, each)

rules_are : (index : ℕ) (o : Option Data) (rules : Items) → rules_said index o ≡ Ok rules → MatchOption o (rules ≡ no_items) (λ v. v ≡ array rules) × IsTrue (all_objects rules)
rules_are index None rules is = let none : no_items ≡ rules = cc in (sym none, ap all_objects (sym none))
rules_are index (Some d) rules is =
    let items = bind_ok (ok_or (as_array d) (Shape index RelabelConfigs)) (λ ds. cond (all_objects ds) (few_rules ds) (Err (Shape index RelabelConfigs))) rules is in
    let test = tested (all_objects items.0) (few_rules items.0) rules (Shape index RelabelConfigs) items.2 in
    let few = passed (nat_le (items_len items.0) MOST_RULES) items.0 rules (TooMany Rules) test.1 in
    (is_array d (Shape index RelabelConfigs) items.0 items.1 ∙ ap array few.1, ap all_objects (sym few.1) ∙ test.0)

-- ---- service discovery

none_found : (o : Option (List ℕ)) (job other : JobData) → option_map_or (λ name. Err (UnsupportedDiscovery name)) o (Ok job) ≡ Ok other → o ≡ None
none_found None job other is = refl
none_found (Some name) job other is = cc

first_passed : (b : Bool) (name : List ℕ) (o : Option (List ℕ)) → cond b (Some name) o ≡ None → (b ≡ false) × (o ≡ None)
first_passed true name o is = cc
first_passed false name o is = (refl, is)

none_unsupported : (ms : Members) → unsupported_in ms ≡ None → (name : List ℕ) (v : Data) → HasMember name v ms → is_unsupported name ≡ false
none_unsupported no_members none name v has = absurd has
none_unsupported (member other e ms) none name v has =
    let rest = first_passed (is_unsupported other) other (unsupported_in ms) none in
    elim has as (λ _. is_unsupported name ≡ false) [
      | inl same ↦ ap is_unsupported same.0 ∙ rest.0
      | inr later ↦ none_unsupported ms rest.1 name v later
    ]

all_supported : (d : Data) (job other : JobData) → supported d job ≡ Ok other → (name : List ℕ) (ms : Members) (v : Data) → d ≡ object ms → HasMember name v ms → is_unsupported name ≡ false
all_supported d job other is name ms v there has =
    let none = none_found (option_and_then unsupported_in (as_object d)) job other is in
    none_unsupported ms (ap (λ e. option_and_then unsupported_in (as_object e)) (sym there) ∙ none) name v has

-- ---- one job

record AreSettings (d : Data) (s : SettingsData) : Type 0 where
  name : get (codes "job_name") d ≡ Some (string s.name)
  named : s.name ≢ []
  path : MatchOption (get (codes "metrics_path") d) (s.metrics_path ≡ codes "/metrics") (λ v. v ≡ string s.metrics_path)
  scheme : MatchOption (get (codes "scheme") d) (s.scheme ≡ codes "http") (λ v. v ≡ string s.scheme)
  limit : MatchOption (get (codes "target_limit") d) (s.target_limit ≡ 0) (λ v. v ≡ number_data s.target_limit)
  limited : s.target_limit < 2 ^ 32

settings_are : (index : ℕ) (d : Data) (settings : SettingsData) → settings_said index d ≡ Ok settings → AreSettings d settings
unfolding settings_said
settings_are index d settings e =
    let made : List ℕ → List ℕ → List ℕ → ℕ → SettingsData = λ name metrics_path scheme target_limit. record { name = name; metrics_path = metrics_path; scheme = scheme; target_limit = target_limit } in
    let read = four_ok (name_said index (get (codes "job_name") d)) (text_or (codes "/metrics") index MetricsPath (get (codes "metrics_path") d)) (text_or (codes "http") index Scheme (get (codes "scheme") d)) (limit_said index (get (codes "target_limit") d)) made settings e in
    let name = name_is index (get (codes "job_name") d) read.p read.of_a in
    let limit = limit_is index (get (codes "target_limit") d) read.s read.of_d in
    let whole : AreSettings d (made read.p read.q read.r read.s) = record {
      name = name.0;
      named = name.1;
      path = text_is (codes "/metrics") index MetricsPath (get (codes "metrics_path") d) read.q read.of_b;
      scheme = text_is (codes "http") index Scheme (get (codes "scheme") d) read.r read.of_c;
      limit = limit.0;
      limited = limit.1;
    } in
    subst (λ (s : SettingsData). AreSettings d s) read.is whole

record AreParts (d : Data) (p : PartsData) : Type 0 where
  params : MatchOption (get (codes "params") d) (p.params ≡ []) (λ v. v ≡ object (params_data p.params))
  groups : MatchOption (get (codes "static_configs") d) (p.static_groups ≡ []) (λ v. AreGroups v p.static_groups)
  urls : MatchOption (get (codes "http_sd_configs") d) (p.http_urls ≡ []) (IsListOf HasUrl p.http_urls)
  rules : MatchOption (get (codes "relabel_configs") d) (p.rules ≡ no_items) (λ v. v ≡ array p.rules)
  objects : IsTrue (all_objects p.rules)

parts_are : SetGivesText → (index : ℕ) (d : Data) (parts : PartsData) → parts_said index d ≡ Ok parts → AreParts d parts
unfolding parts_said
parts_are set index d parts e =
    let made : List Param → List Group → List (List ℕ) → Items → PartsData = λ params static_groups http_urls rules. record { params = params; static_groups = static_groups; http_urls = http_urls; rules = rules } in
    let read = four_ok (params_said index (get (codes "params") d)) (static_said index (get (codes "static_configs") d)) (urls_said index (get (codes "http_sd_configs") d)) (rules_said index (get (codes "relabel_configs") d)) made parts e in
    let rules = rules_are index (get (codes "relabel_configs") d) read.s read.of_d in
    let whole : AreParts d (made read.p read.q read.r read.s) = record {
      params = params_are index (get (codes "params") d) read.p read.of_a;
      groups = static_are set index (get (codes "static_configs") d) read.q read.of_b;
      urls = urls_are index (get (codes "http_sd_configs") d) read.r read.of_c;
      rules = rules.0;
      objects = rules.1;
    } in
    subst (λ (p : PartsData). AreParts d p) read.is whole

is_job : SetGivesText → (index : ℕ) (d : Data) (job : JobData) → job_said index d ≡ Ok job → IsJob d job
unfolding job_said members_said
is_job set index d job e =
    let made : SettingsData → PartsData → JobData = λ settings parts. record { settings = settings; parts = parts } in
    let inside = went (is_some (as_object d)) (cond (has_float d) (Err (Shape index Number)) (members_said index d)) job (Shape index JobName) e in
    let whole = no_float (has_float d) (members_said index d) job (Shape index Number) inside in
    let first = bind_ok (settings_said index d) (λ settings. parts_said index d >>= λ parts. supported d (made settings parts)) job whole.1 in
    let second = bind_ok (parts_said index d) (λ parts. supported d (made first.0 parts)) job first.2 in
    let settings = settings_are index d first.0 first.1 in
    let parts = parts_are set index d second.0 second.1 in
    let few = parts_few index d second.0 second.1 in
    let is : IsJob d (made first.0 second.0) = record {
      name = settings.name;
      named = settings.named;
      path = settings.path;
      scheme = settings.scheme;
      limit = settings.limit;
      limited = settings.limited;
      params = parts.params;
      groups = parts.groups;
      urls = parts.urls;
      few_urls = few.urls;
      rules = parts.rules;
      objects = parts.objects;
      few_rules = few.rules;
      whole = whole.0;
      supported = all_supported d (made first.0 second.0) job second.2;
    } in
    subst (λ (j : JobData). IsJob d j) (passed_job (option_and_then unsupported_in (as_object d)) (made first.0 second.0) job second.2) is
  where
    no_float : (b : Bool) (r : Result JobData SdError) (y : JobData) (e : SdError) → cond b (Err e) r ≡ Ok y → (b ≡ false) × (r ≡ Ok y)
    no_float true r y e is = cc
    no_float false r y e is = (refl, is)

-- ---- all jobs

record AreFrom (jobs more : List JobData) (ds : Items) : Type 0 where
  later : List JobData
  joined : more ≡ jobs ++ later
  each : AreEach IsJob ds later

jobs_are : SetGivesText → (index : ℕ) (jobs more : List JobData) (ds : Items) → jobs_from index jobs ds ≡ Ok more → AreFrom jobs more ds
jobs_are set index jobs more no_items e = let same : jobs ≡ more = cc in record { later = []; joined = sym same ∙ sym (append-nil jobs); each = tt }
jobs_are set index jobs more (item d ds) e =
    let next = bind_ok (with_job index jobs d) (λ (js : List JobData). jobs_from (index + 1) js ds) more e in
    let job = bind_ok (job_said index d) (next_job index jobs) next.0 next.1 in
    let test = failed (is_taken jobs job.0.settings.name) (jobs ++ job.0 ∷ []) next.0 (RepeatedJob index) job.2 in
    let rest = jobs_are set (index + 1) next.0 more ds next.2 in
    record {
      later = job.0 ∷ rest.later;
      joined = rest.joined ∙ ap (λ (js : List JobData). js ++ rest.later) (sym test.1) ∙ append_assoc jobs (job.0 ∷ []) rest.later;
      each = (is_job set index d job.0 job.1, rest.each);
    }

entries_are : (o : Option Data) (entries : Items) (jobs : List JobData) → entries_in o ≡ Ok entries → AreEach IsJob entries jobs → MatchOption o (jobs ≡ []) (IsListOf IsJob jobs)
entries_are None entries jobs is each = let none : no_items ≡ entries = cc in none_are jobs (subst (λ (ds : Items). AreEach IsJob ds jobs) (sym none) each)
  where
    none_are : (js : List JobData) → AreEach IsJob no_items js → js ≡ []
    none_are [] each = refl
    none_are (j ∷ js) each = absurd each
entries_are (Some d) entries jobs is each = (entries, is_array d (Shape 0 ScrapeConfigs) entries is, each)

pub is_config : SetGivesText → (d : Data) (config : ConfigData) → config_said d ≡ Ok config → IsConfig d config.jobs
unfolding config_said
is_config set d config e =
    let made : Items → List JobData → ConfigData = λ entries jobs. record { jobs = jobs; as_read = object (as_read_from no_members entries) } in
    let entries = bind_ok (listed_entries d) (λ entries. jobs_from 0 [] entries >>= λ jobs. Ok (made entries jobs)) config e in
    let jobs = bind_ok (jobs_from 0 [] entries.0) (λ jobs. Ok (made entries.0 jobs)) config entries.2 in
    let same : made entries.0 jobs.0 ≡ config = let is : Ok (made entries.0 jobs.0) ≡ Ok config = jobs.2 in cc in
    let listed = bind_ok (entries_said d) few_entries entries.0 entries.1 in
    let few = passed (nat_le (items_len listed.0) MOST_JOBS) listed.0 entries.0 (TooMany Jobs) listed.2 in
    let test = tested (is_some (as_object d)) (entries_in (get (codes "scrape_configs") d)) listed.0 (Shape 0 ScrapeConfigs) listed.1 in
    let none : AreSound [] = record { each = tt; new = refl } in
    let sound = jobs_sound 0 [] jobs.0 entries.0 jobs.1 none in
    let all = jobs_are set 0 [] jobs.0 entries.0 jobs.1 in
    let each : AreEach IsJob listed.0 jobs.0 = subst (λ (ds : Items). AreEach IsJob ds jobs.0) (sym few.1) (subst (λ (js : List JobData). AreEach IsJob entries.0 js) (sym all.joined) all.each) in
    let is : IsConfig d jobs.0 = record {
      shape = some_object d test.0;
      each = entries_are (get (codes "scrape_configs") d) listed.0 jobs.0 test.1 each;
      few = omega (arith, entries_few d entries.0 entries.1, jobs_count 0 [] jobs.0 entries.0 jobs.1);
      distinct = sound.new;
    } in
    subst (λ (c : ConfigData). IsConfig d c.jobs) same is
