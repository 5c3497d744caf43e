-- What JSON data says is never that it is no JSON.
use Rattle.std.proofs.Common.{◌≡◌, ◌≢◌, ℕ, ◌+◌, Bool, true, false, cond, List, [], ◌∷◌, ◌++◌, length, Option, Some, None, Result, Ok, Err}
use Rattle.std.specs.Prelude.{is_some, option_and_then, codes, nat_le, sum_by}
use Rattle.std.specs.Option.{ok_or, option_map_or}
use Rattle.std.specs.Str.{bytes_eq}
use Rattle.serde_json.specs.Data.{Data, object, Items, no_items, item, Members, no_members, member}
use Rattle.serde_json.specs.Find.{get, as_str, as_array, as_object}
use Rattle.serde_json.specs.Written.{has_float}
use Rattle.serde_json.specs.Events.{items_len}
use Rattle.json_values.specs.Spelling.{number_in}
use Rattle.label_sets.specs.Name.{is_label_name}
use Rattle.label_sets.specs.Labels.{LabelList, with_label}
use Rattle.sd_documents.specs.declared.error.SdError.{SdError}
use Rattle.sd_documents.specs.declared.error.SdError.TheVariants.{NotJson, Shape, BadLabelName, RepeatedJob, UnsupportedDiscovery, TooMany, Memory}
use Rattle.sd_documents.specs.declared.error.Limit.TheVariants.{Jobs, Sources, Rules, Targets}
use Rattle.sd_documents.specs.declared.error.Member.{Member}
use Rattle.sd_documents.specs.declared.error.Member.TheVariants.{ScrapeConfigs, JobName, Number, MetricsPath, Scheme, TargetLimit, Params, StaticConfigs, HttpSdConfigs, RelabelConfigs}
use Rattle.sd_documents.specs.declared.limits.TheConstants.{MOST_JOBS, MOST_URLS, MOST_RULES, MOST_TARGETS}
use Rattle.sd_documents.specs.declared.group.Group.{Group}
use Rattle.sd_documents.specs.declared.config.Param.{Param}
use Rattle.sd_documents.specs.Reading.{◌>>=◌, Gives, each_said, text_said, texts_said}
use Rattle.sd_documents.specs.Groups.{filled, targets_said, label_said, labels_from, labels_said, group_said, few_targets, groups_said}
use Rattle.sd_documents.specs.Groups as group
use Rattle.sd_documents.specs.Config.{SettingsData, PartsData, JobData, ConfigData, name_said, text_or, limit_said, params_from, params_said, static_said, url_said, few_urls, urls_said, all_objects, few_rules, rules_said, unsupported_in, settings_said, parts_said, supported, members_said, job_said, is_taken, next_job, with_job, jobs_from, entries_in, entries_said, few_entries, listed_entries, as_read_from, config_said}

-- it is another answer
abbrev IsTold : {A : Type 0} → Result A SdError → Type 0
IsTold r = r ≡ Err NotJson → ⊥

value : {A : Type 0} (x : A) → IsTold {A = A} (Ok x)
value x is = cc

shape : {A : Type 0} (index : ℕ) (part : Member) → IsTold {A = A} (Err (Shape index part))
shape index part is = cc

then : {A B : Type 0} (r : Result A SdError) (f : A → Result B SdError) → IsTold r → ((x : A) → IsTold (f x)) → IsTold (r >>= f)
then (Ok x) f first rest is = rest x is
then (Err e) f first rest is = let same : e ≡ NotJson = cc in first (cc)

found : {A : Type 0} (o : Option A) (index : ℕ) (part : Member) → IsTold (ok_or o (Shape index part))
found None index part is = cc
found (Some x) index part is = cc

branch : {A : Type 0} (b : Bool) (r s : Result A SdError) → IsTold r → IsTold s → IsTold (cond b r s)
branch true r s first second = first
branch false r s first second = second

each : {A : Type 0} (what : Data → Result A SdError) → ((d : Data) → IsTold (what d)) → (ds : Items) → IsTold (each_said what ds)
each what told no_items = value []
each {A} what told (item d ds) =
    then (what d) (λ x. each_said what ds >>= λ xs. Ok (x ∷ xs)) (told d)
    (λ x. then (each_said what ds) (λ xs. Ok (x ∷ xs)) (each what told ds) (λ xs. value (x ∷ xs)))

texts : (index : ℕ) (part : Member) (d : Data) → IsTold (texts_said index part d)
texts index part d =
    then (ok_or (as_array d) (Shape index part)) (each_said (text_said index part)) (found (as_array d) index part)
    (each (text_said index part) (λ t. found (as_str t) index part))

targets : (index : ℕ) (part : Member) (o : Option Data) → IsTold (targets_said index part o)
targets index part None = value []
targets index part (Some d) = texts index part d

label : (index : ℕ) (part : Member) (labels : LabelList) (name : List ℕ) (d : Data) → IsTold (label_said index part labels name d)
label index part labels name d =
    branch (is_label_name name) (text_said index part d >>= λ text. Ok (with_label labels name text)) (Err BadLabelName)
    (then (text_said index part d) (λ text. Ok (with_label labels name text)) (found (as_str d) index part) (λ text. value (with_label labels name text)))
    (λ is. cc)

labels_told : (index : ℕ) (part : Member) (labels : LabelList) (ms : Members) → IsTold (labels_from index part labels ms)
labels_told index part labels no_members = value labels
labels_told index part labels (member name d ms) =
    then (label_said index part labels name d) (λ more. labels_from index part more ms) (label index part labels name d) (λ more. labels_told index part more ms)

labels_of : (index : ℕ) (part : Member) (o : Option Data) → IsTold (labels_said index part o)
labels_of index part None = value []
labels_of index part (Some d) = then (ok_or (as_object d) (Shape index part)) (labels_from index part []) (found (as_object d) index part) (labels_told index part [])

group_parts : (index : ℕ) (part : Member) (d : Data) → IsTold (group.parts_said index part d)
group_parts index part d =
    then (targets_said index part (filled (get (codes "targets") d))) (λ targets. labels_said index part (filled (get (codes "labels") d)) >>= λ labels. Ok (let g : Group = record { targets = targets; labels = labels } in g))
    (targets index part (filled (get (codes "targets") d)))
    (λ targets. then (labels_said index part (filled (get (codes "labels") d))) (λ labels. Ok (let g : Group = record { targets = targets; labels = labels } in g))
    (labels_of index part (filled (get (codes "labels") d))) (λ labels is. cc))

group_told : (index : ℕ) (part : Member) (d : Data) → IsTold (group_said index part d)
group_told index part d = branch (is_some (as_object d)) (group.parts_said index part d) (Err (Shape index part)) (group_parts index part d) (shape index part)

few_targets_told : (groups : List Group) → IsTold (few_targets groups)
few_targets_told groups = branch (nat_le (sum_by (λ (g : Group). length g.targets) groups) MOST_TARGETS) (Ok groups) (Err (TooMany Targets)) (value groups) (λ is. cc)

pub groups_told : (index : ℕ) (part : Member) (d : Data) → IsTold (groups_said index part d)
groups_told index part d =
    then (ok_or (as_array d) (Shape index part) >>= each_said (group_said index part)) few_targets
    (then (ok_or (as_array d) (Shape index part)) (each_said (group_said index part)) (found (as_array d) index part) (each (group_said index part) (group_told index part)))
    few_targets_told

name_told : (index : ℕ) (o : Option Data) → IsTold (name_said index o)
name_told index o =
    then (ok_or (option_and_then as_str o) (Shape index JobName)) (λ name. cond (bytes_eq name []) (Err (Shape index JobName)) (Ok name)) (found (option_and_then as_str o) index JobName)
    (λ name. branch (bytes_eq name []) (Err (Shape index JobName)) (Ok name) (shape index JobName) (value name))

text_or_told : (absent : List ℕ) (index : ℕ) (part : Member) (o : Option Data) → IsTold (text_or absent index part o)
text_or_told absent index part None = value absent
text_or_told absent index part (Some d) = found (as_str d) index part

limit_told : (index : ℕ) (o : Option Data) → IsTold (limit_said index o)
limit_told index None = value 0
limit_told index (Some d) = found (number_in d) index TargetLimit

params_from_told : (index : ℕ) (ms : Members) → IsTold (params_from index ms)
params_from_told index no_members = value []
params_from_told index (member name d ms) =
    then (texts_said index Params d) (λ values. params_from index ms >>= λ others. Ok ((let p : Param = record { name = name; values = values } in p) ∷ others)) (texts index Params d)
    (λ values. then (params_from index ms) (λ others. Ok ((let p : Param = record { name = name; values = values } in p) ∷ others)) (params_from_told index ms) (λ others is. cc))

params_told : (index : ℕ) (o : Option Data) → IsTold (params_said index o)
params_told index None = value []
params_told index (Some d) = then (ok_or (as_object d) (Shape index Params)) (params_from index) (found (as_object d) index Params) (params_from_told index)

static_told : (index : ℕ) (o : Option Data) → IsTold (static_said index o)
static_told index None = value []
static_told index (Some d) = groups_told index StaticConfigs d

few_urls_told : (urls : List (List ℕ)) → IsTold (few_urls urls)
few_urls_told urls = branch (nat_le (length urls) MOST_URLS) (Ok urls) (Err (TooMany Sources)) (value urls) (λ is. cc)

urls_told : (index : ℕ) (o : Option Data) → IsTold (urls_said index o)
urls_told index None = value []
urls_told index (Some d) =
    then (ok_or (as_array d) (Shape index HttpSdConfigs) >>= each_said (url_said index)) few_urls
    (then (ok_or (as_array d) (Shape index HttpSdConfigs)) (each_said (url_said index)) (found (as_array d) index HttpSdConfigs)
    (each (url_said index) (λ u. found (option_and_then as_str (get (codes "url") u)) index HttpSdConfigs)))
    few_urls_told

few_rules_told : (ds : Items) → IsTold (few_rules ds)
few_rules_told ds = branch (nat_le (items_len ds) MOST_RULES) (Ok ds) (Err (TooMany Rules)) (value ds) (λ is. cc)

rules_told : (index : ℕ) (o : Option Data) → IsTold (rules_said index o)
rules_told index None = value no_items
rules_told index (Some d) =
    then (ok_or (as_array d) (Shape index RelabelConfigs)) (λ ds. cond (all_objects ds) (few_rules ds) (Err (Shape index RelabelConfigs))) (found (as_array d) index RelabelConfigs)
    (λ ds. branch (all_objects ds) (few_rules ds) (Err (Shape index RelabelConfigs)) (few_rules_told ds) (shape index RelabelConfigs))

-- four answers, none of which waits for another
four : {A B C D Y : Type 0} (a : Result A SdError) (b : Result B SdError) (c : Result C SdError) (d : Result D SdError) (y : A → B → C → D → Y)
    → IsTold a → IsTold b → IsTold c → IsTold d → IsTold (a >>= λ p. b >>= λ q. c >>= λ r. d >>= λ s. Ok (y p q r s))
four a b c d y of_a of_b of_c of_d =
    then a (λ p. b >>= λ q. c >>= λ r. d >>= λ s. Ok (y p q r s)) of_a
    (λ p. then b (λ q. c >>= λ r. d >>= λ s. Ok (y p q r s)) of_b
    (λ q. then c (λ r. d >>= λ s. Ok (y p q r s)) of_c
    (λ r. then d (λ s. Ok (y p q r s)) of_d (λ s. value (y p q r s)))))

settings_told : (index : ℕ) (d : Data) → IsTold (settings_said index d)
unfolding settings_said
settings_told index d =
    let made : List ℕ → List ℕ → List ℕ → ℕ → SettingsData = λ name metrics_path scheme target_limit. record { name = name; metrics_path = metrics_path; scheme = scheme; target_limit = target_limit } in
    four (name_said index (get (codes "job_name") d)) (text_or (codes "/metrics") index MetricsPath (get (codes "metrics_path") d)) (text_or (codes "http") index Scheme (get (codes "scheme") d)) (limit_said index (get (codes "target_limit") d)) made
    (name_told index (get (codes "job_name") d)) (text_or_told (codes "/metrics") index MetricsPath (get (codes "metrics_path") d)) (text_or_told (codes "http") index Scheme (get (codes "scheme") d)) (limit_told index (get (codes "target_limit") d))

parts_told : (index : ℕ) (d : Data) → IsTold (parts_said index d)
unfolding parts_said
parts_told index d =
    let made : List Param → List Group → List (List ℕ) → Items → PartsData = λ params static_groups http_urls rules. record { params = params; static_groups = static_groups; http_urls = http_urls; rules = rules } in
    four (params_said index (get (codes "params") d)) (static_said index (get (codes "static_configs") d)) (urls_said index (get (codes "http_sd_configs") d)) (rules_said index (get (codes "relabel_configs") d)) made
    (params_told index (get (codes "params") d)) (static_told index (get (codes "static_configs") d)) (urls_told index (get (codes "http_sd_configs") d)) (rules_told index (get (codes "relabel_configs") d))

unless : (o : Option (List ℕ)) (job : JobData) → IsTold (option_map_or (λ name. Err (UnsupportedDiscovery name)) o (Ok job))
unless None job is = cc
unless (Some name) job is = cc

members_told : (index : ℕ) (d : Data) → IsTold (members_said index d)
unfolding members_said
members_told index d =
    let made : SettingsData → PartsData → JobData = λ settings parts. record { settings = settings; parts = parts } in
    then (settings_said index d) (λ settings. parts_said index d >>= λ parts. supported d (made settings parts)) (settings_told index d)
    (λ settings. then (parts_said index d) (λ parts. supported d (made settings parts)) (parts_told index d)
    (λ parts. unless (option_and_then unsupported_in (as_object d)) (made settings parts)))

job_told : (index : ℕ) (d : Data) → IsTold (job_said index d)
unfolding job_said
job_told index d =
    branch (is_some (as_object d)) (cond (has_float d) (Err (Shape index Number)) (members_said index d)) (Err (Shape index JobName))
    (branch (has_float d) (Err (Shape index Number)) (members_said index d) (shape index Number) (members_told index d))
    (shape index JobName)

next_told : (index : ℕ) (jobs : List JobData) (job : JobData) → IsTold (next_job index jobs job)
next_told index jobs job = branch (is_taken jobs job.settings.name) (Err (RepeatedJob index)) (Ok (jobs ++ job ∷ [])) (λ is. cc) (value (jobs ++ job ∷ []))

jobs_told : (index : ℕ) (jobs : List JobData) (ds : Items) → IsTold (jobs_from index jobs ds)
jobs_told index jobs no_items = value jobs
jobs_told index jobs (item d ds) =
    then (with_job index jobs d) (λ more. jobs_from (index + 1) more ds)
    (then (job_said index d) (next_job index jobs) (job_told index d) (next_told index jobs))
    (λ more. jobs_told (index + 1) more ds)

entries_in_told : (o : Option Data) → IsTold (entries_in o)
entries_in_told None = value no_items
entries_in_told (Some d) = found (as_array d) 0 ScrapeConfigs

few_entries_told : (ds : Items) → IsTold (few_entries ds)
few_entries_told ds = branch (nat_le (items_len ds) MOST_JOBS) (Ok ds) (Err (TooMany Jobs)) (value ds) (λ is. cc)

entries_told : (d : Data) → IsTold (listed_entries d)
entries_told d =
    then (entries_said d) few_entries
    (branch (is_some (as_object d)) (entries_in (get (codes "scrape_configs") d)) (Err (Shape 0 ScrapeConfigs)) (entries_in_told (get (codes "scrape_configs") d)) (shape 0 ScrapeConfigs))
    few_entries_told

pub config_told : (d : Data) → IsTold (config_said d)
unfolding config_said
config_told d =
    let made : Items → List JobData → ConfigData = λ entries jobs. record { jobs = jobs; as_read = object (as_read_from no_members entries) } in
    then (listed_entries d) (λ entries. jobs_from 0 [] entries >>= λ jobs. Ok (made entries jobs)) (entries_told d)
    (λ entries. then (jobs_from 0 [] entries) (λ jobs. Ok (made entries jobs)) (jobs_told 0 [] entries) (λ jobs. value (made entries jobs)))

-- so neither is what is given
pub given_is_told : {X Y : Type 0} (seen : X → Y) (r : Result X SdError) (said : Result Y SdError) → Gives seen r said → (said ≡ Err NotJson → ⊥) → r ≡ Err NotJson → ⊥
given_is_told seen (Ok x) said gives told is = cc
given_is_told seen (Err e) said gives told is =
    let same : e ≡ NotJson = cc in
    let other : e ≢ Memory = λ memory. cc in
    let gave : said ≡ Err e = gives other in
    told (cc)
