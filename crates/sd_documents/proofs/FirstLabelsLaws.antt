-- Where each of a target's first labels comes from, from the laws of label sets.
use Rattle.std.proofs.Common.{◌≡◌, ◌≢◌, ℕ, eqb-true, ◌-◌, arith, get_or, Bool, true, false, cond, List, [], ◌∷◌, ◌++◌, Option, Some, None, refl, sym, ap, ◌∙◌, drop}
use Rattle.std.specs.Prelude.{◌==◌, slice_get, slice_index_or, codes}
use Rattle.std.specs.Option.{option_map_or}
use Rattle.std.specs.Str.{bytes_eq}
use Rattle.label_sets.specs.Name.{is_label_name}
use Rattle.label_sets.specs.Labels.{LabelList, label_text, with_label}
use Rattle.label_sets.specs.Laws.{SetGivesText}
use Rattle.sd_documents.specs.declared.config.Job.{Job}
use Rattle.sd_documents.specs.declared.config.Param.{Param}
use Rattle.sd_documents.specs.FirstLabels.{or_label, with_url, param_label, with_value, with_param, with_params, with_address, with_settings}
use Rattle.sd_documents.specs.Laws.{NoneIsNamed, FirstLabelsAreFirst}

-- the name has the same text in both
abbrev Same : LabelList → LabelList → List ℕ → Type 0
Same old new name = label_text new name ≡ label_text old name

-- texts that differ at a index differ
apart : (x y : List ℕ) (i : ℕ) → (get_or x i 0 ≡ get_or y i 0 → ⊥) → x ≢ y
apart x y i differ e = differ (ap (λ (t : List ℕ). get_or t i 0) e)

url_no_param : (rest : List ℕ) → codes "__meta_url" ≢ param_label rest
url_no_param rest = apart (codes "__meta_url") (param_label rest) 2 (λ d. omega (arith, d))

path_no_param : (rest : List ℕ) → codes "__metrics_path__" ≢ param_label rest
path_no_param rest = apart (codes "__metrics_path__") (param_label rest) 2 (λ d. omega (arith, d))

address_no_param : (rest : List ℕ) → codes "__address__" ≢ param_label rest
address_no_param rest = apart (codes "__address__") (param_label rest) 2 (λ d. omega (arith, d))

scheme_no_param : (rest : List ℕ) → codes "__scheme__" ≢ param_label rest
scheme_no_param rest = apart (codes "__scheme__") (param_label rest) 2 (λ d. omega (arith, d))

job_no_param : (rest : List ℕ) → codes "job" ≢ param_label rest
job_no_param rest = apart (codes "job") (param_label rest) 0 (λ d. omega (arith, d))

-- ---- one step

by_text : (text : List ℕ) (set old : LabelList) (P : LabelList → Type 0) → (text ≡ [] → P set) → (text ≢ [] → P old) → P (cond (bytes_eq text []) set old)
by_text [] set old P empty filled = empty refl
by_text (x ∷ xs) set old P empty filled = filled (λ e. cc)

by_test : (b : Bool) (x y : LabelList) (P : LabelList → Type 0) → (b ≡ true → P x) → (b ≡ false → P y) → P (cond b x y)
by_test true x y P first second = first refl
by_test false x y P first second = second refl

by_value : (o : Option (List ℕ)) (f : List ℕ → LabelList) (x : LabelList) (P : LabelList → Type 0) → ((v : List ℕ) → P (f v)) → P x → P (option_map_or f o x)
by_value None f x P some none = none
by_value (Some v) f x P some none = some v

or_other : SetGivesText → (labels : LabelList) (name text q : List ℕ) → q ≢ name → Same labels (or_label labels name text) q
or_other set labels name text q ne = by_text (label_text labels name) (with_label labels name text) labels (λ new. Same labels new q) (λ e. (set labels name text).others q ne) (λ e. refl)

or_filled : SetGivesText → (labels : LabelList) (name text q : List ℕ) → label_text labels q ≢ [] → Same labels (or_label labels name text) q
or_filled set labels name text q has = by_text (label_text labels name) (with_label labels name text) labels (λ new. Same labels new q) (λ e. (set labels name text).others q (λ is. has (ap (label_text labels) is ∙ e))) (λ e. refl)

or_missing : SetGivesText → (labels : LabelList) (name text : List ℕ) → label_text labels name ≡ [] → label_text (or_label labels name text) name ≡ text
or_missing set labels name text missing = by_text (label_text labels name) (with_label labels name text) labels (λ new. label_text new name ≡ text) (λ e. (set labels name text).this) (λ e. absurd (e missing))

param_other : SetGivesText → (labels : LabelList) (param : Param) (q : List ℕ) → q ≢ param_label param.name → Same labels (with_param labels param) q
param_other set labels param q ne =
    by_value (slice_get param.values 0) (with_value labels param.name) labels (λ new. Same labels new q)
    (λ v. by_test (is_label_name (param_label param.name)) (or_label labels (param_label param.name) v) labels (λ new. Same labels new q) (λ e. or_other set labels (param_label param.name) v q ne) (λ e. refl))
    refl

param_filled : SetGivesText → (labels : LabelList) (param : Param) (q : List ℕ) → label_text labels q ≢ [] → Same labels (with_param labels param) q
param_filled set labels param q has =
    by_value (slice_get param.values 0) (with_value labels param.name) labels (λ new. Same labels new q)
    (λ v. by_test (is_label_name (param_label param.name)) (or_label labels (param_label param.name) v) labels (λ new. Same labels new q) (λ e. or_filled set labels (param_label param.name) v q has) (λ e. refl))
    refl

-- ---- all parameters

params_other : SetGivesText → (labels : LabelList) (params : List Param) (q : List ℕ) → ((rest : List ℕ) → q ≢ param_label rest) → Same labels (with_params labels params) q
params_other set labels [] q ne = refl
params_other set labels (param ∷ params) q ne = params_other set (with_param labels param) params q ne ∙ param_other set labels param q (ne param.name)

params_filled : SetGivesText → (labels : LabelList) (params : List Param) (q : List ℕ) → label_text labels q ≢ [] → Same labels (with_params labels params) q
params_filled set labels [] q has = refl
params_filled set labels (param ∷ params) q has =
    let one = param_filled set labels param q has in
    params_filled set (with_param labels param) params q (λ e. has (sym one ∙ e)) ∙ one

same_param : (x y : List ℕ) → param_label x ≡ param_label y → x ≡ y
same_param x y e = ap (drop 8) e

params_none : SetGivesText → (labels : LabelList) (params : List Param) (name : List ℕ) → NoneIsNamed name params → Same labels (with_params labels params) (param_label name)
params_none set labels [] name none = refl
params_none set labels (param ∷ params) name none =
    params_none set (with_param labels param) params name none.1 ∙ param_other set labels param (param_label name) (λ e. none.0 (sym (same_param name param.name e)))

params_split : (labels : LabelList) (before later : List Param) (param : Param) → with_params labels (before ++ param ∷ later) ≡ with_params (with_param (with_params labels before) param) later
params_split labels [] later param = refl
params_split labels (first ∷ before) later param = params_split (with_param labels first) before later param

param_given : SetGivesText → (labels : LabelList) (param : Param) (value : List ℕ) → slice_get param.values 0 ≡ Some value → is_label_name (param_label param.name) ≡ true → label_text labels (param_label param.name) ≡ [] → label_text (with_param labels param) (param_label param.name) ≡ value
param_given set labels param value first named missing =
    ap (λ (o : Option (List ℕ)). label_text (option_map_or (with_value labels param.name) o labels) (param_label param.name)) first
    ∙ ap (λ (b : Bool). label_text (cond b (or_label labels (param_label param.name) value) labels) (param_label param.name)) named
    ∙ or_missing set labels (param_label param.name) value missing

params_given : SetGivesText → (labels : LabelList) (before later : List Param) (param : Param) (value : List ℕ) → NoneIsNamed param.name before → slice_get param.values 0 ≡ Some value → value ≢ [] → is_label_name (param_label param.name) ≡ true → label_text labels (param_label param.name) ≡ []
    → label_text (with_params labels (before ++ param ∷ later)) (param_label param.name) ≡ value
params_given set labels before later param value none first filled named missing =
    let one = param_given set (with_params labels before) param value first named (params_none set labels before param.name none ∙ missing) in
    ap (λ new. label_text new (param_label param.name)) (params_split labels before later param)
    ∙ params_filled set (with_param (with_params labels before) param) later (param_label param.name) (λ e. filled (sym one ∙ e))
    ∙ one

-- ---- the address and the URL

address_other : SetGivesText → (labels : LabelList) (urls : List (List ℕ)) (source : ℕ) (target q : List ℕ) → q ≢ codes "__address__" → q ≢ codes "__meta_url" → Same labels (with_address labels urls source target) q
address_other set labels urls source target q ne_address ne_url =
    (set (with_url labels urls source) (codes "__address__") target).others q ne_address
    ∙ by_test (source == 0) labels (with_label labels (codes "__meta_url") (slice_index_or urls (source - 1) [])) (λ new. Same labels new q) (λ e. refl) (λ e. (set labels (codes "__meta_url") (slice_index_or urls (source - 1) [])).others q ne_url)

url_given : SetGivesText → (labels : LabelList) (urls : List (List ℕ)) (source : ℕ) → source ≢ 0 → label_text (with_url labels urls source) (codes "__meta_url") ≡ slice_index_or urls (source - 1) []
url_given set labels urls source some =
    by_test (source == 0) labels (with_label labels (codes "__meta_url") (slice_index_or urls (source - 1) [])) (λ new. label_text new (codes "__meta_url") ≡ slice_index_or urls (source - 1) [])
    (λ e. absurd (some (eqb-true source 0 e)))
    (λ e. (set labels (codes "__meta_url") (slice_index_or urls (source - 1) [])).this)

url_not_given : (labels : LabelList) (urls : List (List ℕ)) (source : ℕ) → source ≡ 0 → Same labels (with_url labels urls source) (codes "__meta_url")
url_not_given labels urls source none = ap (λ n. label_text (with_url labels urls n) (codes "__meta_url")) none

-- ---- the job's settings

settings_other : SetGivesText → (labels : LabelList) (job : Job) (q : List ℕ) → q ≢ codes "job" → q ≢ codes "__scheme__" → q ≢ codes "__metrics_path__" → Same labels (with_settings labels job) q
settings_other set labels job q ne_job ne_scheme ne_path =
    let named = or_label labels (codes "job") job.name in
    let schemed = or_label named (codes "__scheme__") job.scheme in
    or_other set schemed (codes "__metrics_path__") job.metrics_path q ne_path ∙ or_other set named (codes "__scheme__") job.scheme q ne_scheme ∙ or_other set labels (codes "job") job.name q ne_job

settings_filled : SetGivesText → (labels : LabelList) (job : Job) (q : List ℕ) → label_text labels q ≢ [] → Same labels (with_settings labels job) q
settings_filled set labels job q has =
    let named = or_label labels (codes "job") job.name in
    let schemed = or_label named (codes "__scheme__") job.scheme in
    let first = or_filled set labels (codes "job") job.name q has in
    let second = or_filled set named (codes "__scheme__") job.scheme q (λ e. has (sym first ∙ e)) ∙ first in
    or_filled set schemed (codes "__metrics_path__") job.metrics_path q (λ e. has (sym second ∙ e)) ∙ second

job_given : SetGivesText → (labels : LabelList) (job : Job) → label_text labels (codes "job") ≡ [] → label_text (with_settings labels job) (codes "job") ≡ job.name
job_given set labels job missing =
    let named = or_label labels (codes "job") job.name in
    let schemed = or_label named (codes "__scheme__") job.scheme in
    or_other set schemed (codes "__metrics_path__") job.metrics_path (codes "job") (apart (codes "job") (codes "__metrics_path__") 0 (λ d. omega (arith, d))) ∙ or_other set named (codes "__scheme__") job.scheme (codes "job") (apart (codes "job") (codes "__scheme__") 0 (λ d. omega (arith, d))) ∙ or_missing set labels (codes "job") job.name missing

scheme_given : SetGivesText → (labels : LabelList) (job : Job) → label_text labels (codes "__scheme__") ≡ [] → label_text (with_settings labels job) (codes "__scheme__") ≡ job.scheme
scheme_given set labels job missing =
    let named = or_label labels (codes "job") job.name in
    let schemed = or_label named (codes "__scheme__") job.scheme in
    or_other set schemed (codes "__metrics_path__") job.metrics_path (codes "__scheme__") (apart (codes "__scheme__") (codes "__metrics_path__") 2 (λ d. omega (arith, d))) ∙ or_missing set named (codes "__scheme__") job.scheme (or_other set labels (codes "job") job.name (codes "__scheme__") (apart (codes "__scheme__") (codes "job") 0 (λ d. omega (arith, d))) ∙ missing)

path_given : SetGivesText → (labels : LabelList) (job : Job) → label_text labels (codes "__metrics_path__") ≡ [] → label_text (with_settings labels job) (codes "__metrics_path__") ≡ job.metrics_path
path_given set labels job missing =
    let named = or_label labels (codes "job") job.name in
    let schemed = or_label named (codes "__scheme__") job.scheme in
    or_missing set schemed (codes "__metrics_path__") job.metrics_path (or_other set named (codes "__scheme__") job.scheme (codes "__metrics_path__") (apart (codes "__metrics_path__") (codes "__scheme__") 2 (λ d. omega (arith, d))) ∙ or_other set labels (codes "job") job.name (codes "__metrics_path__") (apart (codes "__metrics_path__") (codes "job") 0 (λ d. omega (arith, d))) ∙ missing)

-- ---- all of them

pub first_labels_are_first : SetGivesText → FirstLabelsAreFirst
first_labels_are_first set job group target source =
    let urls = job.http_urls in
    let there = with_address group.labels urls source target in
    let whole = with_settings there job in
    let later : (q : List ℕ) → ((rest : List ℕ) → q ≢ param_label rest) → label_text (with_params whole job.params) q ≡ label_text whole q = λ q ne. params_other set whole job.params q ne in
    let at_first : (q : List ℕ) → q ≢ codes "__address__" → q ≢ codes "__meta_url" → label_text there q ≡ label_text group.labels q = λ q ne_address ne_url. address_other set group.labels urls source target q ne_address ne_url in
    let url_at_end : label_text (with_params whole job.params) (codes "__meta_url") ≡ label_text (with_url group.labels urls source) (codes "__meta_url") =
    later (codes "__meta_url") url_no_param ∙ settings_other set there job (codes "__meta_url") (apart (codes "__meta_url") (codes "job") 0 (λ d. omega (arith, d))) (apart (codes "__meta_url") (codes "__scheme__") 2 (λ d. omega (arith, d))) (apart (codes "__meta_url") (codes "__metrics_path__") 5 (λ d. omega (arith, d))) ∙ (set (with_url group.labels urls source) (codes "__address__") target).others (codes "__meta_url") (apart (codes "__meta_url") (codes "__address__") 2 (λ d. omega (arith, d))) in
    record {
      address = later (codes "__address__") address_no_param ∙ settings_other set there job (codes "__address__") (apart (codes "__address__") (codes "job") 0 (λ d. omega (arith, d))) (apart (codes "__address__") (codes "__scheme__") 2 (λ d. omega (arith, d))) (apart (codes "__address__") (codes "__metrics_path__") 2 (λ d. omega (arith, d))) ∙ (set (with_url group.labels urls source) (codes "__address__") target).this;
      url = λ some. url_at_end ∙ url_given set group.labels urls source some;
      no_url = λ none. url_at_end ∙ url_not_given group.labels urls source none;
      stays = λ name has ne_address ne_url.
          let first = at_first name ne_address ne_url in
          let second = settings_filled set there job name (λ e. has (sym first ∙ e)) ∙ first in
          params_filled set whole job.params name (λ e. has (sym second ∙ e)) ∙ second;
      job_name = λ missing. later (codes "job") job_no_param ∙ job_given set there job (at_first (codes "job") (apart (codes "job") (codes "__address__") 0 (λ d. omega (arith, d))) (apart (codes "job") (codes "__meta_url") 0 (λ d. omega (arith, d))) ∙ missing);
      scheme = λ missing. later (codes "__scheme__") scheme_no_param ∙ scheme_given set there job (at_first (codes "__scheme__") (apart (codes "__scheme__") (codes "__address__") 2 (λ d. omega (arith, d))) (apart (codes "__scheme__") (codes "__meta_url") 2 (λ d. omega (arith, d))) ∙ missing);
      path = λ missing. later (codes "__metrics_path__") path_no_param ∙ path_given set there job (at_first (codes "__metrics_path__") (apart (codes "__metrics_path__") (codes "__address__") 2 (λ d. omega (arith, d))) (apart (codes "__metrics_path__") (codes "__meta_url") 5 (λ d. omega (arith, d))) ∙ missing);
      param = λ before others param value split none first filled named missing.
          let lacking : label_text whole (param_label param.name) ≡ [] = settings_other set there job (param_label param.name) (λ e. job_no_param param.name (sym e)) (λ e. scheme_no_param param.name (sym e)) (λ e. path_no_param param.name (sym e)) ∙ at_first (param_label param.name) (λ e. address_no_param param.name (sym e)) (λ e. url_no_param param.name (sym e)) ∙ missing in
          ap (λ (params : List Param). label_text (with_params whole params) (param_label param.name)) split ∙ params_given set whole before others param value none first filled named lacking;
      others = λ name other. later name other.param ∙ settings_other set there job name other.job other.scheme other.path ∙ at_first name other.address other.url;
    }
