-- Each job has as many intervals as URLs.
use Rattle.std.proofs.Common.{◌≡◌, ◌∙◌, ℕ, ◌+◌, Bool, true, false, cond, List, [], ◌∷◌, length, map, Option, Some, None, Result, Ok, Err, refl, sym, ap, subst, suc}
use Rattle.std.specs.Prelude.{is_some, codes, MatchOption, IfOk}
use Rattle.std.specs.Option.{ok_or}
use Rattle.serde_json.specs.Data.{Data, array, Items, no_items, item}
use Rattle.serde_json.specs.Find.{get, as_object, as_array}
use Rattle.serde_json.specs.Events.{items_len}
use Rattle.sd_documents.specs.Config.{JobData}
use Rattle.sd_documents.specs.Documents.{AreEach, IsListOf, HasUrl, IsJob}
use Rattle.sd_documents.specs.Laws.{AcceptedAreConfigs}
use Rattle.service_settings.specs.declared.error.SettingsError.{SettingsError}
use Rattle.service_settings.specs.declared.error.SettingsError.TheVariants.{Shape}
use Rattle.service_settings.specs.declared.error.Member.{Member}
use Rattle.service_settings.specs.declared.error.Member.TheVariants.{ScrapeConfigs, ScrapeConfig, HttpSdConfigs}
use Rattle.service_settings.specs.Reading.{◌>>=◌, Gives, items_said, each_from}
use Rattle.service_settings.specs.Settings.{source_said, sources_said, refresh_said}
use Rattle.service_settings.specs.Beside.{AreBeside}

bind_ok : {A B : Type 0} (r : Result A SettingsError) (f : A → Result B SettingsError) (y : B) → (r >>= f) ≡ Ok y → (x : A) × (r ≡ Ok x) × (f x ≡ Ok y)
bind_ok (Ok x) f y e = (x, refl, e)
bind_ok (Err d) f y e = cc

by_test : {A : Type 0} (b : Bool) (r : Result A SettingsError) (e : SettingsError) (y : A) → cond b r (Err e) ≡ Ok y → r ≡ Ok y
by_test true r e y is = is
by_test false r e y is = cc

abbrev ok_of : {A : Type 0} → A → Result A SettingsError
ok_of x = Ok x

same_ok : {A : Type 0} (x y : A) → ok_of x ≡ ok_of y → x ≡ y
same_ok x y is = cc

-- what is said of the items of a list, or of none
listed : {A B : Type 0} (is : Data → A → Type 0) (part : Member) (f : Items → Result B SettingsError) (o : Option Data) (xs : List A) (y : B) → MatchOption o (xs ≡ []) (IsListOf is xs) → (items_said part o >>= f) ≡ Ok y → (ds : Items) × AreEach is ds xs × (f ds ≡ Ok y)
listed is part f None xs y none e = (no_items, subst (AreEach is no_items) (sym none) tt, e)
listed is part f (Some d) xs y list e =
    let step : ok_or (as_array (array list.0)) (Shape part) >>= f ≡ Ok y = subst (λ v. (ok_or (as_array v) (Shape part) >>= f) ≡ Ok y) list.1 e in
    (list.0, list.2, step)

-- as many as there are items
each_length : {A : Type 0} (what : ℕ → Data → Result A SettingsError) (i : ℕ) (ds : Items) (xs : List A) → each_from what i ds ≡ Ok xs → length xs ≡ items_len ds
each_length what i no_items xs e = ap length (sym (same_ok [] xs e))
each_length what i (item d ds) xs e =
    let first = bind_ok (what i d) (λ x. each_from what (i + 1) ds >>= λ ys. Ok (x ∷ ys)) xs e in
    let rest = bind_ok (each_from what (i + 1) ds) (λ ys. Ok (first.0 ∷ ys)) xs first.2 in
    ap length (sym (same_ok (first.0 ∷ rest.0) xs rest.2)) ∙ ap suc (each_length what (i + 1) ds rest.0 rest.1)

are_length : {A : Type 0} (is : Data → A → Type 0) (ds : Items) (xs : List A) → AreEach is ds xs → length xs ≡ items_len ds
are_length is no_items [] each = refl
are_length is no_items (x ∷ xs) each = absurd each
are_length is (item d ds) [] each = absurd each
are_length is (item d ds) (x ∷ xs) each = ap suc (are_length is ds xs each.1)

-- of one job
job_beside : (i : ℕ) (d : Data) (job : JobData) (xs : List ℕ) → IsJob d job → sources_said i d ≡ Ok xs → length xs ≡ length job.parts.http_urls
job_beside i d job xs is e =
    let found = listed HasUrl (HttpSdConfigs i) (each_from (source_said i) 0) (get (codes "http_sd_configs") d) job.parts.http_urls xs is.urls
    (by_test (is_some (as_object d)) (items_said (HttpSdConfigs i) (get (codes "http_sd_configs") d) >>= each_from (source_said i) 0) (Shape (ScrapeConfig i)) xs e) in
    each_length (source_said i) 0 found.0 xs found.2 ∙ sym (are_length HasUrl found.0 job.parts.http_urls found.1)

-- of all
jobs_beside : (i : ℕ) (ds : Items) (jobs : List JobData) (refresh : List (List ℕ)) → AreEach IsJob ds jobs → each_from sources_said i ds ≡ Ok refresh → map length refresh ≡ map (λ (job : JobData). length job.parts.http_urls) jobs
jobs_beside i no_items [] refresh each e = ap (map length) (sym (same_ok [] refresh e))
jobs_beside i no_items (job ∷ jobs) refresh each e = absurd each
jobs_beside i (item d ds) [] refresh each e = absurd each
jobs_beside i (item d ds) (job ∷ jobs) refresh each e =
    let first = bind_ok (sources_said i d) (λ x. each_from sources_said (i + 1) ds >>= λ ys. Ok (x ∷ ys)) refresh e in
    let rest = bind_ok (each_from sources_said (i + 1) ds) (λ ys. Ok (first.0 ∷ ys)) refresh first.2 in
    let one = job_beside i d job first.0 each.0 first.1 in
    let others = jobs_beside (i + 1) ds jobs rest.0 each.1 rest.1 in
    ap (map length) (sym (same_ok (first.0 ∷ rest.0) refresh rest.2)) ∙ rw (one, others) refl

pub are_beside : AcceptedAreConfigs → (d : Data) (refresh : List (List ℕ)) → refresh_said d ≡ Ok refresh → AreBeside d refresh
are_beside laws d refresh said config e =
    let is = laws d config e in
    let found = listed IsJob ScrapeConfigs (each_from sources_said 0) (get (codes "scrape_configs") d) config.jobs refresh is.each said in
    jobs_beside 0 found.0 config.jobs refresh found.1 found.2

pub given_beside : AcceptedAreConfigs → (d : Data) (ds : Items) (r : Result (List (List ℕ)) SettingsError) → items_said ScrapeConfigs (get (codes "scrape_configs") d) ≡ Ok ds → Gives (λ refresh. refresh) r (each_from sources_said 0 ds) → IfOk r (AreBeside d)
given_beside laws d ds (Ok refresh) items said = are_beside laws d refresh (rw items said)
given_beside laws d ds (Err e) items said = tt
