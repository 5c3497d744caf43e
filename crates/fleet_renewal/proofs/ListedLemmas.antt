-- What the sources of the new jobs list comes from what those of the old ones did.
use Rattle.std.proofs.Common.{◌≡◌, ℕ, zero, suc, ◌<◌, ◌≤◌, ◌⊎◌, ◌||◌, List, [], ◌∷◌, Bool, true, false, Option, Some, None, eqb, get_or, map, refl, ap, ◌∙◌, inl, inr, arith}
use Rattle.std.specs.Prelude.{slice_get, slice_index_or}
use Rattle.std.specs.List.{filter_map}
use Rattle.std.specs.Option.{option_map_or}
use Rattle.std.proofs.lemmas.Bool.{cases_lt, eq-eqb, eqb-true}
use Rattle.std.proofs.lemmas.List.{get_or_past}
use Rattle.fleet.specs.Fleet.{FleetState}
use Rattle.fleet.specs.Jobs.{job_named}
use Rattle.fleet.specs.Live.{is_in, is_listed, is_listed_in}
use Rattle.fleet.specs.Orderly.{listed_at}
use Rattle.fleet.specs.declared.job.JobSpec.{JobSpec}
use Rattle.fleet_renewal.specs.Renewed.{fitted, job_lists, lists_named, renewed_lists}
use Rattle.fleet_renewal.proofs.Gets.{none_some, some_same}
use Rattle.fleet_renewal.proofs.ListingLemmas.{fitted_at, length-fitted, mapped_at}

-- ---- numbers in lists, by place

or_right : (a b : Bool) → b ≡ true → (a || b) ≡ true
or_right true b e = refl
or_right false b e = e

or_left : (a b : Bool) → a ≡ true → (a || b) ≡ true
or_left true b e = refl
or_left false b e = cc

or_either : (a b : Bool) → (a || b) ≡ true → (a ≡ true) ⊎ (b ≡ true)
or_either true b e = inl refl
or_either false b e = inr e

pub in_here : (xs : List ℕ) (i t : ℕ) → slice_get xs i ≡ Some t → is_in xs t ≡ true
in_here [] i t e = none_some t e
in_here (x ∷ xs) zero t e = or_left (eqb x t) (is_in xs t) (eq-eqb x t (some_same x t e))
in_here (x ∷ xs) (suc i) t e = or_right (eqb x t) (is_in xs t) (in_here xs i t e)

pub in_found : (xs : List ℕ) (t : ℕ) → is_in xs t ≡ true → (i : ℕ) × (slice_get xs i ≡ Some t)
in_found [] t e = cc
in_found (x ∷ xs) t e = elim (or_either (eqb x t) (is_in xs t) e) [
  | inl h ↦ (0, ap (λ (n : ℕ). (let o : Option ℕ = Some n in o)) (eqb-true x t h))
  | inr h ↦ (let found = in_found xs t h in (suc found.0, found.1))
]

sources_here : (lists : List (List ℕ)) (s t : ℕ) → is_in (get_or lists s []) t ≡ true → is_listed_in lists t ≡ true
sources_here [] s t e = cc
sources_here (x ∷ lists) zero t e = or_left (is_in x t) (is_listed_in lists t) e
sources_here (x ∷ lists) (suc s) t e = or_right (is_in x t) (is_listed_in lists t) (sources_here lists s t e)

sources_found : (lists : List (List ℕ)) (t : ℕ) → is_listed_in lists t ≡ true → (s : ℕ) × (is_in (get_or lists s []) t ≡ true)
sources_found [] t e = cc
sources_found (x ∷ lists) t e = elim (or_either (is_in x t) (is_listed_in lists t) e) [ inl h ↦ (0, h) | inr h ↦ (let found = sources_found lists t h in (suc found.0, found.1)) ]

pub listed_here : (listed : List (List (List ℕ))) (j s t : ℕ) → is_in (listed_at listed j s) t ≡ true → is_listed listed t ≡ true
listed_here [] j s t e = cc
listed_here (x ∷ listed) zero s t e = or_left (is_listed_in x t) (is_listed listed t) (sources_here x s t e)
listed_here (x ∷ listed) (suc j) s t e = or_right (is_listed_in x t) (is_listed listed t) (listed_here listed j s t e)

pub listed_found : (listed : List (List (List ℕ))) (t : ℕ) → is_listed listed t ≡ true → (j : ℕ) × (s : ℕ) × (is_in (listed_at listed j s) t ≡ true)
listed_found [] t e = cc
listed_found (x ∷ listed) t e = elim (or_either (is_listed_in x t) (is_listed listed t) e) [
  | inl h ↦ (let found = sources_found x t h in (0, found.0, found.1))
  | inr h ↦ (let found = listed_found listed t h in (suc found.0, found.1, found.2))
]

-- ---- the new lists

-- a source of a new job lists what that of the old one did, in the new numbers
pub record ComesFrom (fleet : FleetState) (number : ℕ → Option ℕ) (jobs : List JobSpec) (j s : ℕ) : Type 0 where
  pub job : JobSpec
  pub old : ℕ
  pub here : slice_get jobs j ≡ Some job
  pub there : job_named fleet.jobs job.name ≡ Some old
  pub source : s < job.sources
  pub lists : listed_at (renewed_lists fleet number jobs) j s ≡ filter_map number (listed_at fleet.listed old s)

jobs_at : (fleet : FleetState) (number : ℕ → Option ℕ) (jobs : List JobSpec) (j : ℕ) → slice_index_or (renewed_lists fleet number jobs) j [] ≡ option_map_or (job_lists fleet number) (slice_get jobs j) []
jobs_at fleet number [] j = refl
jobs_at fleet number (x ∷ jobs) zero = refl
jobs_at fleet number (x ∷ jobs) (suc j) = jobs_at fleet number jobs j

-- a source of a job at a place
pub list_is : (fleet : FleetState) (number : ℕ → Option ℕ) (jobs : List JobSpec) (j s : ℕ) (job : JobSpec) → slice_get jobs j ≡ Some job → s < job.sources → listed_at (renewed_lists fleet number jobs) j s ≡ filter_map number (slice_index_or (lists_named fleet job.name) s [])
list_is fleet number jobs j s job here source =
    ap (λ (ls : List (List ℕ)). get_or ls s []) (jobs_at fleet number jobs j ∙ ap (λ (o : Option JobSpec). option_map_or (job_lists fleet number) o []) here)
    ∙ fitted_at job.sources s (map (filter_map number) (lists_named fleet job.name)) source
    ∙ mapped_at (filter_map number) (lists_named fleet job.name) s refl

past_by : (fleet : FleetState) (number : ℕ → Option ℕ) (jobs : List JobSpec) (j s : ℕ) (job : JobSpec) → slice_get jobs j ≡ Some job → job.sources ≤ s → listed_at (renewed_lists fleet number jobs) j s ≡ []
past_by fleet number jobs j s job here past =
    let lists = map (filter_map number) (lists_named fleet job.name) in
    ap (λ (ls : List (List ℕ)). get_or ls s []) (jobs_at fleet number jobs j ∙ ap (λ (o : Option JobSpec). option_map_or (job_lists fleet number) o []) here)
    ∙ get_or_past (fitted job.sources lists) s [] (omega (arith, length-fitted job.sources lists, past))

old_by :
    (fleet : FleetState) (number : ℕ → Option ℕ) (jobs : List JobSpec) (j s : ℕ) (job : JobSpec) (o : Option ℕ) → slice_get jobs j ≡ Some job → s < job.sources → job_named fleet.jobs job.name ≡ o
    → (listed_at (renewed_lists fleet number jobs) j s ≡ []) ⊎ ComesFrom fleet number jobs j s
old_by fleet number jobs j s job None here source there =
    inl (list_is fleet number jobs j s job here source ∙ ap (λ (o : Option ℕ). filter_map number (slice_index_or (option_map_or (λ (old : ℕ). slice_index_or fleet.listed old []) o []) s [])) there)
old_by fleet number jobs j s job (Some old) here source there =
    inr
    (record {
      job = job;
      old = old;
      here = here;
      there = there;
      source = source;
      lists = list_is fleet number jobs j s job here source ∙ ap (λ (o : Option ℕ). filter_map number (slice_index_or (option_map_or (λ (old : ℕ). slice_index_or fleet.listed old []) o []) s [])) there;
    })

job_by : (fleet : FleetState) (number : ℕ → Option ℕ) (jobs : List JobSpec) (j s : ℕ) (o : Option JobSpec) → slice_get jobs j ≡ o → (listed_at (renewed_lists fleet number jobs) j s ≡ []) ⊎ ComesFrom fleet number jobs j s
job_by fleet number jobs j s None here = inl (ap (λ (ls : List (List ℕ)). get_or ls s []) (jobs_at fleet number jobs j ∙ ap (λ (o : Option JobSpec). option_map_or (job_lists fleet number) o []) here))
job_by fleet number jobs j s (Some job) here = elim (cases_lt s job.sources) [
  | inl l ↦ old_by fleet number jobs j s job (job_named fleet.jobs job.name) here l refl
  | inr g ↦ inl (past_by fleet number jobs j s job here g)
]

pub comes_from : (fleet : FleetState) (number : ℕ → Option ℕ) (jobs : List JobSpec) (j s : ℕ) → (listed_at (renewed_lists fleet number jobs) j s ≡ []) ⊎ ComesFrom fleet number jobs j s
comes_from fleet number jobs j s = job_by fleet number jobs j s (slice_get jobs j) refl
