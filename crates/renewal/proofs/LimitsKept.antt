-- A collector's own limits for jobs of the list are kept.
use Rattle.std.proofs.Common.{◌≡◌, ℕ, List, [], ◌∷◌, Bool, true, false, Option, cond, unwrap_or, Less, Equal, Greater, Ordering, refl, sym, ap, ◌∙◌}
use Rattle.std.specs.Prelude.{filter}
use Rattle.std.specs.FinMap.{find}
use Rattle.std.specs.Ordering.{is_eq}
use Rattle.std.proofs.lemmas.Map.Text.{is_eq-slice_cmp}
use Rattle.reach_rules.specs.Name.{byte_cmp}
use Rattle.reach_rules.specs.OwnLimits.{LimitList, own_limit}
use Rattle.fleet.specs.Jobs.{is_job}
use Rattle.fleet.specs.declared.collector.Collector.{Collector}
use Rattle.fleet.specs.declared.job.JobSpec.{JobSpec}
use Rattle.fleet_renewal.specs.Renewed.{renewed_collector}
use Rattle.fleet_renewal.proofs.JobLemmas.{name_is}

kept_by :
    (name : List ℕ) (l : List ℕ × ℕ) (kept limits : LimitList) (b : Bool) (o : Ordering) → byte_cmp name l.0 ≡ o → (o ≡ Equal → b ≡ true) → find byte_cmp name kept ≡ find byte_cmp name limits
    → find byte_cmp name (cond b (l ∷ kept) kept) ≡ find byte_cmp name (l ∷ limits)
kept_by name l kept limits true Less e pass same = rw e same
kept_by name l kept limits true Equal e pass same = rw e refl
kept_by name l kept limits true Greater e pass same = rw e same
kept_by name l kept limits false Less e pass same = rw e same
kept_by name l kept limits false Equal e pass same = (let bad : false ≡ true = pass refl in cc)
kept_by name l kept limits false Greater e pass same = rw e same

find_kept : (p : List ℕ × ℕ → Bool) (name : List ℕ) (limits : LimitList) → ((l : List ℕ × ℕ) → byte_cmp name l.0 ≡ Equal → p l ≡ true) → find byte_cmp name (filter p limits) ≡ find byte_cmp name limits
find_kept p name [] tied = refl
find_kept p name (l ∷ limits) tied = kept_by name l (filter p limits) limits (p l) (byte_cmp name l.0) refl (tied l) (find_kept p name limits tied)

tied_is : (name other : List ℕ) → byte_cmp name other ≡ Equal → name ≡ other
tied_is name other e = name_is name other (sym (is_eq-slice_cmp name other) ∙ ap is_eq e)

pub limit_kept : (jobs : List JobSpec) (c : Collector) (name : List ℕ) → is_job jobs name ≡ true → own_limit (renewed_collector jobs c).limits name ≡ own_limit c.limits name
limit_kept jobs c name is =
    ap (λ (o : Option ℕ). unwrap_or o 0) (find_kept (λ (entry : List ℕ × ℕ). is_job jobs entry.0) name c.limits (λ l e. ap (is_job jobs) (sym (tied_is name l.0 e)) ∙ is))
