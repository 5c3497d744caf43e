-- Journals after one another, none of them with a fault.
use Rattle.std.proofs.Common.{◌≡◌, ℕ, true, List, [], ◌∷◌, Option, Some, None, Result, Ok, Err, refl, sym, ap, ◌∙◌, subst}
use Rattle.std.specs.Prelude.{is_ok}
use Rattle.std.specs.Option.{option_map_or}
use Rattle.allocation_core.specs.State.{State}
use Rattle.replay_lines.specs.Resumes.{resumed}
use Rattle.replay_lines.specs.declared.resuming.Damage.{Damage}
use Rattle.replay_lines.specs.declared.resuming.Resumption.{Resumption}
use Rattle.audit.specs.Audits.{progress_past}
use Rattle.audit.specs.Checks.{checked, checked_as, file_checked, first_fault_of, read_as}
use Rattle.audit.specs.Renewals.{AreRenewalsFrom, FileBeginsWithRenewal}
use Rattle.audit.specs.declared.auditing.Progress.{Progress}
use Rattle.audit.specs.declared.fault.Fault.{Fault}

-- where a journal without a fault ends
record EndsAt (read : Result Resumption Damage) (found : Result Resumption Fault) : Type 0 where
  end : Resumption
  read_is : read ≡ Ok end
  found_is : found ≡ Ok end

ends_by : (fault : Option Fault) (read : Result Resumption Damage) → is_ok (option_map_or (λ (fault : Fault). Err fault) fault (read_as read)) ≡ true → EndsAt read (option_map_or (λ (fault : Fault). Err fault) fault (read_as read))
ends_by (Some fault) read good = absurd (cc)
ends_by None (Ok end) good = record { end = end; read_is = refl; found_is = refl }
ends_by None (Err damage) good = absurd (cc)

ends_at : (before : Option State) (journal : List ℕ) → is_ok (checked before journal) ≡ true → EndsAt (resumed journal) (checked before journal)
unfolding checked
ends_at before journal good = ends_by (first_fault_of before journal) (resumed journal) good

-- behind one more journal
pub row_on : (p next : Progress) (all : List (List ℕ)) (file : List ℕ) (files : List (List ℕ)) → all ≡ file ∷ files → is_ok (file_checked p.before file) ≡ true → FileBeginsWithRenewal p.before file → next ≡ progress_past p (file_checked p.before file) → AreRenewalsFrom next.before files → AreRenewalsFrom p.before all
unfolding AreRenewalsFrom file_checked
row_on p next all file files is good begins state rest =
    let journal = begins.0 in
    let same : file_checked p.before file ≡ checked p.before journal = ap (checked_as p.before) begins.1 in
    let at = ends_at p.before journal (ap is_ok (sym same) ∙ good) in
    let last : next.before ≡ Some at.end.core = ap (λ (q : Progress). q.before) (state ∙ ap (progress_past p) (same ∙ at.found_is)) in
    subst (λ (js : List (List ℕ)). AreRenewalsFrom p.before js) (sym is) (journal, at.end, begins.1, at.read_is, begins.2, subst (λ (o : Option State). AreRenewalsFrom o files) last rest)

pub row_end : (before : Option State) (journals : List (List ℕ)) → journals ≡ [] → AreRenewalsFrom before journals
unfolding AreRenewalsFrom
row_end before journals none = subst (λ (js : List (List ℕ)). AreRenewalsFrom before js) (sym none) tt
