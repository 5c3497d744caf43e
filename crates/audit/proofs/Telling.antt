-- States of which the same history is written.
use Rattle.std.proofs.Common.{◌≡◌, ◌<◌, ℕ, true, List, AllPairs, Option, Some, None, Result, Ok, Err, IfOk, OnOk, ◌≢◌, refl, sym, ap, subst, ◌∙◌}
use Rattle.std.specs.Prelude.{IfNone}
use Rattle.std.specs.Str.{bytes_eq}
use Rattle.std.proofs.lemmas.Slice.Eq.{bytes_eq-Decides}
use Rattle.fleet.specs.declared.job.JobSpec.{JobSpec}
use Rattle.allocation_core.specs.Renewed.{renewal_refusal, renewed}
use Rattle.allocation_core.specs.State.{State, current_pairs, restored, with_rounds}
use Rattle.allocation_core.specs.declared.renewal.RenewalError.{RenewalError}
use Rattle.allocation_core.specs.declared.renewal.RenewalError.TheVariants as renewal
use Rattle.core_history.specs.History.{ReadsBack, history_said, slots_of, slots_said}
use Rattle.core_history.specs.Laws.{RenewedReadBack}
use Rattle.core_history.specs.declared.error.HistoryError.{HistoryError}
use Rattle.replay_lines.specs.Configurations.{opened}
use Rattle.audit.specs.Checks.{first_line, refused_why}
use Rattle.audit.specs.Laws.{HistoriesTell, IsWhole, ReadAlike}
use Rattle.audit.specs.Renewals.{BeginsWithRenewal, IsRenewalOf}
use Rattle.audit.specs.declared.fault.Fault.{Fault}
use Rattle.audit.specs.declared.fault.Why.{Why}
use Rattle.audit.proofs.Results.{ok_same}

rounds_last : (m : State) (jobs : List JobSpec) (report_rounds : ℕ) → with_rounds report_rounds (renewed m jobs 1) ≡ renewed m jobs report_rounds
unfolding renewed
rounds_last m jobs report_rounds = refl

pub told : RenewedReadBack → HistoriesTell
told back m n jobs ascending whole alike =
    let said : Result State HistoryError = history_said alike.text in
    let one : said ≡ Ok (renewed m jobs 1) = back m jobs n.report_rounds said ascending alike.one in
    let read : State = restored n.fleet (current_pairs n) (slots_of n.fleet (slots_said n.served.slots)) n.problem n.plan n.round 1 in
    let other : said ≡ Ok read = alike.other whole.allocation in
    let same : read ≡ renewed m jobs 1 = ok_same read (renewed m jobs 1) (sym other ∙ one) in
    sym whole.is ∙ ap (with_rounds n.report_rounds) same ∙ rounds_last m jobs n.report_rounds

-- of two texts that are compared
pub alike_by : (m n : State) (text other : List ℕ) → bytes_eq text other ≡ true → ReadsBack m (history_said text) → ReadsBack n (history_said other) → ReadAlike m n
alike_by m n text other same one two =
    record { text = text; one = one; other = subst (λ (t : List ℕ). ReadsBack n (history_said t)) (sym ((bytes_eq-Decides text other).0 same)) two }

-- a fault is found where the renewal is refused
pub never_none : {E : Type 0} (P Q : Type 0) (result : Result (Option Why) E) (why : RenewalError) → IfOk result (λ o. o ≡ refused_why why) → OnOk result (why ≢ renewal.Memory) → IfOk result (λ o. P → IfNone o Q)
never_none P Q (Ok (Some fault)) why is other = λ p. tt
never_none P Q (Ok None) renewal.BadJobs is other = absurd (cc)
never_none P Q (Ok None) renewal.TooManyBins is other = absurd (cc)
never_none P Q (Ok None) renewal.RoundsSpent is other = absurd (cc)
never_none P Q (Ok None) renewal.Memory is other = absurd (other refl)
never_none P Q (Err e) why is other = tt

-- no fault is found where it is the renewal
told_by :
    (fault : Option Why) (m n : State) (jobs : List JobSpec) → jobs ≡ n.fleet.jobs → renewal_refusal m jobs ≡ None → AllPairs (λ (a b : ℕ × ℕ). a.0 < b.0) (current_pairs m) → HistoriesTell → IfNone fault (ReadAlike (renewed m jobs n.report_rounds) n)
    → IsWhole n → IfNone fault (IsRenewalOf m n)
told_by None m n jobs same granted ascending tell alike whole =
    record {
      granted = subst (λ (js : List JobSpec). renewal_refusal m js ≡ None) same granted;
      is = tell m n jobs ascending whole alike ∙ ap (λ (js : List JobSpec). renewed m js n.report_rounds) same;
    }
told_by (Some fault) m n jobs same granted ascending tell alike whole = tt

pub renewal_told :
    {E : Type 0} (result : Result (Option Why) E) (m n : State) (jobs : List JobSpec) → jobs ≡ n.fleet.jobs → renewal_refusal m jobs ≡ None → AllPairs (λ (a b : ℕ × ℕ). a.0 < b.0) (current_pairs m) → HistoriesTell
    → IfOk result (λ o. IfNone o (ReadAlike (renewed m jobs n.report_rounds) n)) → IfOk result (λ o. IsWhole n → IfNone o (IsRenewalOf m n))
renewal_told (Ok fault) m n jobs same granted ascending tell alike = told_by fault m n jobs same granted ascending tell alike
renewal_told (Err e) m n jobs same granted ascending tell alike = tt

pub begins_told :
    {E : Type 0} (result : Result (Option Fault) E) (m n : State) (journal : List ℕ) → opened (first_line journal) ≡ Some n → IsWhole n
    → IfOk result (λ o. IsWhole n → IfNone o (IsRenewalOf m n)) → IfOk result (λ o. IfNone o (BeginsWithRenewal (Some m) journal))
begins_told (Ok None) m n journal is whole renewal = (n, is, renewal whole)
begins_told (Ok (Some fault)) m n journal is whole renewal = tt
begins_told (Err e) m n journal is whole renewal = tt
