-- An audit journal by journal: what was written and what is left make up the whole.
use Rattle.std.proofs.Common.{◌≡◌, ℕ, ◌+◌, true, false, List, [], ◌∷◌, ◌++◌, Some, Result, Ok, Err, refl, sym, ap, ◌∙◌, subst}
use Rattle.std.specs.Prelude.{OnErr, is_ok}
use Rattle.replay_lines.specs.Lines.{AddsFront}
use Rattle.std.proofs.lemmas.List.{append_assoc, append-nil}
use Rattle.replay_lines.specs.declared.resuming.Resumption.{Resumption}
use Rattle.scrape_books.specs.Books.{total_of}
use Rattle.audit.specs.Audits.{IsAhead, Report, behind, by_journal, checked_text, consistent, events_and, progress_past, report_from, report_on, total_and}
use Rattle.audit.specs.Checks.{file_checked}
use Rattle.audit.specs.declared.auditing.Audited.TheVariants.{Inconsistent}
use Rattle.audit.specs.declared.auditing.Progress.{Progress}
use Rattle.audit.specs.declared.fault.Fault.{Fault}

pub starts : (whole : Report) (old : List ℕ) → IsAhead whole whole old old
starts whole old = record { front = []; text = refl; added = sym (append-nil old); audited = refl }

-- what is left behind a journal
left_by : ℕ → Progress → List (List ℕ) → Result Resumption Fault → Report
left_by files p journals r = by_journal (files + 1) r (λ end. report_from (files + 1) (Some end.core) (events_and p.events end.events) (total_and p.total (total_of end.core.booked)) journals)

left_of : (files : ℕ) (p : Progress) (journal : List ℕ) (journals : List (List ℕ)) → report_on files p (journal ∷ journals) ≡ left_by files p journals (file_checked p.before journal)
unfolding report_from left_by
left_of files p journal journals = refl

good_by : (files : ℕ) (p : Progress) (journals : List (List ℕ)) (r : Result Resumption Fault) → is_ok r ≡ true → left_by files p journals r ≡ behind (checked_text (files + 1) r) (report_on (files + 1) (progress_past p r) journals)
unfolding left_by
good_by files p journals (Ok end) good = refl
good_by files p journals (Err fault) good = cc

record IsLast (left : Report) (text : List ℕ) : Type 0 where
  says : left.text ≡ text
  ends : left.audited ≡ Inconsistent

bad_by : (files : ℕ) (p : Progress) (journals : List (List ℕ)) (r : Result Resumption Fault) → is_ok r ≡ false → IsLast (left_by files p journals r) (checked_text (files + 1) r)
unfolding left_by
bad_by files p journals (Ok end) bad = cc
bad_by files p journals (Err fault) bad = record { says = refl; ends = refl }

further : (whole left rest : Report) (old now new line : List ℕ) → IsAhead whole left old now → left ≡ behind line rest → new ≡ now ++ line → IsAhead whole rest old new
further whole left rest old now new line ahead is e =
    record {
      front = ahead.front ++ line;
      text = ahead.text ∙ ap (λ (r : Report). ahead.front ++ r.text) is ∙ sym (append_assoc ahead.front line rest.text);
      added = e ∙ ap (λ (t : List ℕ). t ++ line) ahead.added ∙ append_assoc old ahead.front line;
      audited = ahead.audited ∙ ap (λ (r : Report). r.audited) is;
    }

-- behind a journal without a fault
pub ahead_on : (whole : Report) (files : ℕ) (p next : Progress) (all : List (List ℕ)) (journal : List ℕ) (journals : List (List ℕ)) (old now new : List ℕ) → IsAhead whole (report_on files p all) old now
    → all ≡ journal ∷ journals → is_ok (file_checked p.before journal) ≡ true → next ≡ progress_past p (file_checked p.before journal) → new ≡ now ++ checked_text (files + 1) (file_checked p.before journal)
    → IsAhead whole (report_on (files + 1) next journals) old new
ahead_on whole files p next all journal journals old now new ahead is good state text =
    let r = file_checked p.before journal in
    let step = ap (report_on files p) is ∙ left_of files p journal journals ∙ good_by files p journals r good ∙ ap (λ (q : Progress). behind (checked_text (files + 1) r) (report_on (files + 1) q journals)) (sym state) in
    further whole (report_on files p all) (report_on (files + 1) next journals) old now new (checked_text (files + 1) r) ahead step text

-- all is written
pub ahead_text : (whole left : Report) (old now new : List ℕ) → IsAhead whole left old now → new ≡ now ++ left.text → new ≡ old ++ whole.text
ahead_text whole left old now new ahead e =
    e ∙ ap (λ (t : List ℕ). t ++ left.text) ahead.added ∙ append_assoc old ahead.front left.text ∙ ap (λ (t : List ℕ). old ++ t) (sym ahead.text)

-- where memory ends there is a front of it
pub ahead_front : {A E : Type 0} (result : Result A E) (whole left : Report) (old now new : List ℕ) → IsAhead whole left old now → new ≡ now → OnErr result (AddsFront whole.text old new)
ahead_front (Ok x) whole left old now new ahead e = tt
ahead_front (Err error) whole left old now new ahead e = record { front = ahead.front; rest = left.text; whole = ahead.text; added = e ∙ ahead.added }

-- at the first journal with a fault
pub record IsDone (whole : Report) (old new : List ℕ) : Type 0 where
  pub text : new ≡ old ++ whole.text
  pub ends : Inconsistent ≡ whole.audited

pub ahead_off : (whole : Report) (files : ℕ) (p : Progress) (all : List (List ℕ)) (journal : List ℕ) (journals : List (List ℕ)) (old now new : List ℕ) → IsAhead whole (report_on files p all) old now
    → all ≡ journal ∷ journals → is_ok (file_checked p.before journal) ≡ false → new ≡ now ++ checked_text (files + 1) (file_checked p.before journal) → IsDone whole old new
ahead_off whole files p all journal journals old now new ahead is bad text =
    let step = ap (report_on files p) is ∙ left_of files p journal journals in
    let last = bad_by files p journals (file_checked p.before journal) bad in
    record {
      text = ahead_text whole (report_on files p all) old now new ahead (text ∙ ap (λ (t : List ℕ). now ++ t) (sym (ap (λ (r : Report). r.text) step ∙ last.says)));
      ends = sym (ahead.audited ∙ ap (λ (r : Report). r.audited) step ∙ last.ends);
    }

left_none : (files : ℕ) (p : Progress) → report_on files p [] ≡ consistent files p.events p.total
unfolding report_from
left_none files p = refl

-- at the end
pub ahead_end : (whole : Report) (files count : ℕ) (p : Progress) (all : List (List ℕ)) (old now : List ℕ) → IsAhead whole (report_on files p all) old now → all ≡ [] → files ≡ count → IsAhead whole (consistent count p.events p.total) old now
ahead_end whole files count p all old now ahead is same =
    subst (λ (r : Report). IsAhead whole r old now) (ap (report_on files p) is ∙ left_none files p ∙ ap (λ (n : ℕ). consistent n p.events p.total) same) ahead
