-- What is added so far and what is left make up the whole.
use Rattle.std.proofs.Common.{◌≡◌, ◌∙◌, ◌++◌, ◌+◌, ◌<◌, ℕ, List, [], ◌∷◌, Bool, true, false, ap, sym, refl, drop, get_or, length, arith, if◌then◌else◌}
use Rattle.std.proofs.lemmas.List.{append_assoc, append-nil, drop_all, drop_more}
use Rattle.book_tables.specs.Tables.{Adds, Lines, behind, journal_table, table_of}

pub record IsAhead (old now : List ℕ) (whole left : Lines) : Type 0 where
  pub text : old ++ whole.text ≡ now ++ left.text
  pub ends : whole.is_whole ≡ left.is_whole

pub starts : (old : List ℕ) (whole : Lines) → IsAhead old old whole whole
starts old whole = record { text = refl; ends = refl }

-- behind lines that end well the others stand
good : (first others : Lines) → first.is_whole ≡ true → behind first others ≡ record { text = first.text ++ others.text; is_whole = others.is_whole }
good first others well = ap (λ (b : Bool). if b then record { text = first.text ++ others.text; is_whole = others.is_whole } else first) well

bad : (first others : Lines) → first.is_whole ≡ false → behind first others ≡ first
bad first others ill = ap (λ (b : Bool). if b then record { text = first.text ++ others.text; is_whole = others.is_whole } else first) ill

left_of : (files : ℕ) (all : List (List ℕ)) (journal : List ℕ) (journals : List (List ℕ)) → all ≡ journal ∷ journals → table_of files all ≡ behind (journal_table (files + 1) journal) (table_of (files + 1) journals)
unfolding table_of
left_of files all journal journals is = ap (table_of files) is

pub further : (old now new : List ℕ) (whole left first others : Lines) (is_whole : Bool) → IsAhead old now whole left → left ≡ behind first others → Adds now new is_whole first → is_whole ≡ true → IsAhead old new whole others
further old now new whole left first others is_whole ahead is adds well =
    let step = is ∙ good first others (sym adds.whole ∙ well) in
    record {
      text = ahead.text ∙ ap (λ (l : Lines). now ++ l.text) step ∙ sym (append_assoc now first.text others.text) ∙ ap (λ (t : List ℕ). t ++ others.text) (sym adds.text);
      ends = ahead.ends ∙ ap (λ (l : Lines). l.is_whole) step;
    }

pub stops : (old now new : List ℕ) (whole left first others : Lines) (is_whole : Bool) → IsAhead old now whole left → left ≡ behind first others → Adds now new is_whole first → is_whole ≡ false → Adds old new false whole
stops old now new whole left first others is_whole ahead is adds ill =
    let step = is ∙ bad first others (sym adds.whole ∙ ill) in
    record {
      text = adds.text ∙ ap (λ (l : Lines). now ++ l.text) (sym step) ∙ sym ahead.text;
      whole = sym ill ∙ adds.whole ∙ ap (λ (l : Lines). l.is_whole) (sym step) ∙ sym ahead.ends;
    }

pub journal_on : (old now new : List ℕ) (whole : Lines) (files : ℕ) (all : List (List ℕ)) (journal : List ℕ) (journals : List (List ℕ)) (is_whole : Bool) → IsAhead old now whole (table_of files all) → all ≡ journal ∷ journals
    → Adds now new is_whole (journal_table (files + 1) journal) → is_whole ≡ true → IsAhead old new whole (table_of (files + 1) journals)
journal_on old now new whole files all journal journals is_whole ahead is adds well =
    further old now new whole (table_of files all) (journal_table (files + 1) journal) (table_of (files + 1) journals) is_whole ahead (left_of files all journal journals is) adds well

pub journal_off : (old now new : List ℕ) (whole : Lines) (files : ℕ) (all : List (List ℕ)) (journal : List ℕ) (journals : List (List ℕ)) (is_whole : Bool) → IsAhead old now whole (table_of files all) → all ≡ journal ∷ journals
    → Adds now new is_whole (journal_table (files + 1) journal) → is_whole ≡ false → Adds old new false whole
journal_off old now new whole files all journal journals is_whole ahead is adds ill =
    stops old now new whole (table_of files all) (journal_table (files + 1) journal) (table_of (files + 1) journals) is_whole ahead (left_of files all journal journals is) adds ill

pub journals_end : (old now : List ℕ) (whole : Lines) (files : ℕ) (all : List (List ℕ)) → IsAhead old now whole (table_of files all) → all ≡ [] → Adds old now true whole
unfolding table_of
journals_end old now whole files all ahead none =
    let step = ap (table_of files) none in
    record {
      text = sym (append-nil now) ∙ ap (λ (l : Lines). now ++ l.text) (sym step) ∙ sym ahead.text;
      whole = ap (λ (l : Lines). l.is_whole) (sym step) ∙ sym ahead.ends;
    }
