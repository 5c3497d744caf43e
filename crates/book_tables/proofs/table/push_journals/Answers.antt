use Rattle.std.proofs.Common.{◌≡◌, ◌+◌, ◌<◌, ℕ, List, [], ◌∷◌, drop, get_or, length, sym, ap, ◌∙◌, arith}
use Rattle.std.proofs.lemmas.List.{drop_all, drop_more}
use Rattle.book_tables.proofs.Ahead.{journal_off, journal_on, journals_end, starts}
use Rattle.book_tables.proofs.table.push_journals.Goals as goal

-- the journal at a place, and those behind it
journal_at : (journals : List (List ℕ)) (i : ℕ) (journal item : List ℕ) → i < length journals → journal ≡ item → item ≡ get_or journals i item → drop i journals ≡ journal ∷ drop (i + 1) journals
journal_at journals i journal item inside same is = drop_more journals i item inside ∙ ap (λ (j : List ℕ). j ∷ drop (i + 1) journals) (sym (same ∙ is))

pub loop-i-init : goal.loop-i-init
loop-i-init c = starts _ _

pub loop-i-preserved : goal.loop-i-preserved
loop-i-preserved c =
    let here = journal_at c.args.journals.now c.loop-i.i c.as_slice.result.now c.index-journals-i.result c.loop-i-test.true c.as_slice.ensures c.index-journals-i.is in
    journal_on _ _ _ _ c.loop-i.i _ c.as_slice.result.now (drop (c.loop-i.i + 1) c.args.journals.now) _ c.loop-i.invariant here c.in_ok-push_journal.ensures c.if-not-branch.false

pub returns-then-not-branch : goal.returns-then-not-branch
returns-then-not-branch c =
    let here = journal_at c.args.journals.now c.loop-i.i c.as_slice.result.now c.index-journals-i.result c.loop-i-test.true c.as_slice.ensures c.index-journals-i.is in
    journal_off _ _ _ _ c.loop-i.i _ c.as_slice.result.now (drop (c.loop-i.i + 1) c.args.journals.now) _ c.loop-i.invariant here c.in_ok-push_journal.ensures c.if-not-branch.true

pub returns : goal.returns
returns c =
    let none : drop c.loop-i.i c.args.journals.now ≡ [] = drop_all c.loop-i.i c.args.journals.now (omega arith) in
    journals_end _ _ _ c.loop-i.i _ c.loop-i.invariant none
