use Rattle.std.proofs.Common.{◌≡◌, ◌+◌, ◌<◌, ℕ, List, [], ◌∷◌, drop, get_or, length, sym, ap, ◌∙◌, arith}
use Rattle.std.proofs.lemmas.List.{drop_all, drop_more}
use Rattle.audit.specs.Audits.{consistent, report_on}
use Rattle.audit.proofs.Ahead.{ahead_end, ahead_front, ahead_off, ahead_on, ahead_text, starts}
use Rattle.audit.proofs.InRow.{row_end, row_on}
use Rattle.audit.proofs.auditing.audit_all.Goals as goal

-- the journal at a place, and those behind it
journal_at : (journals : List (List ℕ)) (i : ℕ) (journal item : List ℕ) → i < length journals → journal ≡ item → item ≡ get_or journals i item → drop i journals ≡ journal ∷ drop (i + 1) journals
journal_at journals i journal item inside same is = drop_more journals i item inside ∙ ap (λ (j : List ℕ). j ∷ drop (i + 1) journals) (sym (same ∙ is))

pub loop-i-init : goal.loop-i-init
loop-i-init c = record { ahead = starts _ _; row = λ rest. rest }

pub loop-i-preserved : goal.loop-i-preserved
loop-i-preserved c =
    let journals = c.args.journals.now in
    let next = c.in_ok-audit_next.ensures in
    let good = sym next.good ∙ c.if-not-branch.false in
    let here = journal_at journals c.loop-i.i c.as_slice.result.now c.index-journals-i.result c.loop-i-test.true c.as_slice.ensures c.index-journals-i.is in
    record {
      ahead =
          ahead_on (report_on 0 c.args.progress.now journals) c.loop-i.i c.loop-i.progress c.audit_next.new.progress (drop c.loop-i.i journals) c.as_slice.result.now (drop (c.loop-i.i + 1) journals)
          c.args.text.now.items c.loop-i.text.items c.audit_next.new.text.items c.loop-i.invariant.ahead here good next.next next.text;
      row =
          λ rest. c.loop-i.invariant.row (row_on c.loop-i.progress c.audit_next.new.progress (drop c.loop-i.i journals) c.as_slice.result.now (drop (c.loop-i.i + 1) journals) here good (next.renewal c.if-not-branch.false) next.next rest);
    }

pub returns-in_err-audit_next-clause-memory : goal.returns-in_err-audit_next-clause-memory
returns-in_err-audit_next-clause-memory c =
    ahead_front c.from_residual.result (report_on 0 c.args.progress.now c.args.journals.now) (report_on c.loop-i.i c.loop-i.progress (drop c.loop-i.i c.args.journals.now)) c.args.text.now.items c.loop-i.text.items c.audit_next.new.text.items
    c.loop-i.invariant.ahead c.in_err-audit_next.ensures.memory

pub returns-then-not-branch : goal.returns-then-not-branch
returns-then-not-branch c =
    let journals = c.args.journals.now in
    let next = c.in_ok-audit_next.ensures in
    let done = ahead_off (report_on 0 c.args.progress.now journals) c.loop-i.i c.loop-i.progress (drop c.loop-i.i journals) c.as_slice.result.now (drop (c.loop-i.i + 1) journals)
    c.args.text.now.items c.loop-i.text.items c.audit_next.new.text.items c.loop-i.invariant.ahead
    (journal_at journals c.loop-i.i c.as_slice.result.now c.index-journals-i.result c.loop-i-test.true c.as_slice.ensures c.index-journals-i.is) (sym next.good ∙ c.if-not-branch.true) next.text in
    record { text = done.text; audited = done.ends; memory = tt; renewals = λ e. absurd (cc) }

pub returns : goal.returns
returns c =
    let journals = c.args.journals.now in
    let whole = report_on 0 c.args.progress.now journals in
    let none : drop c.loop-i.i journals ≡ [] = drop_all c.loop-i.i journals (omega arith) in
    let ahead = ahead_end whole c.loop-i.i (length journals) c.loop-i.progress (drop c.loop-i.i journals) c.args.text.now.items c.loop-i.text.items c.loop-i.invariant.ahead none (omega arith) in
    let text = ahead_text whole (consistent (length journals) c.loop-i.progress.events c.loop-i.progress.total) c.args.text.now.items c.loop-i.text.items c.write_whole.new.text.items ahead c.in_ok-write_whole.ensures.text in
    record { text = text; audited = sym ahead.audited; memory = tt; renewals = λ e. c.loop-i.invariant.row (row_end c.loop-i.progress.before (drop c.loop-i.i journals) none) }
