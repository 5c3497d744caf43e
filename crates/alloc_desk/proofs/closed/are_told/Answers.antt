use Rattle.std.proofs.Common.{◌≡◌, ◌<◌, length, ap, arith, rules}
use Rattle.alloc_desk.proofs.ReceiptLemmas.{told_from_length, agree_more, agree_at}
use Rattle.alloc_desk.proofs.closed.are_told.Goals as goal

pub returns-then-receipts-entries : goal.returns-then-receipts-entries
returns-then-receipts-entries c =
    (λ t. absurd (search rules), λ e. absurd (omega (arith, ap length e, told_from_length 0 c.args.entries.now, c.if-receipts-entries.true)))

pub returns-then-not-is_told : goal.returns-then-not-is_told
returns-then-not-is_told c =
    let lt : c.loop-i.i < length c.args.receipts.now = omega arith in
    let same : length c.args.receipts.now ≡ length c.args.entries.now = omega arith in (
      λ t. absurd (search rules),
      λ e.
          let is = agree_at c.args.receipts.now c.args.entries.now c.loop-i.i c.index-receipts-i.result c.index-entries-i.result lt same c.index-receipts-i.is c.index-entries-i.is e in
          let yes = c.is_told.ensures.1 is in
          absurd (search (rules, yes)),
    )

pub loop-i-preserved : goal.loop-i-preserved
loop-i-preserved c =
    let lt : c.loop-i.i < length c.args.receipts.now = omega arith in
    let same : length c.args.receipts.now ≡ length c.args.entries.now = omega arith in
    agree_more c.args.receipts.now c.args.entries.now c.loop-i.i c.index-receipts-i.result c.index-entries-i.result lt same c.index-receipts-i.is c.index-entries-i.is
    (c.is_told.ensures.0 (search rules))
    c.loop-i.invariant
