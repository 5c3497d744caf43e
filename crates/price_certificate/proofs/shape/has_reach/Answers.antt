use Rattle.std.proofs.Common.{IsTrue, List, ℕ, ap, arith}
use Rattle.std.proofs.lemmas.List.{length-map}
use Rattle.price_certificate.specs.Reach.{pairs_of}
use Rattle.price_certificate.specs.Rows.{row_at}
use Rattle.price_certificate.proofs.RowLemmas.{pairs_by}
use Rattle.price_certificate.proofs.shape.has_reach.Goals as goal

pub returns-then-not-has_few_pairs : goal.returns-then-not-has_few_pairs
returns-then-not-has_few_pairs c = (
  λ f. cc,
  λ h. let few : IsTrue c.has_few_pairs.result = c.has_few_pairs.ensures.1 (omega (arith, h.pairs, pairs_by c.args.rows.now.lists c.args.rows.now.list_of, ap (λ (xs : List (List ℕ)). pairs_of xs c.as_slice-2.result.now) c.as_slice.ensures, ap (λ (xs : List ℕ). pairs_of c.args.rows.now.lists xs) c.as_slice-2.ensures)) in cc,
)

pub returns : goal.returns
returns c =
    let rows = c.args.rows.now in (
      λ t. record {
        items = omega (arith, length-map rows.list_of (row_at rows.lists));
        bins = omega arith;
        pairs = omega (arith, c.has_few_pairs.ensures.0 cc, pairs_by rows.lists rows.list_of, ap (λ (xs : List (List ℕ)). pairs_of xs c.as_slice-2.result.now) c.as_slice.ensures, ap (λ (xs : List ℕ). pairs_of rows.lists xs) c.as_slice-2.ensures);
        each_row = c.has_rows.ensures.0 t;
      },
      λ h. c.has_rows.ensures.1 h.each_row,
    )
