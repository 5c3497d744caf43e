use Rattle.std.proofs.Common.{◌∙◌, ap, sym, true, false, ℕ, Vec, Global, List, ◌++◌, ◌∷◌, [], get_or, arith}
use Rattle.handover.proofs.PairLemmas.{without_more}
use Rattle.handover.proofs.RowLemmas.{same_item}
use Rattle.handover.proofs.rows.without.Goals as goal
use Rattle.handover.proofs.rows.without.Goals.{then-not-stands_at+in_ok-push, else-not-stands_at}

pub loop-pair-preserved : goal.loop-pair-preserved
loop-pair-preserved c =
    let q = get_or c.args.pairs.now c.loop-pair.pair-index (0, 0) in
    let one = same_item c.args.pairs.now c.loop-pair.pair-index (0, 0) q c.loop-pair-test.true in
    record {
      lacking = elim c.if-not-stands_at.branch [
        | then-not-stands_at+in_ok-push w ↦
            ap (λ (v : Vec (ℕ × ℕ) Global). v.items) w.lacking-is ∙ w.in_ok-push.ensures.items ∙ ap (λ (r : List (ℕ × ℕ)). r ++ q ∷ []) c.loop-pair.invariant.lacking
            ∙ sym (without_more c.args.others.now c.args.pairs.now c.loop-pair.pair-index q false c.loop-pair-test.true one (sym w.if-not-stands_at.ensures))
        | else-not-stands_at w ↦
            ap (λ (v : Vec (ℕ × ℕ) Global). v.items) w.lacking-is ∙ c.loop-pair.invariant.lacking
            ∙ sym (without_more c.args.others.now c.args.pairs.now c.loop-pair.pair-index q true c.loop-pair-test.true one (sym w.if-not-stands_at.ensures))
      ];
      bound = c.place_from-place.ensures.bound;
      passed = λ k j a b e.
          let order = c.requires.pairs c.loop-pair.pair-index j (0, 0) (omega arith) e in
          grind (arith, c.loop-pair.invariant.passed k j, c.place_from-place.ensures.passed k, order);
    }
