use Rattle.std.proofs.Common.{ℕ, List, length, sym, subst}
use Rattle.price_certificate.specs.Assignment.{IsOptimal}
use Rattle.spread_certificate.proofs.WithinLemmas.{best_is_bare}
use Rattle.spread_engine.specs.Witness.{AreNear}
use Rattle.spread_engine.proofs.WitnessLemmas.{near, shifted-best}
use Rattle.spread_engine.proofs.spreading.caps_after.Goals as goal

pub returns-clause-free : goal.returns-clause-free
returns-clause-free c =
    let p = c.args.instance.now in
    let old = c.in_ok-witness.witness.pairs in
    let first : IsOptimal p old = subst (λ (x : List (ℕ × ℕ)). IsOptimal p x) (sym c.in_ok-witness.ensures.pairs) c.requires.best in
    record {
      witness = c.shift_all.new.self.pairs;
      best = shifted-best p old c.shift_all.new.self.pairs (best_is_bare p old first) c.shift_all.ensures.shifted;
      within = c.in_ok-caps.ensures.within;
    }

pub returns-clause-near : goal.returns-clause-near
returns-clause-near c =
    let p = c.args.instance.now in
    let old = c.in_ok-witness.witness.pairs in
    let first : IsOptimal p old = subst (λ (x : List (ℕ × ℕ)). IsOptimal p x) (sym c.in_ok-witness.ensures.pairs) c.requires.best in
    let caps = c.in_ok-caps.caps.items in
    subst (λ (x : List (ℕ × ℕ)). AreNear p x (length c.args.shifts.now) caps) c.in_ok-witness.ensures.pairs
    (near p old c.shift_all.new.self.pairs c.shift_all.result (length c.args.shifts.now) caps first.feasible c.shift_all.ensures.shifted c.shift_all.ensures.kept c.shift_all.ensures.most c.in_ok-caps.ensures.within)
