use Rattle.std.proofs.Common.{◌<◌, ℕ, List, ◌∙◌, ap, subst, sym}
use Rattle.std.specs.Prelude.{AllPairs}
use Rattle.handover.specs.Handover.{Handover, last_of}
use Rattle.handover.proofs.KeptLemmas.{current_ascends, last_of-kept}
use Rattle.handover.proofs.PairLemmas.{all_pairs}
use Rattle.handover.proofs.holders.Holders.current_pairs.Goals as goal

pub returns-clause-pairs : goal.returns-clause-pairs
returns-clause-pairs c =
    c.as_slice.ensures ∙ last_of-kept c.self.inside.current c.self.inside.pairs c.self.inside.rows.items c.self.invariant ∙ ap (λ (h : Handover). last_of h.published) c.self.view_is

pub returns-clause-ascending : goal.returns-clause-ascending
returns-clause-ascending c =
    subst (λ (ps : List (ℕ × ℕ)). AllPairs (λ (a b : ℕ × ℕ). a.0 < b.0) ps) (sym c.as_slice.ensures) (all_pairs 0 c.self.inside.pairs (current_ascends c.self.inside.current c.self.inside.pairs c.self.inside.rows.items c.self.invariant))
