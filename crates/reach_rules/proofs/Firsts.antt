-- The first rule whose test holds, found by places and told as a relation.
use Rattle.std.proofs.Common.{◌≡◌, ℕ, zero, suc, ◌<◌, ◌≤◌, Bool, true, false, List, [], ◌∷◌, ◌++◌, length, get_or, ◌↔◌, IsTrue, refl, sym, ap, ◌∙◌, subst, arith, inl, inr, ◌⊎◌}
use Rattle.std.specs.Prelude.{All}
use Rattle.std.proofs.lemmas.Bool.{cases_Bool, false≢true}
use Rattle.std.proofs.lemmas.List.Elements.{All-nil, All-cons, All-head, All-tail}
use Rattle.label_sets.specs.Target.{FinalTarget}
use Rattle.reach_rules.specs.declared.rule.ReachRule.{ReachRule}
use Rattle.reach_rules.specs.Rules.{holds_on, reaches, Reaches}

module _ (target : FinalTarget) where
  -- the rule's test fails
  abbrev Fails : ReachRule → Type 0
  Fails rule = holds_on rule.test target ≡ false

  at_place : (rules : List ReachRule) (i : ℕ) (d : ReachRule) → i < length rules → ((k : ℕ) → k < i → Fails (get_or rules k d)) → holds_on (get_or rules i d).test target ≡ true → reaches rules target ≡ (get_or rules i d).allow
  at_place [] i d within none holds = absurd (omega arith)
  at_place (r ∷ rules) zero d within none holds = rw holds
  at_place (r ∷ rules) (suc i) d within none holds =
      let first : holds_on r.test target ≡ false = none 0 (omega arith) in
      rw first (at_place rules i d (omega arith) (λ k lt. none (suc k) (omega arith)) holds)

  nowhere : (rules : List ReachRule) (d : ReachRule) → ((k : ℕ) → k < length rules → Fails (get_or rules k d)) → reaches rules target ≡ false
  nowhere [] d none = refl
  nowhere (r ∷ rules) d none =
      let first : holds_on r.test target ≡ false = none 0 (omega arith) in
      rw first (nowhere rules d (λ k lt. none (suc k) (omega arith)))

  to_relation : (rules : List ReachRule) → reaches rules target ≡ true → Reaches rules target
  to_relation [] reached = absurd (false≢true reached)
  to_relation (r ∷ rules) reached = go (cases_Bool (holds_on r.test target)) (λ rest. to_relation rules rest)
    where
      later : holds_on r.test target ≡ false → Reaches rules target → Reaches (r ∷ rules) target
      later fails found = record {
        before = r ∷ found.before;
        rule = found.rule;
        after = found.after;
        split = ap (λ (rs : List ReachRule). r ∷ rs) found.split;
        none_before = All-cons Fails r found.before fails found.none_before;
        holds = found.holds;
        allows = found.allows;
      }

      go : (holds_on r.test target ≡ true) ⊎ (holds_on r.test target ≡ false) → (reaches rules target ≡ true → Reaches rules target) → Reaches (r ∷ rules) target
      go (inl holds) rest = record {
        before = [];
        rule = r;
        after = rules;
        split = refl;
        none_before = All-nil Fails;
        holds = holds;
        allows = rw holds at reached;
      }
      go (inr fails) rest = later fails (rest (rw fails at reached))

  past_none : (before rest : List ReachRule) → All Fails before → reaches (before ++ rest) target ≡ reaches rest target
  past_none [] rest none = refl
  past_none (r ∷ before) rest none =
      let first : holds_on r.test target ≡ false = All-head Fails r before none in
      rw first (past_none before rest (All-tail Fails r before none))

  from_relation : (rules : List ReachRule) → Reaches rules target → reaches rules target ≡ true
  from_relation rules found =
      let holds : holds_on found.rule.test target ≡ true = found.holds in
      rw found.split (past_none found.before (found.rule ∷ found.after) found.none_before ∙ rw holds found.allows)

-- an answer that is that of the first rule is that of the relation
pub as_relation : (rules : List ReachRule) (target : FinalTarget) (r : Bool) → r ≡ reaches rules target → IsTrue r ↔ Reaches rules target
as_relation rules target r is = (λ reached. to_relation target rules (sym is ∙ reached), λ found. is ∙ from_relation target rules found)

pub decided : (rules : List ReachRule) (target : FinalTarget) (i : ℕ) (rule : ReachRule) (r : Bool) → i < length rules → rule ≡ get_or rules i rule → ((k : ℕ) (d : ReachRule) → k < i → holds_on (get_or rules k d).test target ≡ false) → holds_on rule.test target ≡ true → rule.allow ≡ reaches rules target
decided rules target i rule r within read none holds =
    ap (λ (x : ReachRule). x.allow) read
    ∙ sym (at_place target rules i rule within (λ k lt. none k rule lt) (subst (λ (x : ReachRule). holds_on x.test target ≡ true) read holds))

pub undecided : (rules : List ReachRule) (target : FinalTarget) (i : ℕ) → length rules ≤ i → ((k : ℕ) (d : ReachRule) → k < i → holds_on (get_or rules k d).test target ≡ false) → false ≡ reaches rules target
undecided [] target i over none = refl
undecided (r ∷ rules) target i over none = sym (nowhere target (r ∷ rules) r (λ k lt. none k r (omega arith)))
