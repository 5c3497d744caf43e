use Rattle.std.proofs.Common.{◌≡◌, ℕ, List, [], ◌∷◌, ◌++◌, length, take, ap, sym, ◌∙◌, append_assoc}
use Rattle.label_sets.specs.Target.{FinalTarget}
use Rattle.fleet.specs.KnownTarget.{known_with, number_of, numbers_of, with_known}
use Rattle.fleet.specs.declared.known_target.KnownTarget.{KnownTarget}
use Rattle.fleet.proofs.EnteredLemmas.{first_with}
use Rattle.fleet.proofs.listing.enter.Goals as goal

pub loop-target-preserved : goal.loop-target-preserved
loop-target-preserved c =
    let l = c.loop-target in
    let job = c.args.job in
    let known = l.known.keys in
    let rest = c.next.new.self.rest.items in
    let k : KnownTarget = record { job = job; target = c.in-Some.target } in
    let steps : l.target-iterator.rest.items ≡ c.in-Some.target ∷ rest = c.in-Some.ensures.steps.0 in
    let keys : c.insert_full.new.self.keys ≡ with_known known k = c.in_ok-number.ensures.keys in
    let number : c.in_ok-number.field-0.0 ≡ number_of known k = c.in_ok-number.ensures.index in
    record {
      numbers =
          ap (λ (ks : List KnownTarget). c.push.new.self.items ++ numbers_of ks job rest) keys
          ∙ ap (λ (ns : List ℕ). ns ++ numbers_of (with_known known k) job rest) c.in_ok-push.ensures.items
          ∙ append_assoc l.numbers.items (c.in_ok-number.field-0.0 ∷ []) (numbers_of (with_known known k) job rest)
          ∙ ap (λ (n : ℕ). l.numbers.items ++ n ∷ numbers_of (with_known known k) job rest) number
          ∙ ap (λ (ts : List FinalTarget). l.numbers.items ++ numbers_of known job ts) (sym steps)
          ∙ l.invariant.numbers;
      known =
          ap (λ (ks : List KnownTarget). known_with ks job rest) keys
          ∙ ap (λ (ts : List FinalTarget). known_with known job ts) (sym steps)
          ∙ l.invariant.known;
      before = ap (λ (ks : List KnownTarget). take (length c.args.known.now.keys) ks) keys ∙ first_with c.args.known.now.keys known k l.invariant.before;
    }

pub returns-in_err-push-clause-before : goal.returns-in_err-push-clause-before
returns-in_err-push-clause-before c =
    let l = c.loop-target in
    let k : KnownTarget = record { job = c.args.job; target = c.in-Some.target } in
    let keys : c.insert_full.new.self.keys ≡ with_known l.known.keys k = c.in_ok-number.ensures.keys in
    ap (λ (ks : List KnownTarget). take (length c.args.known.now.keys) ks) keys ∙ first_with c.args.known.now.keys l.known.keys k l.invariant.before
