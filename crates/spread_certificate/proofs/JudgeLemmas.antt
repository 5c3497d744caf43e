-- What a spread without a fault is.
use Rattle.std.specs.Prelude.{IfSome, ◌↔◌}
use Rattle.std.specs.Option.{option_map}
use Rattle.std.proofs.Common.{◌≡◌, ◌<◌, ℕ, cond, eqb, Bool, true, false, List, Option, Some, None, length, get_or, refl, ap, subst, ◌∙◌}
use Rattle.std.proofs.lemmas.Bool.{eq-eqb, eqb-true, leb-true, le-leb, lt-leb}
use Rattle.price_certificate.specs.Problem.{Problem, IsProblem, bins_of, capacity_of}
use Rattle.price_certificate.specs.Assignment.{IsOptimal}
use Rattle.price_certificate.specs.Certificate.{IsCertified}
use Rattle.price_certificate.specs.Derived.{bare, capped}
use Rattle.price_certificate.specs.Faults.{first_below}
use Rattle.price_certificate.specs.declared.verdict.Fault.{Fault}
use Rattle.price_certificate.proofs.First.{first_found, first_none, none_below, or_else_none, both_none}
use Rattle.price_certificate.proofs.Optimal.{optimal}
use Rattle.price_certificate.proofs.Verdicts.{fault_none, certified_none}
use Rattle.price_certificate.proofs.DerivedLemmas.{bare_problem, capped_problem}
use Rattle.spread_certificate.specs.Within.{AreCaps, IsBestWithin}
use Rattle.spread_certificate.specs.Judged.{cap_fault, cap_fault_at, best_fault, told_fault, spread_fault}
use Rattle.spread_certificate.specs.declared.verdict.SpreadFault.{SpreadFault}
use Rattle.spread_certificate.specs.declared.verdict.SpreadFault.TheVariants.{WrongCaps, CapTooHigh, Free, Within, Even}
use Rattle.spread_certificate.specs.Even.{owner_of, owners_of, IsEvenWithin}
use Rattle.spread_certificate.specs.EvenFaults.{witness_of}
use Rattle.spread_certificate.specs.Loads.{IsEvenest}
use Rattle.spread_certificate.specs.declared.even.Even.{Even as EvenPlan}
use Rattle.spread_certificate.specs.declared.spread.Spread.{Spread}
use Rattle.spread_certificate.proofs.WithinLemmas.{both_are_best_within}
use Rattle.spread_certificate.proofs.EvenLemmas.{no_fault, even_fine, even_jobs, no_slack_is_evenest}

pub cap_found : (p : Problem) (caps : List ℕ) (bin : ℕ) → bin < bins_of p → length caps ≡ bins_of p → first_below (cap_fault_at p caps) bin ≡ None → capacity_of p bin < get_or caps bin 0 → cap_fault p caps ≡ Some (CapTooHigh bin)
unfolding cap_fault
cap_found p caps bin l each none high =
    ap (λ (b : Bool). cond b (first_below (cap_fault_at p caps) (bins_of p)) (Some WrongCaps)) (eq-eqb (length caps) (bins_of p) each)
    ∙ first_found (cap_fault_at p caps) (bins_of p) bin (CapTooHigh bin) l none (ap (λ (b : Bool). cond b None (Some (CapTooHigh bin))) (lt-leb _ _ high))

not_high : (b : Bool) (fault : SpreadFault) → cond b None (Some fault) ≡ None → b ≡ true
not_high true fault e = refl
not_high false fault e = cc

caps_by : (p : Problem) (caps : List ℕ) (b : Bool) → eqb (length caps) (bins_of p) ≡ b → cond b (first_below (cap_fault_at p caps) (bins_of p)) (Some WrongCaps) ≡ None → AreCaps p caps
caps_by p caps true t e = record { bins = eqb-true _ _ t; most = λ bin l. leb-true _ _ (not_high _ (CapTooHigh bin) (none_below (cap_fault_at p caps) (bins_of p) e bin l)) }
caps_by p caps false t e = cc

pub caps_fine : (p : Problem) (caps : List ℕ) → cap_fault p caps ≡ None → AreCaps p caps
unfolding cap_fault
caps_fine p caps e = caps_by p caps _ refl e

fine_cap : (b : Bool) (fault : SpreadFault) → b ≡ true → cond b None (Some fault) ≡ None
fine_cap b fault e = ap (λ (t : Bool). cond t None (Some fault)) e

caps_none : (p : Problem) (caps : List ℕ) → AreCaps p caps → cap_fault p caps ≡ None
unfolding cap_fault
caps_none p caps are =
    ap (λ (b : Bool). cond b (first_below (cap_fault_at p caps) (bins_of p)) (Some WrongCaps)) (eq-eqb (length caps) (bins_of p) are.bins)
    ∙ first_none (cap_fault_at p caps) (bins_of p) (λ bin l. fine_cap _ (CapTooHigh bin) (le-leb _ _ (are.most bin l)))

pub no_best_fault_is_certified : (p : Problem) (spread : Spread) → IsProblem p
    → (best_fault p spread ≡ None) ↔ (AreCaps p spread.caps × IsCertified (bare p) spread.plan.pairs spread.free_item_prices spread.free_bin_prices × IsCertified (capped spread.caps p) spread.plan.pairs spread.plan.item_prices spread.plan.bin_prices)
unfolding best_fault
no_best_fault_is_certified p spread valid = (to, from)
  where
    to : best_fault p spread ≡ None → AreCaps p spread.caps × IsCertified (bare p) spread.plan.pairs spread.free_item_prices spread.free_bin_prices × IsCertified (capped spread.caps p) spread.plan.pairs spread.plan.item_prices spread.plan.bin_prices
    to e =
        let first = or_else_none _ _ e in
        let rest = or_else_none _ _ first.1 in
        let are = caps_fine p spread.caps first.0 in
        (are, fault_none (bare p) _ _ _ (bare_problem p valid) (no_fault Free _ rest.0), fault_none (capped spread.caps p) _ _ _ (capped_problem spread.caps p are.bins valid) (no_fault Within _ rest.1))

    from : AreCaps p spread.caps × IsCertified (bare p) spread.plan.pairs spread.free_item_prices spread.free_bin_prices × IsCertified (capped spread.caps p) spread.plan.pairs spread.plan.item_prices spread.plan.bin_prices → best_fault p spread ≡ None
    from h =
        let free = certified_none (bare p) _ _ _ (bare_problem p valid) h.1 in
        let within = certified_none (capped spread.caps p) _ _ _ (capped_problem spread.caps p h.0.bins valid) h.2 in
        both_none (cap_fault p spread.caps) _ (caps_none p spread.caps h.0) (both_none _ _ (ap (λ (o : Option Fault). option_map Free o) free) (ap (λ (o : Option Fault). option_map Within o) within))

pub best_fine : (p : Problem) (spread : Spread) → IsProblem p → best_fault p spread ≡ None → IsBestWithin spread.caps p spread.plan.pairs
best_fine p spread valid e =
    let caps = spread.caps in
    let plan = spread.plan in
    let all = (no_best_fault_is_certified p spread valid).0 e in
    let free : IsOptimal (bare p) plan.pairs = optimal (bare p) plan.pairs spread.free_item_prices spread.free_bin_prices (bare_problem p valid) all.1 in
    let within : IsOptimal (capped caps p) plan.pairs = optimal (capped caps p) plan.pairs plan.item_prices plan.bin_prices (capped_problem caps p all.0.bins valid) all.2 in
    both_are_best_within p caps plan.pairs valid all.0 free within

pub spread_fine : (p : Problem) (spread : Spread) → IsProblem p → spread_fault p spread ≡ None → IsBestWithin spread.caps p spread.plan.pairs
unfolding spread_fault
spread_fine p spread valid e = best_fine p spread valid (or_else_none (best_fault p spread) _ e).0

told_fine : (p : Problem) (spread : Spread) (told : Option EvenPlan) → IsProblem p → IsBestWithin spread.caps p spread.plan.pairs → told_fault p spread told ≡ None
    → IfSome told (λ even. IsEvenWithin p even.jobs even.slack (witness_of spread even) spread.plan.pairs)
told_fine p spread None valid best e = tt
told_fine p spread (Some even) valid best e = even_fine p spread even valid best.feasible best.within (no_fault Even _ e)

pub even_spread : (p : Problem) (spread : Spread) → IsProblem p → spread_fault p spread ≡ None → IfSome spread.even (λ even. IsEvenWithin p even.jobs even.slack (witness_of spread even) spread.plan.pairs)
unfolding spread_fault
even_spread p spread valid e =
    let parts = or_else_none (best_fault p spread) _ e in
    told_fine p spread spread.even valid (best_fine p spread valid parts.0) parts.1

told_evenest : (p : Problem) (spread : Spread) (told : Option EvenPlan) → IsProblem p → IsBestWithin spread.caps p spread.plan.pairs → told_fault p spread told ≡ None
    → IfSome told (λ even. even.slack ≡ 0 → IsEvenest p (owner_of even.jobs) (owners_of p even.jobs) spread.plan.pairs)
told_evenest p spread None valid best e = tt
told_evenest p spread (Some even) valid best e = λ none.
    let fault = no_fault Even _ e in
    let within = even_fine p spread even valid best.feasible best.within fault in
    no_slack_is_evenest p even.jobs (witness_of spread even) spread.plan.pairs valid (even_jobs p spread even fault) best.feasible (subst (λ (s : ℕ). IsEvenWithin p even.jobs s (witness_of spread even) spread.plan.pairs) none within)

pub evenest_spread : (p : Problem) (spread : Spread) → IsProblem p → spread_fault p spread ≡ None → IfSome spread.even (λ even. even.slack ≡ 0 → IsEvenest p (owner_of even.jobs) (owners_of p even.jobs) spread.plan.pairs)
unfolding spread_fault
evenest_spread p spread valid e =
    let parts = or_else_none (best_fault p spread) _ e in
    told_evenest p spread spread.even valid (best_fine p spread valid parts.0) parts.1
