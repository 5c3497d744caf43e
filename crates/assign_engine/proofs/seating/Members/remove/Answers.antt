use Rattle.std.proofs.Common.{◌≡◌, ◌<◌, ℕ, List, cond, eqb, length, get_or, ap, ◌∙◌, subst, arith}
use Rattle.std.proofs.lemmas.List.{get_or_default}
use Rattle.std.proofs.lemmas.List.Sums.{sum_by-swap_remove}
use Rattle.assign_engine.specs.Roll.{times_in}
use Rattle.assign_engine.proofs.seating.Members.remove.Goals as goal

pub returns-clause-times : goal.returns-clause-times
returns-clause-times c = λ other.
    let xs = c.self.inside.items.items in
    let place = c.place_of-place.result in
    let item = c.args.item in
    let r = c.swap_remove.result in
    let same : c.deref.result.now ≡ xs = c.deref.ensures.value in
    let l : place < length xs = subst (λ (m : List ℕ). place < length m) same c.place_of-place.ensures.in_range in
    let at : get_or xs place 0 ≡ item = subst (λ (m : List ℕ). get_or m place 0 ≡ item) same c.place_of-place.ensures.found in
    let v : get_or xs place r ≡ item = get_or_default xs place r 0 l ∙ at in
    let f = λ (x : ℕ). (let n : ℕ = cond (eqb x other) 1 0 in n) in
    let s = sum_by-swap_remove f xs place r l in
    let e = ap (λ (m : List ℕ). times_in m other) c.swap_remove.ensures.items in
    let g = ap f v in
    let n = ap (λ (m : List ℕ). times_in m other) c.self.view_is in
    omega (arith, s, e, g, n)
