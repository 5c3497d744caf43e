use Rattle.std.proofs.Common.{◌≡◌, List, Some, ap, get_or, length, sym, ◌∙◌}
use Rattle.std.specs.Prelude.{slice_get}
use Rattle.std.proofs.lemmas.Bool.{ltb-true}
use Rattle.std.proofs.lemmas.Option.{slice_get_read}
use Rattle.fleet.specs.declared.known_target.KnownTarget.{KnownTarget}
use Rattle.fleet_assignment.proofs.SharingLemmas.{alike}
use Rattle.fleet_assignment.proofs.rows.are_alike.Goals as goal

pub returns-in-Some-Some : goal.returns-in-Some-Some
returns-in-Some-Some c t =
    let fleet = c.args.fleet.now in
    let known = c.known-known.result.now in
    let is : known ≡ fleet.known = c.known-known.ensures in
    let k = c.in-Some-Some.one.now in
    let m = c.in-Some-Some.other.now in
    let one : slice_get fleet.known c.args.first ≡ Some k =
    slice_get_read fleet.known (length known) c.args.first k (ap (λ (ks : List KnownTarget). length ks) is) (ltb-true _ _ (sym c.in-Some-Some.ensures.lookup.0)) (c.in-Some-Some.ensures.lookup.1 ∙ ap (λ (ks : List KnownTarget). get_or ks c.args.first k) is) in
    let other : slice_get fleet.known c.args.number ≡ Some m =
    slice_get_read fleet.known (length known) c.args.number m (ap (λ (ks : List KnownTarget). length ks) is) (ltb-true _ _ (sym c.in-Some-Some.ensures'.lookup.0)) (c.in-Some-Some.ensures'.lookup.1 ∙ ap (λ (ks : List KnownTarget). get_or ks c.args.number m) is) in
    alike fleet c.args.asked.now c.args.first c.args.number k m c.requires one other c.if-one-other.true (c.are_reached_alike.ensures t)
