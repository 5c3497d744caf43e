use Rattle.std.proofs.Common.{◌<◌, ℕ, List, [], subst, sym, arith}
use Rattle.std.proofs.lemmas.List.{get_or_read}
use Rattle.assign_engine.specs.Roll.{times_in}
use Rattle.assign_engine.proofs.Rolling.{is_bin_listed}
use Rattle.assign_engine.proofs.seating.strike.Goals as goal

pub index_mut-members-requires : goal.index_mut-members-requires
index_mut-members-requires c = omega (arith, is_bin_listed c.args.rolls.now.items c.in-Some.bin c.args.item (c.requires c.in-Some.bin c.in-Some.is), c.args.rolls.now.ok.0)

pub remove-requires : goal.remove-requires
remove-requires c =
    let rolls = c.args.rolls.now.items in
    let bin = c.in-Some.bin in
    let listed = c.requires bin c.in-Some.is in
    let l = is_bin_listed rolls bin c.args.item listed in
    let e = get_or_read rolls bin c.index_mut-members.result.now l c.index_mut-members.ensures.value [] in
    subst (λ (m : List ℕ). 0 < times_in m c.args.item) (sym e) listed
