use Rattle.std.proofs.Common.{◌≡◌, ◌≤◌, ◌+◌, ◌<◌, ◌^◌, ℕ, get_or, ap, ◌∙◌, arith}
use Rattle.std.proofs.Math.ListN.{set}
use Rattle.std.proofs.lemmas.List.{get_or_default}
use Rattle.spread_certificate.specs.Even.{owners_of}
use Rattle.spread_certificate.proofs.Counting.{group_low, sums_more}
use Rattle.spread_certificate.proofs.groups.sum_caps.Goals as goal

pub index_mut-requires : goal.index_mut-requires
index_mut-requires c = omega (arith, c.loop-bin.invariant.each, c.group-group.ensures, group_low c.args.instance.now c.args.jobs c.loop-bin.bin c.requires (omega arith))

pub overflow_add-index_mut : goal.overflow_add-index_mut
overflow_add-index_mut c =
    let low = group_low c.args.instance.now c.args.jobs c.loop-bin.bin c.requires (omega arith) in
    let group : c.group-group.result ≤ owners_of c.args.instance.now c.args.jobs = omega (arith, low, c.group-group.ensures) in
    let same = get_or_default c.loop-bin.sums.items c.group-group.result c.index_mut.result.now 0 (omega (arith, c.loop-bin.invariant.each)) in
    let few : c.from.result < 2 ^ 32 = omega (arith, c.from.ensures, c.number_at.type_inv) in
    omega (arith, same, c.index_mut.ensures.value, c.loop-bin.invariant.small c.group-group.result group, few)

pub loop-bin-preserved : goal.loop-bin-preserved
loop-bin-preserved c =
    let low = group_low c.args.instance.now c.args.jobs c.loop-bin.bin c.requires (omega arith) in
    let cap : c.from.result ≡ get_or c.args.caps.now c.loop-bin.bin 0 = c.from.ensures ∙ c.number_at.ensures in
    sums_more c.args.instance.now c.args.jobs c.args.caps.now c.loop-bin.sums.items _ c.loop-bin.bin c.group-group.result c.index_mut.result.now c.loop-bin.invariant c.group-group.ensures (omega (arith, low, c.group-group.ensures)) c.index_mut.ensures.value
    (ap (λ (n : ℕ). set c.loop-bin.sums.items c.group-group.result (c.index_mut.result.now + n)) cap) (omega (arith, cap, c.number_at.type_inv))
