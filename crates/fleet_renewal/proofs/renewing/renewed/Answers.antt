use Rattle.std.proofs.Common.{subst, sym, ◌∙◌}
use Rattle.fleet.specs.IsFleet.{IsFleet}
use Rattle.fleet_renewal.proofs.CarriedLemmas.{carried_is, renewed_is}
use Rattle.fleet_renewal.proofs.RenewedKept.{renewed_kept}
use Rattle.fleet_renewal.proofs.SlotLemmas.{slots_are}
use Rattle.fleet_renewal.proofs.renewing.renewed.Goals as goal

pub of_parts-requires-clause-kept : goal.of_parts-requires-clause-kept
of_parts-requires-clause-kept c =
    let fleet = c.args.fleet.now in
    let places = rw (c.jobs.ensures.jobs, c.as_slice.ensures.value) at c.in_ok-places.ensures in
    let marks = rw (c.as_slice-2.ensures.value) at c.in_ok-marks.ensures.marks in
    let numbers = rw (c.as_slice-4.ensures.value) at c.in_ok-numbers.ensures in
    let listed = rw (c.as_slice-6.ensures.value, c.as_slice-7.ensures.value) at c.in_ok-listed.ensures in
    let known = rw (c.known.ensures, c.as_slice-8.ensures.value, c.as_slice-9.ensures.value) at c.in_ok-known.ensures in
    let collectors = rw (c.collectors.ensures.collectors, c.as_slice-10.ensures.value) at c.in_ok-collectors.ensures in
    let is = renewed_is fleet c.args.pairs.now c.args.slots.now c.args.jobs.items c.in_ok-places.places.items c.in_ok-numbers.numbers.items c.in_ok-marks.marks.items c.in_ok-listed.listed.items c.in_ok-known.known.items c.in_ok-collectors.collectors.items c.last_collector.result places c.in_ok-marks.ensures.each marks numbers listed known collectors c.last_collector.ensures in
    subst IsFleet (sym is) (renewed_kept fleet c.args.pairs.now c.args.slots.now c.args.jobs.items c.jobs.ensures.kept c.jobs.ensures.named c.requires.jobs c.requires.bins)

pub returns-clause-fleet : goal.returns-clause-fleet
returns-clause-fleet c =
    let fleet = c.args.fleet.now in
    let places = rw (c.jobs.ensures.jobs, c.as_slice.ensures.value) at c.in_ok-places.ensures in
    let marks = rw (c.as_slice-2.ensures.value) at c.in_ok-marks.ensures.marks in
    let numbers = rw (c.as_slice-4.ensures.value) at c.in_ok-numbers.ensures in
    let listed = rw (c.as_slice-6.ensures.value, c.as_slice-7.ensures.value) at c.in_ok-listed.ensures in
    let known = rw (c.known.ensures, c.as_slice-8.ensures.value, c.as_slice-9.ensures.value) at c.in_ok-known.ensures in
    let collectors = rw (c.collectors.ensures.collectors, c.as_slice-10.ensures.value) at c.in_ok-collectors.ensures in
    let is = renewed_is fleet c.args.pairs.now c.args.slots.now c.args.jobs.items c.in_ok-places.places.items c.in_ok-numbers.numbers.items c.in_ok-marks.marks.items c.in_ok-listed.listed.items c.in_ok-known.known.items c.in_ok-collectors.collectors.items c.last_collector.result places c.in_ok-marks.ensures.each marks numbers listed known collectors c.last_collector.ensures in
    c.in_ok-fleet.ensures ∙ is

pub returns-clause-pairs : goal.returns-clause-pairs
returns-clause-pairs c =
    let marks = rw (c.as_slice-2.ensures.value) at c.in_ok-marks.ensures.marks in
    let numbers = rw (c.as_slice-4.ensures.value) at c.in_ok-numbers.ensures in
    let pairs = rw (c.as_slice-5.ensures.value) at c.in_ok-pairs.ensures in
    c.from_vec.ensures ∙ carried_is c.args.fleet.now c.args.pairs.now c.in_ok-pairs.pairs.items c.args.slots.now c.args.jobs.items c.in_ok-numbers.numbers.items c.in_ok-marks.marks.items c.in_ok-marks.ensures.each marks numbers pairs

pub returns-clause-slots : goal.returns-clause-slots
returns-clause-slots c =
    let marks = rw (c.as_slice-2.ensures.value) at c.in_ok-marks.ensures.marks in
    let slots = rw (c.as_slice-11.ensures.value) at c.in_ok-slots.ensures in
    c.from_vec-2.ensures ∙ slots_are c.args.fleet.now c.args.pairs.now c.args.slots.now c.in_ok-slots.slots.items c.args.jobs.items c.in_ok-marks.marks.items c.in_ok-marks.ensures.each marks slots

pub returns-clause-kept : goal.returns-clause-kept
returns-clause-kept c =
    let fleet = c.args.fleet.now in
    let places = rw (c.jobs.ensures.jobs, c.as_slice.ensures.value) at c.in_ok-places.ensures in
    let marks = rw (c.as_slice-2.ensures.value) at c.in_ok-marks.ensures.marks in
    let numbers = rw (c.as_slice-4.ensures.value) at c.in_ok-numbers.ensures in
    let listed = rw (c.as_slice-6.ensures.value, c.as_slice-7.ensures.value) at c.in_ok-listed.ensures in
    let known = rw (c.known.ensures, c.as_slice-8.ensures.value, c.as_slice-9.ensures.value) at c.in_ok-known.ensures in
    let collectors = rw (c.collectors.ensures.collectors, c.as_slice-10.ensures.value) at c.in_ok-collectors.ensures in
    let is = renewed_is fleet c.args.pairs.now c.args.slots.now c.args.jobs.items c.in_ok-places.places.items c.in_ok-numbers.numbers.items c.in_ok-marks.marks.items c.in_ok-listed.listed.items c.in_ok-known.known.items c.in_ok-collectors.collectors.items c.last_collector.result places c.in_ok-marks.ensures.each marks numbers listed known collectors c.last_collector.ensures in
    subst IsFleet (sym (c.in_ok-fleet.ensures ∙ is)) (renewed_kept fleet c.args.pairs.now c.args.slots.now c.args.jobs.items c.jobs.ensures.kept c.jobs.ensures.named c.requires.jobs c.requires.bins)
