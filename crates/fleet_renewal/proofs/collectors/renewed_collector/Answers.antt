use Rattle.std.proofs.Common.{◌≡◌, ap, ◌∙◌}
use Rattle.reach_rules.specs.OwnLimits.{limits_of}
use Rattle.fleet_renewal.specs.Renewed.{limits_for}
use Rattle.fleet_renewal.proofs.LimitLemmas.{limits_kept}
use Rattle.fleet_renewal.proofs.collectors.renewed_collector.Goals as goal

pub returns : goal.returns
returns c =
    let entries = c.as_slice.ensures.value ∙ c.in_ok-entries.ensures ∙ ap (limits_for c.args.jobs.now) c.entries.ensures.all in
    let limits : c.in_ok-limits.limits ≡ limits_for c.args.jobs.now c.args.collector.now.limits = c.in_ok-limits.ensures.limits ∙ ap limits_of entries ∙ limits_kept c.args.jobs.now c.args.collector.now.limits c.entries.ensures.ordered in
    λ i. record {
      id = c.args.collector.now.id;
      name = c.in_ok-name.ensures i;
      reach = c.in_ok-reach.ensures i;
      draining = c.args.collector.now.draining;
      limits = limits i;
    }
