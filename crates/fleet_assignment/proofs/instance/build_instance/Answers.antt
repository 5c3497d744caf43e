use Rattle.std.proofs.Common.{ap, arith, length, List, refl}
use Rattle.fleet.specs.declared.known_target.KnownTarget.{KnownTarget}
use Rattle.fleet.proofs.LiveLemmas.{live_below, live_few}
use Rattle.fleet_assignment.proofs.instance.build_instance.Goals as goal

pub instance-requires-clause-live : goal.instance-requires-clause-live
instance-requires-clause-live c = live_few c.args.fleet.now.listed c.args.fleet.now.listed _ _ c.args.live.now c.args.live.now refl c.requires refl refl c.jobs.ensures.kept.few_live

pub instance-requires-clause-numbers : goal.instance-requires-clause-numbers
instance-requires-clause-numbers c =
    live_below c.args.fleet.now.listed c.args.fleet.now.listed (length c.args.fleet.now.known) (length c.args.fleet.now.known) (length c.known.result.now) c.args.live.now c.args.live.now refl c.requires refl refl (omega (arith, ap (λ (ks : List KnownTarget). length ks) c.known.ensures))
