use Rattle.label_sets.specs.Target.{target_text}
use Rattle.fleet_events.proofs.TargetLemmas.{target_back}
use Rattle.core_history.proofs.KnownTargets.{said_back, text_says}
use Rattle.core_history.proofs.known_target.group_text.Goals as goal

pub returns-clause-reads_back : goal.returns-clause-reads_back
returns-clause-reads_back c =
    let target = c.args.target.now in
    said_back (target_text target) target (text_says target c.text.ensures.utf8 c.text.ensures.tokens c.text.ensures.reads) (target_back c.map_laws.ensures.last c.finishes_again.ensures target c.text.ensures.is_final)
