use Rattle.std.proofs.Common.{subst}
use Rattle.memchr.specs.Find.{FindsNeedle}
use Rattle.entity_tags.proofs.tag.is_shown.Goals as goal

pub returns-in-None : goal.returns-in-None
returns-in-None c =
    let nowhere = subst (λ found. FindsNeedle c.as_bytes.result.now c.as_bytes-2.result.now 0 found) c.in-None.is c.find.ensures in
    rw (← c.as_bytes.ensures.value, ← c.as_bytes-2.ensures.value) nowhere
