use Rattle.std.proofs.Common.{◌≡◌, drop}
use Rattle.std.specs.List.{list_any}
use Rattle.admission.specs.Sites.{same_letters}
use Rattle.admission.proofs.sites.is_own_host.Given as goal

abbrev pub invariant-loop-own : goal.invariant-loop-own
invariant-loop-own l = list_any (λ own. same_letters own l.name) (drop l.own-index l.hosts) ≡ list_any (λ own. same_letters own l.name) l.hosts
