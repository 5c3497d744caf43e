use Rattle.std.proofs.Common.{◌≡◌, [], drop}
use Rattle.agent_documents.specs.Lists.{seen_with}
use Rattle.agent_documents.proofs.listing.seen_in.Given as goal

abbrev pub invariant-loop-listed : goal.invariant-loop-listed
invariant-loop-listed l = seen_with l.seen.entries (drop l.listed-index l.targets) ≡ seen_with [] l.targets
