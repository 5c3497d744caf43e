use Rattle.std.proofs.Common.{◌≡◌, []}
use Rattle.agent_documents.specs.Lists.{targets_with}
use Rattle.agent_documents.proofs.listing.marked.Given as goal

abbrev pub invariant-loop-listed : goal.invariant-loop-listed
invariant-loop-listed l = targets_with l.seen.entries l.all.keys l.listed-iterator.rest.items ≡ targets_with l.seen.entries [] l.fn.targets.items
