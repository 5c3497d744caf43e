use Rattle.std.proofs.Common.{◌≡◌, ◌++◌, drop}
use Rattle.agent_documents.specs.Urls.{parameters_of}
use Rattle.agent_documents.proofs.url.parameters_of.Given as goal

-- the parameters so far and those of the labels that are left are all
abbrev pub invariant-loop-name : goal.invariant-loop-name
invariant-loop-name l = l.parameters ++ parameters_of (drop l.name-index l.labels) ≡ parameters_of l.labels
