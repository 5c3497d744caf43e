use Rattle.std.proofs.Common.{◌≡◌, ◌++◌, drop}
use Rattle.std.specs.Prelude.{map}
use Rattle.agent_documents.specs.Serving.{groups_of}
use Rattle.agent_documents.proofs.serving.texts_of.Given as goal

abbrev pub invariant-loop-place : goal.invariant-loop-place
invariant-loop-place l = map (λ t. t.now) l.texts.items ++ groups_of l.targets l.job (drop l.place-index l.served) ≡ groups_of l.targets l.job l.served
