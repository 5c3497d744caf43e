use Rattle.std.proofs.Common.{◌≡◌, ◌++◌, drop, map}
use Rattle.sd_documents.specs.inner.Commas.{after_commas}
use Rattle.sd_documents.proofs.written.push_others.Given as goal

abbrev pub invariant-loop-text : goal.invariant-loop-text
invariant-loop-text l = l.bytes.items ++ after_commas (map (λ t. t.now) (drop l.text-index l.texts)) ≡ l.fn.bytes.items ++ after_commas (map (λ t. t.now) l.texts)
