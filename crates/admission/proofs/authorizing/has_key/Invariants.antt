use Rattle.std.proofs.Common.{◌≡◌, ◌||◌, ◌&&◌, drop}
use Rattle.std.specs.Prelude.{option_map}
use Rattle.admission.specs.Authorizing.{has_key}
use Rattle.admission.proofs.authorizing.has_key.Given as goal

abbrev pub invariant-loop-key : goal.invariant-loop-key
invariant-loop-key l = (l.found || has_key (drop l.key-index l.keys) (option_map (λ s. s.now) l.collector) l.token) ≡ has_key l.keys (option_map (λ s. s.now) l.collector) l.token
