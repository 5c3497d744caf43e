use Rattle.std.proofs.Common.{◌≡◌, drop, map}
use Rattle.config_members.specs.Unknown.{is_among as is_among_names}
use Rattle.config_members.proofs.unknown.is_among.Given as goal

abbrev pub invariant-loop-candidate : goal.invariant-loop-candidate
invariant-loop-candidate l = is_among_names (map (λ s. s.now) (drop l.candidate-index l.names)) l.name ≡ is_among_names (map (λ s. s.now) l.names) l.name
