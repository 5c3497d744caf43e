use Rattle.std.proofs.Common.{◌≡◌, option_map, drop, map}
use Rattle.config_members.specs.Nearest.{nearest_from}
use Rattle.config_members.proofs.meant.nearest_among.Given as goal

abbrev pub invariant-loop-candidate : goal.invariant-loop-candidate
invariant-loop-candidate l = nearest_from l.name (option_map (λ s. s.now) l.best) (map (λ s. s.now) (drop l.candidate-index l.names)) ≡ nearest_from l.name (option_map (λ s. s.now) l.initial.best) (map (λ s. s.now) l.names)
