use Rattle.std.proofs.Common.{◌≡◌, map}
use Rattle.etcd_settings.proofs.place.parts_at.Given as goal

abbrev pub invariant-loop-part : goal.invariant-loop-part
invariant-loop-part l = l.parts ≡ map (λ s. s.now) l.yielded
