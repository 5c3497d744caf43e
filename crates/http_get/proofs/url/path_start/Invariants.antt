use Rattle.std.proofs.Common.{◌≡◌, ◌+◌, drop, not}
use Rattle.std.specs.List.{prefix_len}
use Rattle.http_get.specs.Urls.{begins_path}
use Rattle.http_get.proofs.url.path_start.Given as goal

abbrev pub invariant-loop-index : goal.invariant-loop-index
invariant-loop-index l = l.index + prefix_len (λ b. not (begins_path b)) (drop l.index l.text) ≡ prefix_len (λ b. not (begins_path b)) l.text
