use Rattle.std.proofs.Common.{◌≡◌, take, map}
use Rattle.file_configs.specs.Listing.{with_path}
use Rattle.file_configs.proofs.groups.with_paths.Given as goal

abbrev pub invariant-loop-group : goal.invariant-loop-group
invariant-loop-group l = l.all ≡ map (with_path l.path) (take l.group-index l.groups)
