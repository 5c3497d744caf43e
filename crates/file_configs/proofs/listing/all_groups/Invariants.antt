use Rattle.std.proofs.Common.{◌≡◌, [], drop}
use Rattle.file_configs.specs.Listing.{groups_from}
use Rattle.file_configs.proofs.listing.all_groups.Given as goal

abbrev pub invariant-loop-file : goal.invariant-loop-file
invariant-loop-file l = groups_from l.all (drop l.file-index l.files) ≡ groups_from [] l.files
