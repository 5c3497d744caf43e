use Rattle.std.proofs.Common.{◌≡◌, ◌++◌, take, drop}
use Rattle.http_get.specs.Queries.{with_name}
use Rattle.http_get.proofs.names.index_of.Given as goal

abbrev pub invariant-loop-index : goal.invariant-loop-index
invariant-loop-index l = with_name l.names l.name ≡ take l.index l.names ++ with_name (drop l.index l.names) l.name
