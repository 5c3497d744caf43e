use Rattle.std.proofs.Common.{◌≡◌, ◌++◌, flat_map, take}
use Rattle.exposition.specs.Lines.{bucket_line}
use Rattle.exposition.proofs.exposition.Exposition.put_buckets.Given as goal

abbrev pub invariant-loop-bucket : goal.invariant-loop-bucket
invariant-loop-bucket l = l.self ≡ l.fn.self ++ flat_map (bucket_line l.name l.before) (take l.bucket-index l.buckets)
