use Rattle.std.proofs.Common.{◌≡◌, ◌++◌, flat_map, take}
use Rattle.hypertext.specs.Segments.{segment_byte}
use Rattle.hypertext.proofs.segments.push_segment.Given as goal

abbrev pub invariant-loop-byte : goal.invariant-loop-byte
invariant-loop-byte l = l.bytes.items ≡ l.fn.bytes.items ++ flat_map segment_byte (take l.byte-index l.text)
