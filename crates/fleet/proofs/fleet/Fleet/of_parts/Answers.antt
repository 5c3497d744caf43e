use Rattle.std.proofs.Common.{◌≡◌, false, sym, ◌∙◌, true≢false}
use Rattle.fleet.specs.KnownTarget.{same_known}
use Rattle.fleet.specs.Parts.{are_distinct}
use Rattle.fleet.proofs.FaultLemmas.{apart_from}
use Rattle.fleet.proofs.fleet.Fleet.of_parts.Goals as goal

pub unreachable-requires : goal.unreachable-requires
unreachable-requires c =
    let none : are_distinct c.args.known.items ≡ false = rw c.in-None.is at c.in_ok-known.ensures.none in
    true≢false (sym (apart_from same_known c.args.known.items c.requires.kept.orderly.once) ∙ none)
