use Rattle.std.proofs.Common.{◌≡◌}
use Rattle.price_certificate.specs.Problem.{bins_of}
use Rattle.assign_engine.specs.Seats.{IsStart}
use Rattle.assign_engine.proofs.start.kept_seating.Given as goal

abbrev pub invariant-loop-item : goal.invariant-loop-item
invariant-loop-item l = record { start : IsStart l.instance l.item l.seating.seats; bins : l.seating.bins ≡ bins_of l.instance }
