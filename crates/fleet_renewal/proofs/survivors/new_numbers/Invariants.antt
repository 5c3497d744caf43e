use Rattle.std.proofs.Common.{◌≡◌, ◌<◌, ◌≤◌, ℕ, length}
use Rattle.fleet.specs.Live.{count_below, mark_at}
use Rattle.fleet_renewal.specs.Renewed.{new_number}
use Rattle.fleet_renewal.specs.Tables.{number_in}
use Rattle.fleet_renewal.proofs.survivors.new_numbers.Given as goal

abbrev pub invariant-loop-target : goal.invariant-loop-target
invariant-loop-target l =
    record {
      count : l.count ≡ count_below (mark_at l.marks) l.target;
      most : l.count ≤ l.target;
      each : length l.numbers.items ≡ l.target;
      at : (k : ℕ) → k < l.target → number_in l.numbers.items k ≡ new_number (mark_at l.marks) k;
    }
