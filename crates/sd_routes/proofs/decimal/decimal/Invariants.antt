use Rattle.std.proofs.Common.{◌≡◌, ◌≤◌, drop}
use Rattle.sd_routes.specs.Decimals.{decimal_in, decimal_from}
use Rattle.sd_routes.proofs.decimal.decimal.Given as goal

abbrev pub invariant-loop-digit : goal.invariant-loop-digit
invariant-loop-digit l = record {
  left : decimal_in l.most l.fn.digits ≡ decimal_from l.most l.value (drop l.digit-index l.fn.digits);
  few : l.value ≤ l.most;
}
