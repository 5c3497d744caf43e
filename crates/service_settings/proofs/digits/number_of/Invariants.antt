use Rattle.std.proofs.Common.{◌≡◌, ◌≤◌, drop}
use Rattle.service_settings.specs.Digits.{number_from}
use Rattle.service_settings.proofs.digits.number_of.Given as goal

abbrev pub invariant-loop-byte : goal.invariant-loop-byte
invariant-loop-byte l = record {
  read : number_from l.number (drop l.byte-index l.text) ≡ number_from 0 l.text;
  few : l.number ≤ l.most;
}
