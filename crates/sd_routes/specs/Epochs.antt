-- The epoch that a report names.
use Rattle.std.specs.Prelude.{ℕ, ◌==◌, Bool, true, Option, Some, None, option_map, option_and_then}
use Rattle.serde_json.specs.Data.{Data}
use Rattle.serde_json.specs.Find.{as_number, as_u64}

-- whether an epoch that is named is this one; nothing where what is named is no whole number of at most 64 bits. None needs to be named
abbrev pub is_epoch : ℕ → Option Data → Option Bool
is_epoch epoch None = Some true
is_epoch epoch (Some d) = option_map (λ named. named == epoch) (option_and_then as_u64 (as_number d))
