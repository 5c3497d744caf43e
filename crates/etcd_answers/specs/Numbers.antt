-- Numbers of 64 bits, which etcd's gateway writes as texts.
use Rattle.std.specs.Prelude.{ℕ, ◌&&◌, ◌^◌, List, Option, Some, None, length, nat_lt, option_and_then, if◌then◌else◌}
use Rattle.std.specs.Char.{digit_value}
use Rattle.std.specs.List.{list_all}
use Rattle.std.specs.Str.Parse.{digits_value, without_leading_plus}
use Rattle.serde_json.specs.Data.{Data}
use Rattle.serde_json.specs.Find.{as_str, get}

-- decimal digits, as Rust's `parse` reads them
abbrev pub long_said : List ℕ → Option ℕ
long_said text =
    let digits = without_leading_plus text in
    if nat_lt 0 (length digits) && list_all (λ d. nat_lt (digit_value d) 10) digits && nat_lt (digits_value 10 digits) 18446744073709551616 then Some (digits_value 10 digits) else None

abbrev pub long_in : List ℕ → Data → Option ℕ
long_in name d = option_and_then long_said (option_and_then as_str (get name d))
