-- Numbers in decimal, as Rust's `parse` reads them.
use Rattle.std.specs.Prelude.{ℕ, ◌+◌, ◌-◌, min, ◌&&◌, List, Option, Some, None, length, nat_lt, if◌then◌else◌}
use Rattle.std.specs.Char.{digit_value}
use Rattle.std.specs.List.{list_all}
use Rattle.std.specs.Option.{option_and_then}
use Rattle.std.specs.Str.Parse.{digits_value, without_leading_plus}
use Rattle.agent_core.specs.declared.report.Head.{Head}

-- some decimal digits, after a plus or without one, of a number of at most 64 bits
abbrev pub number_said : List ℕ → Option ℕ
number_said text =
    let digits = without_leading_plus text in
    if nat_lt 0 (length digits) && list_all (λ d. nat_lt (digit_value d) 10) digits && nat_lt (digits_value 10 digits) 18446744073709551616 then Some (digits_value 10 digits) else None

abbrev pub small_said : List ℕ → Option ℕ
small_said text = option_and_then (λ n. if nat_lt n 4294967296 then Some n else None) (number_said text)

-- the head of a list, of its headers: x-collector, x-allocator-epoch, x-allocation-number, x-scrape-round
abbrev pub head_said : List ℕ → List ℕ → List ℕ → List ℕ → Option Head
head_said collector epoch number round =
    option_and_then (λ c. option_and_then (λ e. option_and_then (λ n. option_and_then (λ r. Some (record { collector = c; epoch = e; number = n; round = r })) (small_said round)) (small_said number)) (number_said epoch)) (small_said collector)

-- what is left of a round from when its age was asked for, by x-scrape-round-age and x-scrape-round-length
abbrev pub until_said : ℕ → List ℕ → List ℕ → Option ℕ
until_said at age length = option_and_then (λ a. option_and_then (λ l. Some (min (at + (l - a)) 18446744073709551615)) (number_said length)) (number_said age)
