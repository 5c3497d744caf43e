-- Where a job stands in the configuration.
use Rattle.std.specs.Prelude.{ℕ, List, Option}
use Rattle.std.specs.List.{position_from}
use Rattle.std.specs.Str.{bytes_eq}

abbrev pub place_of : List ℕ → List (List ℕ) → Option ℕ
place_of job names = position_from (λ (name : List ℕ). bytes_eq name job) 0 names
