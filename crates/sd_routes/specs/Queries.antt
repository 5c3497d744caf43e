-- What a query says.
use Rattle.std.specs.Prelude.{ℕ, List, [], ◌∷◌, codes, bytes_eq, Bool, true, false, Option, Some, None, Result, Ok, Err, option_and_then, if◌then◌else◌}
use Rattle.std.specs.Str.Lossy.{utf8_lossy}
use Rattle.form_urlencoded.specs.Form.{raw_pairs, decode}
use Rattle.sd_routes.specs.Decimals.{decimal_in}
use Rattle.sd_routes.specs.declared.request_error.RequestError.{RequestError}
use Rattle.sd_routes.specs.declared.request_error.RequestError.TheVariants.{Shape}

-- a name or a value as text
abbrev pub text_of : List ℕ → List ℕ
text_of encoded = utf8_lossy (decode encoded)

-- the value of the first pair of this name
abbrev pub first_named : List ℕ → List (List ℕ × List ℕ) → Option (List ℕ)
first_named name [] = None
first_named name (pair ∷ pairs) = if bytes_eq (text_of pair.0) name then Some (text_of pair.1) else first_named name pairs

-- the first value of this name
abbrev pub value_in : List ℕ → List ℕ → Option (List ℕ)
value_in name query = first_named name (raw_pairs query)

-- the same of a query that there may be
abbrev pub value_of : List ℕ → Option (List ℕ) → Option (List ℕ)
value_of name query = option_and_then (value_in name) query

-- a flag is `true` or `false`, and where it is left out, this
abbrev pub flag_spelled : Bool → Option (List ℕ) → Result Bool RequestError
flag_spelled default None = Ok default
flag_spelled default (Some text) = if bytes_eq text (codes "true") then Ok true else (if bytes_eq text (codes "false") then Ok false else Err Shape)

-- the flag of this name
abbrev pub flag_of : List ℕ → Bool → Option (List ℕ) → Result Bool RequestError
flag_of name default query = flag_spelled default (value_of name query)

-- the number that the first value of this name writes in decimal, where it is at most this
abbrev pub number_of : ℕ → List ℕ → Option (List ℕ) → Option ℕ
number_of most name query = option_and_then (decimal_in most) (value_of name query)
