-- The links of pages.
use Rattle.std.specs.Prelude.{ℕ, ◌==◌, ◌||◌, Bool, List, [], ◌∷◌, ◌++◌, codes, if◌then◌else◌}
use Rattle.std.specs.Char.{is_ascii_alphanumeric}
use Rattle.std.specs.List.{flat_map}
use Rattle.form_urlencoded.specs.Form.{append_pair}
use Rattle.percent_encoding.specs.Percent.{percent_encode_byte}

-- an unreserved character (RFC 3986, section 2.3): a letter, a digit, or one of - . _ ~
abbrev pub is_unreserved : ℕ → Bool
is_unreserved b = is_ascii_alphanumeric b || (b == 45 || (b == 46 || (b == 95 || b == 126)))

abbrev pub escaped_byte : ℕ → List ℕ
escaped_byte b = if is_unreserved b then b ∷ [] else percent_encode_byte b

-- a segment of a path: each byte but the unreserved ones as % and two hexadecimal digits
unfoldable pub escaped : List ℕ → List ℕ
escaped bytes = flat_map escaped_byte bytes

-- the link of a job's targets
abbrev pub job_link : List ℕ → List ℕ
job_link job = codes "/jobs/" ++ escaped job ++ codes "/targets"

-- the link of a job's targets that no list has
abbrev pub uncovered_link : List ℕ → List ℕ
uncovered_link job = codes "/jobs/" ++ escaped job ++ codes "/uncovered"

-- the link of what a collector holds of a job, its name written as in a form
abbrev pub collector_link : List ℕ → List ℕ → List ℕ
collector_link job name = job_link job ++ codes "?" ++ append_pair [] (codes "collector_id") name
