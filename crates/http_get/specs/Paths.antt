-- Paths of requests (RFC 3986, section 3.3): what stands there as it is, and the rest escaped (section 2.1).
use Rattle.std.specs.Prelude.{ℕ, List, [], ◌∷◌, ◌++◌, Bool, ◌||◌, ◌==◌, codes, if◌then◌else◌}
use Rattle.std.specs.Char.{is_ascii_alphanumeric}
use Rattle.std.specs.List.{flat_map, list_any}
use Rattle.percent_encoding.specs.Percent.{percent_encode_byte}

-- a letter or a digit of ASCII, another unreserved byte, a slash, or what else may stand between slashes
abbrev pub is_path_byte : ℕ → Bool
is_path_byte b = is_ascii_alphanumeric b || list_any (λ c. c == b) (codes "-._~/:@!$&'()*+,;=")

-- as it is, or `%` and two hexadecimal digits
abbrev pub path_byte : ℕ → List ℕ
path_byte b = if is_path_byte b then b ∷ [] else percent_encode_byte b

-- the slash that a path lacks in front
abbrev pub slash_before : List ℕ → List ℕ
slash_before [] = codes "/"
slash_before (b ∷ bs) = if b == 47 then [] else codes "/"

abbrev pub with_slash : List ℕ → List ℕ
with_slash text = slash_before text ++ text

-- with a slash in front, and what may not stand in a path escaped
abbrev pub escaped_path : List ℕ → List ℕ
escaped_path text = flat_map path_byte (with_slash text)
