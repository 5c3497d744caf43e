-- JSON texts (RFC 8259, as `serde_json` reads them).
use Rattle.std.specs.Prelude.{◌≡◌, ℕ, ◌==◌, Bool, List, Option, Some, None, if◌then◌else◌}
use Rattle.std.specs.Str.{is_utf8}
use Rattle.json.specs.Token.{Token}
use Rattle.json.specs.Tree.{json_tokens}
use Rattle.serde_json.specs.Data.{Data}
use Rattle.serde_json.specs.Read.{of_json, read}
use Rattle.serde_json.specs.Written.{outline}

-- the value that the bytes say: they are UTF-8, and the text is JSON
unfoldable pub json_of : List ℕ → Option Data
json_of bytes = if is_utf8 bytes then read bytes else None

-- the bytes are a text that says this value
abbrev pub ReadsAs : List ℕ → Data → Type 0
ReadsAs bytes d = json_of bytes ≡ Some d

-- the bytes are a JSON text
abbrev pub IsJson : List ℕ → Type 0
IsJson bytes = (d : Data) × ReadsAs bytes d

abbrev pub is_line_feed : ℕ → Bool
is_line_feed b = b == 10

-- the tokens of a value that has no float
abbrev pub tokens_of : Data → List Token
tokens_of d = json_tokens (outline d)

-- these tokens are read as the value
abbrev pub ReadsTokens : Data → Type 0
ReadsTokens d = of_json (outline d) ≡ Some d
