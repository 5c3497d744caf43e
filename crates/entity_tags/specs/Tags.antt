-- The entity tag of a text, and where one is shown.
use Rattle.std.specs.Prelude.{◌≡◌, ℕ, ◌+◌, List, ◌++◌, Bool, true, false, Option, Some, None, codes, take, length}
use Rattle.hex.specs.Hex.{encode_lower}
use Rattle.http_header.specs.FieldValue.{FieldValue, plain_value}
use Rattle.memchr.specs.Find.{OccursAt, Nowhere}
use Rattle.sha2.specs.Sha256.{sha256}

abbrev pub quoted : List ℕ → List ℕ
quoted digits = codes "\"" ++ (digits ++ codes "\"")

-- the first 16 bytes of the digest in hex digits, between quotation marks
abbrev pub tag_of : List ℕ → List ℕ
tag_of text = quoted (encode_lower (take 16 (sha256 text)))

-- the tag of a text, if there is one
abbrev pub IfTagOf : List ℕ → Option FieldValue → Type 0
IfTagOf text None = Unit {0}
IfTagOf text (Some tag) = tag ≡ plain_value (tag_of text)

-- the tag stands in what is shown, or it stands nowhere in it
abbrev pub Shows : List ℕ → List ℕ → Bool → Type 0
Shows shown tag true = (k : ℕ) × OccursAt shown tag k
Shows shown tag false = Nowhere (OccursAt shown tag) 0 (length shown + 1)
