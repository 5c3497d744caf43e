-- What is found in a document, or a text in its place.
use Rattle.std.specs.Prelude.{ℕ, List, Option, unwrap_or}
use Rattle.serde_json.specs.Data.{Data, string}

abbrev pub text_or : List ℕ → Option Data → Data
text_or text found = unwrap_or found (string text)
