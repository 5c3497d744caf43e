-- The segment of a path that stands for a job or a collector.
use Rattle.std.specs.Prelude.{ℕ, ◌==◌, List, Option, Some, None, if◌then◌else◌}
use Rattle.std.specs.List.{before_first, after_first}
use Rattle.std.specs.Str.{is_utf8}
use Rattle.form_urlencoded.specs.Form.{decode}

-- what follows the first slash
abbrev pub past_slash : List ℕ → List ℕ
past_slash text = after_first (λ b. b == 47) text

-- what stands before the first slash
abbrev pub up_to_slash : List ℕ → List ℕ
up_to_slash text = before_first (λ b. b == 47) text

-- the second segment of a path, which begins with a slash
abbrev pub second_segment : List ℕ → List ℕ
second_segment path = up_to_slash (past_slash (past_slash path))

-- the text that bytes are, where they are UTF-8
unfoldable pub text_from : List ℕ → Option (List ℕ)
text_from bytes = if is_utf8 bytes then Some bytes else None

-- the text that a segment stands for, which is escaped as a form's value is (URL Standard, section 5.1): a `+` is a blank
abbrev pub text_in : List ℕ → Option (List ℕ)
text_in segment = text_from (decode segment)
