-- A journal that was sealed by hand: its lines have digests anew, and its first line says so.
use Rattle.std.specs.Prelude.{◌≡◌, ℕ, List, [], ◌∷◌, Option, Ok, option_map, codes, if◌then◌else◌}
use Rattle.std.specs.Str.{bytes_eq}
use Rattle.serde_json.specs.Data.{Data, string, object, put}
use Rattle.serde_json.specs.Find.{as_object}
use Rattle.replay_lines.specs.Configurations.{opened}
use Rattle.replay_lines.specs.Resumes.{resumed}
use Rattle.replay_lines.specs.declared.resuming.Resumption.{Resumption}
use Rattle.sealed_lines.specs.Chains.{sealed, start}
use Rattle.sealed_lines.specs.Lines.{HasNoFeed, lines_in}
use Rattle.sealed_lines.specs.Reading.{unquoted_lines, unsealed}
use Rattle.sealed_lines.specs.declared.unsealing.PlainLines.{PlainLines}

-- an object with the member that says it, in place of one that it may have
abbrev pub with_note : Data → Option Data
with_note d = option_map (λ ms. object (put (codes "sealed") (string (codes "by hand")) ms)) (as_object d)

-- the lines that are not empty
abbrev pub filled : List (List ℕ) → List (List ℕ)
filled [] = []
filled (line ∷ lines) = if bytes_eq line [] then filled lines else line ∷ filled lines

-- the bytes are another first line that opens the same, and the other lines of the text that are not empty, with their digests
pub record IsSealedFrom (text bytes : List ℕ) : Type 0 where
  pub first : List ℕ
  pub others : List (List ℕ)
  pub noted : List ℕ
  pub cut : lines_in text ≡ first ∷ others
  pub opens : opened noted ≡ opened first
  pub one_line : HasNoFeed noted
  pub form : bytes ≡ sealed start (noted ∷ filled others)

-- Its digests are right, and without them it leads where the journal leads of which it was made, whatever digests that has.
pub record IsSealedByHand (journal bytes : List ℕ) : Type 0 where
  pub plain : PlainLines
  pub reads : unsealed bytes ≡ Ok plain
  pub resumption : Resumption
  pub from : resumed (unquoted_lines (lines_in journal)) ≡ Ok resumption
  pub leads : resumed plain.text ≡ Ok resumption
