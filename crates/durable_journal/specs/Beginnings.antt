-- The first line of a journal that is written in pieces.
use Rattle.std.specs.Prelude.{◌≡◌, ◌<◌, ℕ, List, [], ◌∷◌, length, nat_eq, AllPairs, Option, Some, Bool, true}
use Rattle.std.specs.Io.Iter.{u64_saturate}
use Rattle.std.specs.Io.KnownBytes.{Appends}
use Rattle.std.specs.List.{starts_with}
use Rattle.allocation_core.specs.Renewed.{renewed}
use Rattle.allocation_core.specs.State.{State, current_pairs}
use Rattle.fleet.specs.declared.job.JobSpec.{JobSpec}
use Rattle.json_pieces.specs.Texts.{IsTextOf}
use Rattle.replay_lines.specs.Configurations.{opened}
use Rattle.sealed_lines.specs.Chains.{behind, sealed, start}
use Rattle.serde_json.specs.Data.{Data}
use Rattle.serde_json.specs.View.{view}
use Rattle.durable_journal.specs.Configured.{OpensAgain}
use Rattle.durable_journal.specs.Marks.{mark_text}
use Rattle.durable_journal.specs.declared.beginning.Begun.{Begun}
use Rattle.durable_journal.specs.declared.beginning.FirstLine.{FirstLine}

-- the value that it says
abbrev pub value_of : FirstLine → Data
value_of first = view first.value

-- the bytes are its text, which has no line feed
abbrev pub IsLine : FirstLine → List ℕ → Type 0
IsLine first line = IsTextOf (value_of first) line

-- its text opens this
abbrev pub Opens : Option State → FirstLine → Type 0
Opens state first = (line : List ℕ) → IsLine first line → opened line ≡ state

-- its text opens the state again
abbrev pub OpensWhole : State → List ℕ → FirstLine → Type 0
OpensWhole m document first = (line : List ℕ) → IsLine first line → OpensAgain m document line

-- Its text opens exactly the state, where that is a renewed one. The current pairs of every core ascend.
abbrev pub OpensRenewed : State → FirstLine → Type 0
OpensRenewed m first =
    (before : State) (jobs : List JobSpec) → AllPairs (λ (a b : ℕ × ℕ). a.0 < b.0) (current_pairs before) → m ≡ renewed before jobs m.report_rounds → Opens (Some m) first

-- its text begins with the mark
abbrev pub BeginsMarked : FirstLine → Type 0
BeginsMarked first = (line : List ℕ) → IsLine first line → starts_with nat_eq line mark_text ≡ true

-- The text stands in the file, behind what the file had, with its digest and its line feed.
pub record IsBegun {F : Type 0} (contents : F → Option (List ℕ)) (first : FirstLine) (old : F) (begun : Begun F) : Type 0 where
  pub line : List ℕ
  pub says : IsLine first line
  pub form : Appends (contents old) (contents begun.file) (sealed start (line ∷ []))
  pub chain : begun.chain ≡ behind start line
  pub bytes : begun.bytes ≡ u64_saturate (length (sealed start (line ∷ [])))

-- The text stands alone in the file, with its digest and its line feed, where the file tells its bytes.
pub record IsBegunAnew {F : Type 0} (tells : Bool) (contents : F → Option (List ℕ)) (first : FirstLine) (begun : Begun F) : Type 0 where
  pub line : List ℕ
  pub says : IsLine first line
  pub form : tells ≡ true → contents begun.file ≡ Some (sealed start (line ∷ []))
  pub chain : begun.chain ≡ behind start line
