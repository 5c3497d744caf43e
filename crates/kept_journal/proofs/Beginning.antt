-- A journal that has just begun leads to the state that its first line opens.
use Rattle.std.proofs.Common.{ℕ, List, [], ◌∷◌, Bool, Option, Some, refl, sym, subst}
use Rattle.allocation_core.specs.State.{State}
use Rattle.durable_journal.specs.Beginnings.{IsBegunAnew, IsLine, Opens}
use Rattle.durable_journal.specs.Events.{SaysEvents}
use Rattle.durable_journal.specs.declared.beginning.Begun.{Begun}
use Rattle.durable_journal.specs.declared.beginning.FirstLine.{FirstLine}
use Rattle.durable_journal.proofs.FileTexts.{begins_file}
use Rattle.sealed_lines.specs.Chains.{behind, sealed, start}
use Rattle.sealed_lines.specs.Lines.{with_line}
use Rattle.sealed_lines.specs.declared.chain.Chain.{Chain}
use Rattle.kept_journal.specs.Keeping.{HasEntries, HasJournal}

says_none : SaysEvents [] []
unfolding SaysEvents
says_none = refl

line_leads : (first : FirstLine) (m : State) (line : List ℕ) → Opens (Some m) first → (says : IsLine first line) → HasJournal m [] (sealed start (line ∷ [])) (Some (behind start line))
line_leads first m line opens says =
    record {
      text = with_line line [];
      first = m;
      earlier = [];
      file = begins_file line says.one_line;
      journal = record { first = line; lines = []; whole = refl; one_line = says.one_line; opens = opens line says; says = says_none };
      leads = refl;
    }

pub begun_leads :
    {F : Type 0} (tells : Bool) (contents : F → Option (List ℕ)) (first : FirstLine) (m : State) (begun : Begun F) → IsBegunAnew tells contents first begun → Opens (Some m) first → HasEntries tells m [] (contents begun.file) (Some begun.chain)
begun_leads tells contents first m begun is opens told = (
  sealed start (is.line ∷ []),
  is.form told,
  subst (λ (chain : Chain). HasJournal m [] (sealed start (is.line ∷ [])) (Some chain)) (sym is.chain) (line_leads first m is.line opens is.says),
)
