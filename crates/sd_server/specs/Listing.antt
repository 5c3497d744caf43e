-- The text of a list of targets.
use Rattle.std.specs.Prelude.{◌≡◌, ◌<◌, ℕ, List, All, Option, Some, None, length}
use Rattle.journal_entries.specs.declared.entry.Entry.{Entry as Line}
use Rattle.alloc_desk.specs.History.{History}
use Rattle.sd_routes.specs.declared.list_head.ListHead.{ListHead}
use Rattle.sd_server.specs.Spans.{Span, OfSome, from_first}
use Rattle.sd_server.specs.Texts.{groups_text, list_text}

-- a text, and what it is the text of: the place of the job, the targets, and what had been seen of the journal
pub record Listing : Type 0 where
  pub place : ℕ
  pub held : List ℕ
  pub text : List ℕ
  pub seen : List Line

-- all of these targets are known
abbrev pub AreKnown : History → List ℕ → Type 0
AreKnown h targets = All (λ (target : ℕ). target < length h.state.fleet.known) targets

-- of these targets, which are known, the text has the groups of those of the job at a place
abbrev pub AreGroups : ℕ → List ℕ → List ℕ → History → Type 0
AreGroups place held text h = (text ≡ groups_text place held h) × AreKnown h held

-- it has them as they are at some moment of the journal. What is known stays as it is, so they are the same at each later one
abbrev pub IsGroups : Span → ℕ → List ℕ → List ℕ → Type 0
IsGroups span place held text = OfSome (from_first span) (AreGroups place held text)

-- a text of the targets, if there is one
abbrev pub IfGroups : Span → ℕ → List ℕ → Option (List ℕ) → Type 0
IfGroups span place held None = Unit {0}
IfGroups span place held (Some text) = IsGroups span place held text

-- the text of a list with this head, acknowledged where that is told to, of these targets as they are at some moment at which they are
-- known
abbrev pub IsListText : Span → Option (List ℕ) → List ℕ → ListHead → ℕ → List ℕ → List ℕ → Type 0
IsListText span at job head place targets text = OfSome (from_first span) (λ h. (text ≡ list_text at job head place targets h) × AreKnown h targets)
