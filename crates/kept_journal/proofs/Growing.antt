-- Files that grow by the lines of entries.
use Rattle.std.proofs.Common.{◌≡◌, ℕ, List, [], ◌++◌, Bool, Option, Some, None, refl, ap, sym, subst, ◌∙◌, append_assoc, append-nil}
use Rattle.std.specs.Io.KnownBytes.{Appends}
use Rattle.allocation_core.specs.Runs.{state_of}
use Rattle.allocation_core.specs.State.{State}
use Rattle.allocation_core.proofs.RunLemmas.{state_of_append}
use Rattle.durable_journal.specs.Events.{AreSaid, event_lines, events_text}
use Rattle.durable_journal.specs.Files.{bytes_of, chain_past}
use Rattle.durable_journal.specs.Journals.{IsJournal}
use Rattle.durable_journal.specs.Kept.{kept_in}
use Rattle.durable_journal.proofs.EventLines.{kept_parts}
use Rattle.durable_journal.proofs.FileTexts.{grows_file}
use Rattle.durable_journal.proofs.Refused.{leave_out_refused}
use Rattle.fleet_events.specs.declared.event.Event.{Event}
use Rattle.journal_entries.specs.Legal.{IsLegal}
use Rattle.journal_entries.specs.declared.entry.Entry.{Entry}
use Rattle.sealed_lines.specs.declared.chain.Chain.{Chain}
use Rattle.kept_journal.specs.Keeping.{HasEntries, HasJournal}

journal_grows : (opened : State) (entries more : List Entry) (bytes : List ℕ) (last : Option Chain) → HasJournal opened entries bytes last → AreSaid (kept_in more)
    → HasJournal opened (entries ++ more) (bytes ++ bytes_of last (event_lines (kept_in more))) (chain_past last (event_lines (kept_in more)))
journal_grows opened entries more bytes last h said =
    let grown = grows_file bytes h.text last h.first (h.earlier ++ kept_in entries) (kept_in more) h.journal h.file said in
    let same : (h.earlier ++ kept_in entries) ++ kept_in more ≡ h.earlier ++ kept_in (entries ++ more) =
    append_assoc h.earlier (kept_in entries) (kept_in more) ∙ ap (λ (es : List Event). h.earlier ++ es) (sym (kept_parts entries more)) in
    record {
      text = h.text ++ events_text (kept_in more);
      first = h.first;
      earlier = h.earlier;
      file = grown.0;
      journal = subst (λ (es : List Event). IsJournal (h.text ++ events_text (kept_in more)) h.first es) same grown.1;
      leads = h.leads;
    }

appended : (opened : State) (entries more : List Entry) (known : List ℕ) (new : Option (List ℕ)) (last : Option Chain)
    → HasJournal opened entries known last → AreSaid (kept_in more) → Appends (Some known) new (bytes_of last (event_lines (kept_in more)))
    → (longer : List ℕ) × (new ≡ Some longer) × HasJournal opened (entries ++ more) longer (chain_past last (event_lines (kept_in more)))
appended opened entries more known None last h said a = absurd a
appended opened entries more known (Some longer) last h said a =
    (longer, refl, subst (λ (b : List ℕ). HasJournal opened (entries ++ more) b (chain_past last (event_lines (kept_in more)))) (sym a) (journal_grows opened entries more known last h said))

-- a file with the lines of some entries has those of more, once these are appended
pub entries_grow : (tells : Bool) (opened : State) (entries more : List Entry) (old new : Option (List ℕ)) (last : Option Chain)
    → HasEntries tells opened entries old last → AreSaid (kept_in more) → Appends old new (bytes_of last (event_lines (kept_in more)))
    → HasEntries tells opened (entries ++ more) new (chain_past last (event_lines (kept_in more)))
entries_grow tells opened entries more old new last h said a told =
    let known = h told in
    appended opened entries more known.0 new last known.2 said (subst (λ (bytes : Option (List ℕ)). Appends bytes new (bytes_of last (event_lines (kept_in more)))) known.1 a)

-- where they have no line, it stays as it is
pub entries_stay : (tells : Bool) (opened : State) (entries more : List Entry) (bytes : Option (List ℕ)) (last : Option Chain)
    → HasEntries tells opened entries bytes last → AreSaid (kept_in more) → bytes_of last (event_lines (kept_in more)) ≡ []
    → HasEntries tells opened (entries ++ more) bytes (chain_past last (event_lines (kept_in more)))
entries_stay tells opened entries more bytes last h said none told =
    let known = h told in (
      known.0,
      known.1,
      subst (λ (b : List ℕ). HasJournal opened (entries ++ more) b (chain_past last (event_lines (kept_in more)))) (ap (λ (b : List ℕ). known.0 ++ b) none ∙ append-nil known.0) (journal_grows opened entries more known.0 last known.2 said),
    )

journal_ends : (opened end : State) (entries : List Entry) (bytes : List ℕ) (last : Option Chain) → HasJournal opened entries bytes last → IsLegal opened entries end → HasJournal end [] bytes last
journal_ends opened end entries bytes last h legal =
    record {
      text = h.text;
      first = h.first;
      earlier = h.earlier ++ kept_in entries;
      file = h.file;
      journal = subst (λ (es : List Event). IsJournal h.text h.first es) (sym (append-nil (h.earlier ++ kept_in entries))) h.journal;
      leads = state_of_append h.first h.earlier (kept_in entries) ∙ ap (λ (m : State). state_of m (kept_in entries)) h.leads ∙ leave_out_refused opened end entries legal;
    }

-- a file that has a desk's whole journal leads to the state that the desk ends with
pub entries_end : (tells : Bool) (opened end : State) (entries : List Entry) (bytes : Option (List ℕ)) (last : Option Chain)
    → HasEntries tells opened entries bytes last → IsLegal opened entries end → HasEntries tells end [] bytes last
entries_end tells opened end entries bytes last h legal told =
    let known = h told in (known.0, known.1, journal_ends opened end entries known.0 last known.2 legal)
