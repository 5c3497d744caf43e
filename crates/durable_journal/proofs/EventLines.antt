-- Lines of events, one after the other.
use Rattle.std.proofs.Common.{◌≡◌, ℕ, ◌+◌, ◌<◌, Bool, true, false, cond, List, [], ◌∷◌, ◌++◌, length, get_or, take, Option, Some, None, ap, sym, subst, ◌∙◌, refl, append_assoc, append-nil}
use Rattle.std.proofs.lemmas.List.{take_more}
use Rattle.journal_entries.specs.declared.entry.Entry.{Entry}
use Rattle.fleet_events.specs.Writing.{event_text}
use Rattle.fleet_events.specs.declared.event.Event.{Event}
use Rattle.sealed_lines.specs.Lines.{AreLines, with_line, written}
use Rattle.sealed_lines.specs.declared.chain.Chain.{Chain}
use Rattle.durable_journal.specs.Events.{AreSaid, IsLineOf, SaysAll, SaysEvents, event_lines, events_text}
use Rattle.durable_journal.specs.Files.{bytes_of, chain_past}
use Rattle.durable_journal.specs.Kept.{KeptInParts, is_kept, kept_in}
use Rattle.durable_journal.proofs.Bytes.{bytes_more, chain_more}

pub says_more : (text more : List ℕ) (events others : List Event) → SaysEvents text events → SaysEvents more others → SaysEvents (text ++ more) (events ++ others)
unfolding SaysEvents
says_more text more [] others says says_others = subst (λ (t : List ℕ). SaysEvents (t ++ more) others) (sym says) says_others
says_more text more (event ∷ events) others says says_others =
    (says.0, says.1 ++ more, ap (λ (t : List ℕ). t ++ more) says.2 ∙ append_assoc says.0 (10 ∷ says.1) more, says.3, says_more says.1 more events others says.4 says_others)

-- ---- events that their lines say

pub said_more : (events others : List Event) → AreSaid events → AreSaid others → AreSaid (events ++ others)
said_more [] others said more = more
said_more (event ∷ events) others said more = (said.0, said_more events others said.1 more)

pub said_front : (events others : List Event) → AreSaid (events ++ others) → AreSaid events
said_front [] others said = tt
said_front (event ∷ events) others said = (said.0, said_front events others said.1)

pub says_all : SaysAll
unfolding SaysEvents
says_all [] said = refl
says_all (event ∷ events) said = (event_text event, events_text events, refl, said.0, says_all events said.1)

pub are_lines : (events : List Event) → AreSaid events → AreLines (event_lines events)
are_lines [] said = tt
are_lines (event ∷ events) said = (said.0.one_line, are_lines events said.1)

pub text_is_written : (events : List Event) → events_text events ≡ written (event_lines events)
text_is_written [] = refl
text_is_written (event ∷ events) = ap (with_line (event_text event)) (text_is_written events)

pub text_more : (events others : List Event) → events_text (events ++ others) ≡ events_text events ++ events_text others
text_more [] others = refl
text_more (event ∷ events) others = ap (with_line (event_text event)) (text_more events others) ∙ sym (append_assoc (event_text event) (10 ∷ events_text events) (events_text others))

pub lines_more : (events others : List Event) → event_lines (events ++ others) ≡ event_lines events ++ event_lines others
lines_more [] others = refl
lines_more (event ∷ events) others = ap (λ (ls : List (List ℕ)). event_text event ∷ ls) (lines_more events others)

-- ---- one more entry

kept_by : (b : Bool) (event : Event) (events more : List Event) → cond b (event ∷ events ++ more) (events ++ more) ≡ cond b (event ∷ events) events ++ more
kept_by true event events more = refl
kept_by false event events more = refl

pub kept_parts : KeptInParts
kept_parts [] more = refl
kept_parts (entry ∷ entries) more =
    ap (λ (es : List Event). cond (is_kept entry.answer) (entry.event ∷ es) es) (kept_parts entries more) ∙ kept_by (is_kept entry.answer) entry.event (kept_in entries) (kept_in more)

kept_next : (entries : List Entry) (i : ℕ) (d entry : Entry) → i < length entries → entry ≡ get_or entries i d → kept_in (take (i + 1) entries) ≡ kept_in (take i entries) ++ kept_in (entry ∷ [])
kept_next entries i d entry inside e =
    ap kept_in (take_more entries i d inside) ∙ kept_parts (take i entries) (get_or entries i d ∷ []) ∙ ap (λ (x : Entry). kept_in (take i entries) ++ kept_in (x ∷ [])) (sym e)

pub kept_one : (entry : Entry) → is_kept entry.answer ≡ true → kept_in (entry ∷ []) ≡ entry.event ∷ []
kept_one entry h = ap (λ b. cond b (entry.event ∷ []) []) h

pub kept_none : (entry : Entry) → is_kept entry.answer ≡ false → kept_in (entry ∷ []) ≡ []
kept_none entry h = ap (λ b. cond b (entry.event ∷ []) []) h

-- the lines of some entries, and then that of one more
pub record AreWritten (chain : Option Chain) (events : List Event) (bytes : List ℕ) (last : Option Chain) : Type 0 where
  pub form : bytes ≡ bytes_of chain (event_lines events)
  pub chain_is : last ≡ chain_past chain (event_lines events)
  pub says : AreSaid events

pub none_written : (chain : Option Chain) (bytes : List ℕ) → bytes ≡ [] → AreWritten chain [] bytes chain
none_written None bytes e = record { form = e; chain_is = refl; says = tt }
none_written (Some c) bytes e = record { form = e; chain_is = refl; says = tt }

event_written : (chain last next : Option Chain) (events : List Event) (event : Event) (bytes more : List ℕ) → AreWritten chain events bytes last → more ≡ bytes ++ bytes_of last (event_text event ∷ [])
    → next ≡ chain_past last (event_text event ∷ []) → IsLineOf (event_text event) event → AreWritten chain (events ++ event ∷ []) more next
event_written chain last next events event bytes more before added chained said =
    record {
      form =
          added ∙ ap (λ (t : List ℕ). t ++ bytes_of last (event_text event ∷ [])) before.form ∙ ap (λ (c : Option Chain). bytes_of chain (event_lines events) ++ bytes_of c (event_text event ∷ [])) before.chain_is
          ∙ sym (bytes_more chain (event_lines events) (event_text event ∷ [])) ∙ ap (bytes_of chain) (sym (lines_more events (event ∷ [])));
      chain_is =
          chained ∙ ap (λ (c : Option Chain). chain_past c (event_text event ∷ [])) before.chain_is ∙ sym (chain_more chain (event_lines events) (event_text event ∷ []))
          ∙ ap (chain_past chain) (sym (lines_more events (event ∷ [])));
      says = said_more events (event ∷ []) before.says (said, tt);
    }

pub kept_written : (chain last next : Option Chain) (entries : List Entry) (i : ℕ) (d entry : Entry) (bytes more : List ℕ) → i < length entries → entry ≡ get_or entries i d → is_kept entry.answer ≡ true
    → AreWritten chain (kept_in (take i entries)) bytes last → more ≡ bytes ++ bytes_of last (event_text entry.event ∷ []) → next ≡ chain_past last (event_text entry.event ∷ []) → IsLineOf (event_text entry.event) entry.event
    → AreWritten chain (kept_in (take (i + 1) entries)) more next
kept_written chain last next entries i d entry bytes more inside e kept before added chained said =
    subst (λ (es : List Event). AreWritten chain es more next) (sym (kept_next entries i d entry inside e ∙ ap (λ (es : List Event). kept_in (take i entries) ++ es) (kept_one entry kept)))
    (event_written chain last next (kept_in (take i entries)) entry.event bytes more before added chained said)

pub refused_written : (chain last : Option Chain) (entries : List Entry) (i : ℕ) (d entry : Entry) (bytes : List ℕ) → i < length entries → entry ≡ get_or entries i d → is_kept entry.answer ≡ false
    → AreWritten chain (kept_in (take i entries)) bytes last → AreWritten chain (kept_in (take (i + 1) entries)) bytes last
refused_written chain last entries i d entry bytes inside e refused before =
    subst (λ (es : List Event). AreWritten chain es bytes last)
    (sym (kept_next entries i d entry inside e ∙ ap (λ (es : List Event). kept_in (take i entries) ++ es) (kept_none entry refused) ∙ append-nil (kept_in (take i entries)))) before

-- as the loop over the entries meets them
pub kept_on : (chain last added next : Option Chain) (entries : List Entry) (i : ℕ) (d entry : Entry) (bytes longer more : List ℕ) → i < length entries → entry ≡ get_or entries i d → is_kept entry.answer ≡ true
    → AreWritten chain (kept_in (take i entries)) bytes last → longer ≡ bytes ++ bytes_of last (event_text entry.event ∷ []) → added ≡ chain_past last (event_text entry.event ∷ []) → IsLineOf (event_text entry.event) entry.event
    → more ≡ longer → next ≡ added → AreWritten chain (kept_in (take (i + 1) entries)) more next
kept_on chain last added next entries i d entry bytes longer more inside e kept before form chained said same same_chain =
    kept_written chain last next entries i d entry bytes more inside e kept before (same ∙ form) (same_chain ∙ chained) said

pub refused_on : (chain last next : Option Chain) (entries : List Entry) (i : ℕ) (d entry : Entry) (bytes more : List ℕ) → i < length entries → entry ≡ get_or entries i d → is_kept entry.answer ≡ false
    → AreWritten chain (kept_in (take i entries)) bytes last → more ≡ bytes → next ≡ last → AreWritten chain (kept_in (take (i + 1) entries)) more next
refused_on chain last next entries i d entry bytes more inside e refused before same same_chain =
    subst (λ (b : List ℕ). AreWritten chain (kept_in (take (i + 1) entries)) b next) (sym same)
    (subst (λ (o : Option Chain). AreWritten chain (kept_in (take (i + 1) entries)) bytes o) (sym same_chain) (refused_written chain last entries i d entry bytes inside e refused before))
