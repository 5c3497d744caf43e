-- Files of journals, and what is found of them after a crash.
use Rattle.std.proofs.Common.{◌≡◌, ℕ, ◌-◌, true, false, cond, List, [], ◌∷◌, ◌++◌, length, ◌<◌, Option, Some, None, Ok, inl, inr, refl, sym, ap, subst, ◌∙◌, arith, append_assoc}
use Rattle.std.proofs.lemmas.List.{length-append}
use Rattle.std.specs.List.{list_any}
use Rattle.json_values.specs.Texts.{is_line_feed}
use Rattle.json_values.proofs.OneLine.{one_line}
use Rattle.allocation_core.specs.State.{State}
use Rattle.fleet_events.specs.Writing.{event_data, event_text}
use Rattle.fleet_events.specs.declared.event.Event.{Event}
use Rattle.sealed_lines.specs.Chains.{behind, chain_after, seal, sealed, sealed_line, start}
use Rattle.sealed_lines.specs.Lines.{AreLines, with_line, written}
use Rattle.sealed_lines.specs.Reading.{is_sealed, read_as, unsealed}
use Rattle.sealed_lines.specs.declared.chain.Chain.{Chain}
use Rattle.sealed_lines.proofs.SealedTexts.{sealed_are_read, sealed_no_feed}
use Rattle.replay_lines.specs.Resumes.{resumed}
use Rattle.durable_journal.specs.Events.{AreSaid, SaysEvents, event_lines, events_text}
use Rattle.durable_journal.specs.Files.{AcceptsFile, BeginsFile, GrowsFile, IsFileOf, IsFoundIn, IsSealedFile, SurvivesInFile, bytes_of, chain_past}
use Rattle.durable_journal.specs.Journals.{IsJournal}
use Rattle.durable_journal.specs.Lines.{whole_part}
use Rattle.durable_journal.specs.Marks.{agrees_with_event, found_as, settled_at, torn_end}
use Rattle.durable_journal.specs.declared.recovering.Recovered.TheVariants.{Found}
use Rattle.durable_journal.proofs.Accepted.{accepted_by, event_agrees, torn_agrees, torn_alone, torn_behind}
use Rattle.durable_journal.proofs.Bytes.{after_more, are_more, kept_sealed, sealed_more, sealed_same, written_more}
use Rattle.durable_journal.proofs.Crashes.{grows, kept_journal, resumes, survives}
use Rattle.durable_journal.proofs.EventLines.{are_lines, said_front, says_all, text_is_written}
use Rattle.durable_journal.proofs.WholeParts.{cut, fed, keeps, none}

pub begins_file : BeginsFile
begins_file line absent = record { lines = line ∷ []; are = (absent, tt); whole = refl; says = refl; last = refl }

-- ---- what is appended

-- a plain file stays one
plain_more : (text more : List ℕ) (m : State) (events : List Event) → IsJournal text m events → is_sealed text ≡ false → is_sealed (text ++ more) ≡ false
plain_more text more m events j plain =
    ap (λ (t : List ℕ). is_sealed (t ++ more)) j.whole ∙ ap is_sealed (append_assoc j.first (10 ∷ j.lines) more) ∙ sealed_same j.first (j.lines ++ more) j.lines j.one_line ∙ ap is_sealed (sym j.whole) ∙ plain

pub sealed_grows : (bytes text : List ℕ) (chain : Chain) (events : List Event) → IsSealedFile bytes text chain → AreSaid events
    → IsSealedFile (bytes ++ sealed chain (event_lines events)) (text ++ events_text events) (chain_after chain (event_lines events))
sealed_grows bytes text chain events f said =
    let more = event_lines events in
    record {
      lines = f.lines ++ more;
      are = are_more f.lines more f.are (are_lines events said);
      whole = ap (λ (t : List ℕ). t ++ sealed chain more) f.whole ∙ ap (λ (c : Chain). sealed start f.lines ++ sealed c more) f.last ∙ sym (sealed_more start f.lines more);
      says = ap (λ (t : List ℕ). t ++ events_text events) f.says ∙ ap (λ (t : List ℕ). written f.lines ++ t) (text_is_written events) ∙ sym (written_more f.lines more);
      last = ap (λ (c : Chain). chain_after c more) f.last ∙ sym (after_more start f.lines more);
    }

file_grows : (bytes text : List ℕ) (chain : Option Chain) (m : State) (events others : List Event) → IsJournal text m events → IsFileOf bytes text chain → AreSaid others
    → IsFileOf (bytes ++ bytes_of chain (event_lines others)) (text ++ events_text others) (chain_past chain (event_lines others))
file_grows bytes text None m events others j f said =
    let same : bytes ++ written (event_lines others) ≡ text ++ events_text others = ap (λ (t : List ℕ). t ++ written (event_lines others)) f.0 ∙ ap (λ (t : List ℕ). text ++ t) (sym (text_is_written others)) in
    (same, ap is_sealed same ∙ plain_more text (events_text others) m events j (ap is_sealed (sym f.0) ∙ f.1))
file_grows bytes text (Some chain) m events others j f said = sealed_grows bytes text chain others f said

pub grows_file : GrowsFile
grows_file bytes text chain m events others j f said =
    (file_grows bytes text chain m events others j f said, grows text (events_text others) m events others j (says_all others said))

-- ---- what a crash leaves

-- the events of the whole lines among these
record BegunLines (chain : Chain) (front : List ℕ) (events : List Event) : Type 0 where
  done : List Event
  left : List Event
  part : events ≡ done ++ left
  is : whole_part front ≡ sealed chain (event_lines done)

begun_lines : (chain : Chain) (events : List Event) (front lost : List ℕ) → AreSaid events → front ++ lost ≡ sealed chain (event_lines events) → BegunLines chain front events
begun_lines chain [] [] lost said e = record { done = []; left = []; part = refl; is = refl }
begun_lines chain [] (b ∷ front) lost said e = cc
begun_lines chain (event ∷ events) front lost said e =
    let whole = sealed_line chain (event_text event) in
    let next = behind chain (event_text event) in
    elim (cut whole (sealed next (event_lines events)) front lost (sealed_no_feed chain (event_text event) said.0.one_line) (sym e)) as (λ x. BegunLines chain front (event ∷ events)) [
      | inl absent ↦ record { done = []; left = event ∷ events; part = refl; is = none front absent }
      | inr beyond ↦
          let rest = begun_lines next events beyond.more lost said.1 (sym beyond.ends) in
          record {
            done = event ∷ rest.done;
            left = rest.left;
            part = ap (λ (es : List Event). event ∷ es) rest.part;
            is = ap whole_part beyond.begins ∙ keeps whole beyond.more ∙ ap (with_line whole) rest.is;
          }
    ]

-- a sealed file is read as its text
found_sealed : (lines : List (List ℕ)) (bytes text : List ℕ) (chain : Chain) (torn : ℕ) → AreLines lines → bytes ≡ sealed start lines → text ≡ written lines → chain ≡ chain_after start lines → 0 < length text
    → settled_at bytes torn ≡ Found text (Some chain) (length bytes) torn
found_sealed [] bytes text chain torn are whole says last some = absurd (omega (arith, ap length says, some))
found_sealed (line ∷ lines) bytes text chain torn are whole says last some =
    let reads = sealed_are_read line lines are in
    let told : is_sealed bytes ≡ true = ap is_sealed whole ∙ reads.0 in
    let read : unsealed bytes ≡ Ok (read_as text chain) = ap unsealed whole ∙ reads.1 ∙ ap (λ (t : List ℕ). Ok (read_as t (chain_after start (line ∷ lines)))) (sym says) ∙ ap (λ (c : Chain). Ok (read_as text c)) (sym last) in
    ap (λ b. cond b (found_as (length bytes) torn (unsealed bytes)) (Found bytes None (length bytes) torn)) told ∙ ap (found_as (length bytes) torn) read

found_plain : (bytes : List ℕ) (torn : ℕ) → is_sealed bytes ≡ false → settled_at bytes torn ≡ Found bytes None (length bytes) torn
found_plain bytes torn plain = ap (λ b. cond b (found_as (length bytes) torn (unsealed bytes)) (Found bytes None (length bytes) torn)) plain

some_text : (text : List ℕ) (m : State) (events : List Event) → IsJournal text m events → 0 < length text
some_text text m events j = omega (arith, ap length j.whole, length-append j.first (10 ∷ j.lines))

survives_plain : (bytes text front lost : List ℕ) (m : State) (events others : List Event) → IsJournal text m events → IsFileOf bytes text None → AreSaid others
    → front ++ lost ≡ written (event_lines others) → IsFoundIn (bytes ++ front) m events others
survives_plain bytes text front lost m events others j f said e =
    let f_found = survives text front lost m events others j (subst (λ (t : List ℕ). SaysEvents t others) (text_is_written others ∙ sym e) (says_all others said)) in
    let file = bytes ++ front in
    let whole = whole_part file in
    let same : whole ≡ whole_part (text ++ front) = ap (λ (t : List ℕ). whole_part (t ++ front)) f.0 in
    let plain : is_sealed whole ≡ false = ap is_sealed (same ∙ kept_journal text front m events j) ∙ plain_more text (whole_part front) m events j (ap is_sealed (sym f.0) ∙ f.1) in
    record {
      done = f_found.done;
      left = f_found.left;
      part = f_found.part;
      text = whole;
      chain = None;
      torn = length file - length whole;
      found = found_plain whole (length file - length whole) plain;
      journal = subst (λ (t : List ℕ). IsJournal t m (events ++ f_found.done)) (sym same) f_found.journal;
      goes_on = (refl, plain);
      state = ap resumed same ∙ f_found.state;
    }

survives_sealed : (bytes text front lost : List ℕ) (chain : Chain) (m : State) (events others : List Event) → IsJournal text m events → IsSealedFile bytes text chain → AreSaid others
    → front ++ lost ≡ sealed chain (event_lines others) → IsFoundIn (bytes ++ front) m events others
survives_sealed bytes text front lost chain m events others j f said e =
    let b = begun_lines chain others front lost said e in
    let done_said : AreSaid b.done = said_front b.done b.left (subst AreSaid b.part said) in
    let file = bytes ++ front in
    let whole = whole_part file in
    let more = event_lines b.done in
    let same : whole ≡ bytes ++ sealed chain more =
    ap (λ (t : List ℕ). whole_part (t ++ front)) f.whole ∙ kept_sealed start f.lines front ∙ ap (λ (t : List ℕ). t ++ whole_part front) (sym f.whole) ∙ ap (λ (t : List ℕ). bytes ++ t) b.is in
    let grown : IsSealedFile whole (text ++ events_text b.done) (chain_after chain more) =
    subst (λ (t : List ℕ). IsSealedFile t (text ++ events_text b.done) (chain_after chain more)) (sym same) (sealed_grows bytes text chain b.done f done_said) in
    let journal : IsJournal (text ++ events_text b.done) m (events ++ b.done) = grows text (events_text b.done) m events b.done j (says_all b.done done_said) in
    record {
      done = b.done;
      left = b.left;
      part = b.part;
      text = text ++ events_text b.done;
      chain = Some (chain_after chain more);
      torn = length file - length whole;
      found =
          found_sealed grown.lines whole (text ++ events_text b.done) (chain_after chain more) (length file - length whole) grown.are grown.whole grown.says grown.last
          (some_text (text ++ events_text b.done) m (events ++ b.done) journal);
      journal = journal;
      goes_on = grown;
      state = resumes (text ++ events_text b.done) m (events ++ b.done) journal;
    }

pub survives_in_file : SurvivesInFile
survives_in_file bytes text front lost None m events others j f said e = survives_plain bytes text front lost m events others j f said e
survives_in_file bytes text front lost (Some chain) m events others j f said e = survives_sealed bytes text front lost chain m events others j f said e

-- ---- and it is told to be a journal

-- what a crash leaves of lines of events with their digests ends in a beginning of such a line
sealed_agrees : (chain : Chain) (events : List Event) (front lost : List ℕ) → front ++ lost ≡ sealed chain (event_lines events) → agrees_with_event (torn_end front) ≡ true
sealed_agrees chain [] [] lost e = refl
sealed_agrees chain [] (b ∷ front) lost e = cc
sealed_agrees chain (event ∷ events) front lost e =
    let line = event_text event in
    let whole = sealed_line chain line in
    let next = behind chain line in
    let rest = sealed next (event_lines events) in
    elim (cut whole rest front lost (sealed_no_feed chain line (one_line (event_data event))) (sym e)) as (λ x. agrees_with_event (torn_end front) ≡ true) [
      | inl absent ↦ ap agrees_with_event (torn_alone front absent) ∙ event_agrees event front lost (seal next ++ 10 ∷ rest) (e ∙ append_assoc line (seal next) (10 ∷ rest))
      | inr beyond ↦
          ap (λ (t : List ℕ). agrees_with_event (torn_end t)) beyond.begins ∙ ap agrees_with_event (torn_behind whole beyond.more) ∙ sealed_agrees next events beyond.more lost (sym beyond.ends)
    ]

sealed_fed : (lines : List (List ℕ)) (bytes text : List ℕ) → bytes ≡ sealed start lines → text ≡ written lines → 0 < length text → list_any is_line_feed bytes ≡ true
sealed_fed [] bytes text whole says some = absurd (omega (arith, ap length says, some))
sealed_fed (line ∷ lines) bytes text whole says some = ap (list_any is_line_feed) whole ∙ fed (sealed_line start line) (sealed (behind start line) lines)

pub accepts_file : AcceptsFile
accepts_file bytes text front lost None m events others j f begins e =
    let kept : whole_part (bytes ++ front) ≡ bytes ++ whole_part front = ap (λ (t : List ℕ). whole_part (t ++ front)) f.0 ∙ kept_journal text front m events j ∙ ap (λ (t : List ℕ). t ++ whole_part front) (sym f.0) in
    accepted_by bytes front (ap (list_any is_line_feed) (f.0 ∙ j.whole) ∙ fed j.first j.lines) kept begins (torn_agrees others front lost (e ∙ sym (text_is_written others)))
accepts_file bytes text front lost (Some chain) m events others j f begins e =
    let kept : whole_part (bytes ++ front) ≡ bytes ++ whole_part front = ap (λ (t : List ℕ). whole_part (t ++ front)) f.whole ∙ kept_sealed start f.lines front ∙ ap (λ (t : List ℕ). t ++ whole_part front) (sym f.whole) in
    accepted_by bytes front (sealed_fed f.lines bytes text f.whole f.says (some_text text m events j)) kept begins (sealed_agrees chain others front lost e)
