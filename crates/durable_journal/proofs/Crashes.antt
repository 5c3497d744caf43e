-- A journal's lines, and what is found of them after a crash.
use Rattle.std.proofs.Common.{◌≡◌, ℕ, ◌+◌, Bool, cond, List, [], ◌∷◌, ◌++◌, length, Option, Some, None, Ok, Err, inl, inr, refl, sym, ap, subst, ◌∙◌, append_assoc, append-nil}
use Rattle.std.specs.Prelude.{◌==◌, is_some}
use Rattle.std.specs.List.{list_any, onto_first}
use Rattle.std.specs.Option.{option_map_or}
use Rattle.std.specs.Str.{chars, is_utf8}
use Rattle.json.specs.Json.{value}
use Rattle.json.specs.Lex.{lex, punctuate}
use Rattle.json_values.specs.Texts.{is_line_feed, json_of}
use Rattle.allocation_core.specs.State.{State}
use Rattle.allocation_core.specs.Runs.{state_of}
use Rattle.fleet_events.specs.Reading.{event_of}
use Rattle.fleet_events.specs.declared.event.Event.{Event}
use Rattle.replay_lines.specs.AsRuns.{events_of}
use Rattle.replay_lines.specs.Replays.{lines_in}
use Rattle.replay_lines.specs.Resumes.{damage_at, resumed, resumed_by, resumed_from, resumption_at, unread_from}
use Rattle.durable_journal.specs.Events.{SaysEvents}
use Rattle.durable_journal.specs.Journals.{Accepts, Grows, IgnoresTorn, IsJournal, Resumes, Survives}
use Rattle.sealed_lines.specs.Lines.{HasNoFeed, with_line}
use Rattle.durable_journal.specs.Lines.{whole_part}
use Rattle.durable_journal.proofs.Accepted.{accepted}
use Rattle.durable_journal.proofs.EventLines.{says_more}
use Rattle.durable_journal.proofs.WholeParts.{cut, fed, keeps, none, or_false}

-- ---- one line

-- it ends at its line feed
line_ends : (line rest : List ℕ) → HasNoFeed line → lines_in (with_line line rest) ≡ line ∷ lines_in rest
line_ends [] rest absent = refl
line_ends (b ∷ bs) rest absent =
    let parts = or_false (b == 10) (list_any is_line_feed bs) absent in
    ap (λ (t : Bool). cond t ([] ∷ lines_in (with_line bs rest)) (onto_first b (lines_in (with_line bs rest)))) parts.0 ∙ ap (onto_first b) (line_ends bs rest parts.1)

-- the empty line says no event
says_nothing : event_of [] ≡ None
unfolding json_of is_utf8 chars value punctuate lex
says_nothing = refl

-- a line that says an event is read, and its event comes first
first_event : (line : List ℕ) (event : Event) (lines : List (List ℕ)) → event_of line ≡ Some event → events_of (line ∷ lines) ≡ event ∷ events_of lines
unfolding events_of
first_event [] event lines says = let e : None ≡ Some event = sym says_nothing ∙ says in cc
first_event (b ∷ bs) event lines says = ap (λ (o : Option Event). option_map_or (λ e. e ∷ events_of lines) o []) says

passed : (number : ℕ) (line : List ℕ) (event : Event) (lines : List (List ℕ)) → event_of line ≡ Some event → unread_from number (line ∷ lines) ≡ unread_from (number + 1) lines
unfolding unread_from
passed number [] event lines says = refl
passed number (b ∷ bs) event lines says = ap (λ (o : Option Event). cond (is_some o) (unread_from (number + 1) lines) (Some number)) says

-- ---- all of them

all_events : (text : List ℕ) (events : List Event) → SaysEvents text events → events_of (lines_in text) ≡ events
unfolding SaysEvents events_of
all_events text [] says = ap (λ (t : List ℕ). events_of (lines_in t)) says
all_events text (event ∷ events) says =
    ap (λ (t : List ℕ). events_of (lines_in t)) says.2 ∙ ap events_of (line_ends says.0 says.1 says.3.one_line) ∙ first_event says.0 event (lines_in says.1) says.3.says
    ∙ ap (λ (es : List Event). event ∷ es) (all_events says.1 events says.4)

all_read : (number : ℕ) (text : List ℕ) (events : List Event) → SaysEvents text events → unread_from number (lines_in text) ≡ None
unfolding SaysEvents unread_from
all_read number text [] says = ap (λ (t : List ℕ). unread_from number (lines_in t)) says
all_read number text (event ∷ events) says =
    ap (λ (t : List ℕ). unread_from number (lines_in t)) says.2 ∙ ap (unread_from number) (line_ends says.0 says.1 says.3.one_line) ∙ passed number says.0 event (lines_in says.1) says.3.says
    ∙ all_read (number + 1) says.1 events says.4

after_events : (m : State) (text : List ℕ) (events : List Event) → SaysEvents text events → resumed_from m (lines_in text) ≡ Ok (resumption_at (state_of m events) (length events))
after_events m text events says =
    ap (λ (o : Option ℕ). option_map_or (λ n. Err (damage_at n)) o (Ok (resumption_at (state_of m (events_of (lines_in text))) (length (events_of (lines_in text)))))) (all_read 2 text events says)
    ∙ ap (λ (es : List Event). Ok (resumption_at (state_of m es) (length es))) (all_events text events says)

pub resumes : Resumes
unfolding resumed
resumes text m events j =
    ap (λ (t : List ℕ). resumed_by (lines_in t)) j.whole ∙ ap resumed_by (line_ends j.first j.lines j.one_line)
    ∙ ap (λ (o : Option State). option_map_or (λ s. resumed_from s (lines_in j.lines)) o (Err (damage_at 1))) j.opens ∙ after_events m j.lines events j.says

pub grows : Grows
grows text more m events others j says = record {
  first = j.first;
  lines = j.lines ++ more;
  whole = ap (λ (t : List ℕ). t ++ more) j.whole ∙ append_assoc j.first (10 ∷ j.lines) more;
  one_line = j.one_line;
  opens = j.opens;
  says = says_more j.lines more events others j.says says;
}

-- ---- a crash

-- lines of events are kept, and then what is whole of the rest
kept_lines : (text front : List ℕ) (events : List Event) → SaysEvents text events → whole_part (text ++ front) ≡ text ++ whole_part front
unfolding SaysEvents
kept_lines text front [] says = ap (λ (t : List ℕ). whole_part (t ++ front)) says ∙ ap (λ (t : List ℕ). t ++ whole_part front) (sym says)
kept_lines text front (event ∷ events) says =
    ap (λ (t : List ℕ). whole_part (t ++ front)) says.2 ∙ ap whole_part (append_assoc says.0 (10 ∷ says.1) front) ∙ keeps says.0 (says.1 ++ front)
    ∙ ap (with_line says.0) (kept_lines says.1 front events says.4) ∙ sym (append_assoc says.0 (10 ∷ says.1) (whole_part front)) ∙ ap (λ (t : List ℕ). t ++ whole_part front) (sym says.2)

pub kept_journal : (text front : List ℕ) (m : State) (events : List Event) → IsJournal text m events → whole_part (text ++ front) ≡ text ++ whole_part front
kept_journal text front m events j =
    ap (λ (t : List ℕ). whole_part (t ++ front)) j.whole ∙ ap whole_part (append_assoc j.first (10 ∷ j.lines) front) ∙ keeps j.first (j.lines ++ front)
    ∙ ap (with_line j.first) (kept_lines j.lines front events j.says) ∙ sym (append_assoc j.first (10 ∷ j.lines) (whole_part front)) ∙ ap (λ (t : List ℕ). t ++ whole_part front) (sym j.whole)

pub ignores_torn : IgnoresTorn
ignores_torn text torn m events j absent = kept_journal text torn m events j ∙ ap (λ (t : List ℕ). text ++ t) (none torn absent) ∙ append-nil text

-- the events of the whole lines among these
record Begun (front : List ℕ) (events : List Event) : Type 0 where
  done : List Event
  left : List Event
  part : events ≡ done ++ left
  says : SaysEvents (whole_part front) done

none_begun : (front : List ℕ) (events : List Event) → whole_part front ≡ [] → Begun front events
unfolding SaysEvents
none_begun front events e = record { done = []; left = events; part = refl; says = e }

begun : (front lost : List ℕ) (events : List Event) → SaysEvents (front ++ lost) events → Begun front events
unfolding SaysEvents
begun [] lost [] says = none_begun [] [] refl
begun (f ∷ front) lost [] says = cc
begun front lost (event ∷ events) says =
    elim (cut says.0 says.1 front lost says.3.one_line (sym says.2)) as (λ x. Begun front (event ∷ events)) [
      | inl absent ↦ none_begun front (event ∷ events) (none front absent)
      | inr beyond ↦
          let rest = begun beyond.more lost events (subst (λ (t : List ℕ). SaysEvents t events) beyond.ends says.4) in
          record {
            done = event ∷ rest.done;
            left = rest.left;
            part = ap (λ (es : List Event). event ∷ es) rest.part;
            says = (says.0, whole_part beyond.more, ap whole_part beyond.begins ∙ keeps says.0 beyond.more, says.3, rest.says);
          }
    ]

pub survives : Survives
survives text front lost m events others j says =
    let b = begun front lost others says in
    let journal : IsJournal (whole_part (text ++ front)) m (events ++ b.done) =
    subst (λ (t : List ℕ). IsJournal t m (events ++ b.done)) (sym (kept_journal text front m events j)) (grows text (whole_part front) m events b.done j b.says) in
    record {
      done = b.done;
      left = b.left;
      part = b.part;
      journal = journal;
      state = resumes (whole_part (text ++ front)) m (events ++ b.done) journal;
    }

pub accepts : Accepts
accepts text front lost m events others j begins e =
    accepted text front lost others (ap (list_any is_line_feed) j.whole ∙ fed j.first j.lines) (kept_journal text front m events j) begins e
