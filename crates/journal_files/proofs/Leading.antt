-- What is found of a file is a journal.
use Rattle.std.proofs.Common.{◌≡◌, ℕ, ◌+◌, ◌<◌, Bool, true, false, cond, ◌&&◌, List, [], ◌∷◌, ◌++◌, length, take, Option, Some, None, Result, Ok, Err, inl, inr, refl, sym, ap, subst, ◌∙◌, arith, nat_le}
use Rattle.std.specs.Prelude.{◌==◌, is_some}
use Rattle.std.specs.Option.{option_map_or}
use Rattle.allocation_core.specs.Runs.{state_of}
use Rattle.allocation_core.specs.State.{State}
use Rattle.fleet_events.specs.Reading.{event_of}
use Rattle.fleet_events.specs.declared.event.Event.{Event}
use Rattle.replay_lines.specs.AsRuns.{events_of}
use Rattle.replay_lines.specs.Configurations.{opened}
use Rattle.replay_lines.specs.Resumes.{damage_at, resumed, resumed_by, resumed_from, resumption_at, unread_from}
use Rattle.replay_lines.specs.declared.resuming.Resumption.{Resumption}
use Rattle.sealed_lines.specs.Chains.{sealed, start}
use Rattle.sealed_lines.specs.Lines.{AreLines, lines_in, with_line, written}
use Rattle.sealed_lines.specs.Reading.{is_sealed, unsealed}
use Rattle.sealed_lines.specs.declared.chain.Chain.{Chain}
use Rattle.sealed_lines.specs.declared.unsealing.PlainLines.{PlainLines}
use Rattle.sealed_lines.specs.declared.unsealing.WrongDigest.{WrongDigest}
use Rattle.sealed_lines.proofs.AcceptedTexts.{accepted_are_sealed}
use Rattle.sealed_lines.proofs.Texts.{line_ends, or_false}
use Rattle.durable_journal.specs.Events.{SaysEvents}
use Rattle.durable_journal.specs.Files.{IsFileOf, IsSealedFile}
use Rattle.durable_journal.specs.Journals.{IsJournal}
use Rattle.durable_journal.specs.Lines.{whole_part}
use Rattle.durable_journal.specs.Marks.{found_as, found_in, is_journal_text, settled_in}
use Rattle.durable_journal.specs.declared.recovering.Recovered.{Recovered}
use Rattle.durable_journal.specs.declared.recovering.Recovered.TheVariants.{Found, Other, TooLong}
use Rattle.durable_journal.specs.declared.recovering.TheConstants.{MOST_JOURNAL}
use Rattle.journal_files.specs.Leading.{FoundLead, begins_fed, has_empty_line}
use Rattle.journal_files.proofs.WholeLines.{IsWritten, no_feed_more, whole_taken, whole_written}

-- ---- the file

-- the bytes are the file of the text, which is whole lines, and there are so many of them
record IsWhole (bytes text : List ℕ) (chain : Option Chain) (whole : ℕ) : Type 0 where
  count : whole ≡ length bytes
  file : IsFileOf bytes text chain
  lines : IsWritten text

sealed_file : (bytes : List ℕ) (plain : PlainLines) → unsealed bytes ≡ Ok plain → IsWritten bytes → IsSealedFile bytes plain.text plain.chain
sealed_file bytes plain read w =
    let s = accepted_are_sealed bytes plain read in
    record {
      lines = s.lines;
      are = s.are;
      whole =
          elim s.whole as (λ x. bytes ≡ sealed start s.lines) [
            | inl e ↦ e
            | inr e ↦ absurd (no_feed_more start w.lines s.lines w.are s.are (ap (λ t. t ++ 10 ∷ []) (sym w.is) ∙ e))
          ];
      says = s.says;
      last = s.chain;
    }

with_digests : (bytes text : List ℕ) (chain : Option Chain) (whole torn cut : ℕ) (r : Result PlainLines WrongDigest) → unsealed bytes ≡ r → IsWritten bytes → found_as (length bytes) cut r ≡ Found text chain whole torn
    → IsWhole bytes text chain whole
with_digests bytes text chain whole torn cut (Err wrong) read w e = cc
with_digests bytes text None whole torn cut (Ok plain) read w e = cc
with_digests bytes text (Some chain) whole torn cut (Ok plain) read w e =
    let s = sealed_file bytes plain read w in
    let same : plain.text ≡ text = cc in
    let last : plain.chain ≡ chain = cc in
    let count : length bytes ≡ whole = cc in
    record {
      count = sym count;
      file = subst (λ t. IsSealedFile bytes t chain) same (subst (IsSealedFile bytes plain.text) last s);
      lines = record { lines = s.lines; are = s.are; is = sym same ∙ s.says };
    }

settled_file : (has : Bool) (bytes text : List ℕ) (chain : Option Chain) (whole torn cut : ℕ) → is_sealed bytes ≡ has → IsWritten bytes
    → cond has (found_as (length bytes) cut (unsealed bytes)) (Found bytes None (length bytes) cut) ≡ Found text chain whole torn → IsWhole bytes text chain whole
settled_file true bytes text chain whole torn cut has w e = with_digests bytes text chain whole torn cut (unsealed bytes) refl w e
settled_file false bytes text (Some chain) whole torn cut has w e = cc
settled_file false bytes text None whole torn cut has w e =
    let same : bytes ≡ text = cc in
    let count : length bytes ≡ whole = cc in
    record { count = sym count; file = (same, has); lines = subst IsWritten same w }

is_settled : (short journal : Bool) (r found : Recovered) (text : List ℕ) (chain : Option Chain) (whole torn : ℕ) → found ≡ Found text chain whole torn → cond short (cond journal r Other) TooLong ≡ found → r ≡ found
is_settled true true r found text chain whole torn f e = e
is_settled true false r found text chain whole torn f e = let no : Other ≡ Found text chain whole torn = e ∙ f in cc
is_settled false journal r found text chain whole torn f e = let no : TooLong ≡ Found text chain whole torn = e ∙ f in cc

whole_file : (bytes text : List ℕ) (chain : Option Chain) (whole torn : ℕ) → found_in bytes ≡ Found text chain whole torn → IsWhole (whole_part bytes) text chain whole
whole_file bytes text chain whole torn e =
    settled_file (is_sealed (whole_part bytes)) (whole_part bytes) text chain whole torn _ refl (whole_written bytes)
    (is_settled (nat_le (length bytes) MOST_JOURNAL) (is_journal_text bytes) (settled_in bytes) (Found text chain whole torn) text chain whole torn refl e)

-- ---- its events

-- behind a line nothing is empty
behind_line : (line rest : List ℕ) → has_empty_line (with_line line rest) ≡ false → (begins_fed rest ≡ false) × (has_empty_line rest ≡ false)
behind_line [] rest none = or_false (begins_fed rest) (has_empty_line rest) none
behind_line (b ∷ bs) rest none = behind_line bs rest (or_false (b == 10 && begins_fed (with_line bs rest)) (has_empty_line (with_line bs rest)) none).1

read_on : (read : Bool) (number : ℕ) (lines : List (List ℕ)) → cond read (unread_from (number + 1) lines) (Some number) ≡ None → (read ≡ true) × (unread_from (number + 1) lines ≡ None)
read_on true number lines e = (refl, e)
read_on false number lines e = cc

line_read : (number b : ℕ) (bs : List ℕ) (lines : List (List ℕ)) → unread_from number ((b ∷ bs) ∷ lines) ≡ None → (is_some (event_of (b ∷ bs)) ≡ true) × (unread_from (number + 1) lines ≡ None)
unfolding unread_from
line_read number b bs lines e = read_on (is_some (event_of (b ∷ bs))) number lines e

some_event : (o : Option Event) → is_some o ≡ true → (event : Event) × (o ≡ Some event)
some_event None e = cc
some_event (Some event) e = (event, refl)

first_event : (b : ℕ) (bs : List ℕ) (event : Event) (lines : List (List ℕ)) → event_of (b ∷ bs) ≡ Some event → events_of ((b ∷ bs) ∷ lines) ≡ event ∷ events_of lines
unfolding events_of
first_event b bs event lines says = ap (λ (o : Option Event). option_map_or (λ e. e ∷ events_of lines) o []) says

none_said : events_of ([] ∷ []) ≡ []
unfolding events_of
none_said = refl

says_none : SaysEvents [] []
unfolding SaysEvents
says_none = refl

-- the lines say the events
record Says (text : List ℕ) : Type 0 where
  events : List Event
  are : events_of (lines_in text) ≡ events
  says : SaysEvents text events

next_says : (b : ℕ) (bs : List ℕ) (lines : List (List ℕ)) (event : Event) → AreLines ((b ∷ bs) ∷ lines) → event_of (b ∷ bs) ≡ Some event → Says (written lines) → Says (written ((b ∷ bs) ∷ lines))
unfolding SaysEvents
next_says b bs lines event are says rest =
    record {
      events = event ∷ rest.events;
      are = ap events_of (line_ends (b ∷ bs) (written lines) are.0) ∙ first_event b bs event (lines_in (written lines)) says ∙ ap (λ (es : List Event). event ∷ es) rest.are;
      says = (b ∷ bs, written lines, refl, record { one_line = are.0; says = says }, rest.says);
    }

all_say : (number : ℕ) (lines : List (List ℕ)) → AreLines lines → begins_fed (written lines) ≡ false → has_empty_line (written lines) ≡ false → unread_from number (lines_in (written lines)) ≡ None → Says (written lines)
all_say number [] are fed none read = record { events = []; are = none_said; says = says_none }
all_say number ([] ∷ lines) are fed none read = cc
all_say number ((b ∷ bs) ∷ lines) are fed none read =
    let parts = line_read number b bs (lines_in (written lines)) (ap (unread_from number) (sym (line_ends (b ∷ bs) (written lines) are.0)) ∙ read) in
    let event = some_event (event_of (b ∷ bs)) parts.0 in
    let rest = behind_line (b ∷ bs) (written lines) none in
    next_says b bs lines event.0 are event.1 (all_say (number + 1) lines are.1 rest.0 rest.1 parts.1)

-- ---- its state

all_read : (o : Option ℕ) (m core : State) (events : List Event) (count : ℕ) → option_map_or (λ n. Err (damage_at n)) o (Ok (resumption_at (state_of m events) (length events))) ≡ Ok (resumption_at core count)
    → (o ≡ None) × (state_of m events ≡ core)
all_read None m core events count e =
    let same : resumption_at (state_of m events) (length events) ≡ resumption_at core count = cc in
    (refl, ap (λ (r : Resumption). r.core) same)
all_read (Some n) m core events count e = cc

-- the first line opens a state, and the others are read
record IsResumed (first : List ℕ) (others : List (List ℕ)) (core : State) : Type 0 where
  m : State
  opens : opened first ≡ Some m
  read : unread_from 2 others ≡ None
  state : state_of m (events_of others) ≡ core

opened_by : (o : Option State) (first : List ℕ) (others : List (List ℕ)) (core : State) (count : ℕ) → opened first ≡ o → option_map_or (λ m. resumed_from m others) o (Err (damage_at 1)) ≡ Ok (resumption_at core count)
    → IsResumed first others core
opened_by None first others core count opens e = cc
opened_by (Some m) first others core count opens e =
    let parts = all_read (unread_from 2 others) m core (events_of others) count e in
    record { m = m; opens = opens; read = parts.0; state = parts.1 }

resumed_parts : (first rest : List ℕ) (core : State) (count : ℕ) (others : List (List ℕ)) → lines_in (with_line first rest) ≡ first ∷ others → resumed (with_line first rest) ≡ Ok (resumption_at core count) → IsResumed first others core
unfolding resumed
resumed_parts first rest core count others cut e = opened_by (opened first) first others core count refl (ap resumed_by (sym cut) ∙ e)

-- the text is a journal that leads to the state
record IsLed (text : List ℕ) (core : State) : Type 0 where
  first : State
  events : List Event
  journal : IsJournal text first events
  leads : state_of first events ≡ core

led_by : (text : List ℕ) (core : State) (count : ℕ) (lines : List (List ℕ)) → AreLines lines → text ≡ written lines → 0 < length text → resumed text ≡ Ok (resumption_at core count) → has_empty_line text ≡ false → IsLed text core
led_by text core count [] are is some e none = absurd (omega (arith, ap length is, some))
led_by text core count (first ∷ others) are is some e none =
    let cut = line_ends first (written others) are.0 in
    let r = resumed_parts first (written others) core count (lines_in (written others)) cut (ap resumed (sym is) ∙ e) in
    let rest = behind_line first (written others) (ap has_empty_line (sym is) ∙ none) in
    let said = all_say 2 others are.1 rest.0 rest.1 r.read in
    record {
      first = r.m;
      events = said.events;
      journal = record { first = first; lines = written others; whole = is; one_line = are.0; opens = r.opens; says = said.says };
      leads = ap (state_of r.m) (sym said.are) ∙ r.state;
    }

pub found_lead : FoundLead
found_lead bytes text chain whole torn events m found some leads none =
    let w = whole_file bytes text chain whole torn found in
    let led = led_by text m events w.lines.lines w.lines.are w.lines.is some leads none in
    let front : take whole bytes ≡ whole_part bytes = ap (λ n. take n bytes) w.count ∙ whole_taken bytes in
    record {
      text = text;
      first = led.first;
      events = led.events;
      file = subst (λ t. IsFileOf t text chain) (sym front) w.file;
      journal = led.journal;
      leads = led.leads;
    }
