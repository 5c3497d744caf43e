-- A replay line by line: what was written and what is left make up the whole.
use Rattle.std.proofs.Common.{◌≡◌, ℕ, ◌+◌, Bool, true, false, cond, ◌||◌, List, [], ◌∷◌, ◌++◌, Option, Some, None, refl, sym, ap, ◌∙◌, subst}
use Rattle.std.proofs.lemmas.List.{append_assoc, append-nil}
use Rattle.std.specs.Prelude.{is_some}
use Rattle.std.specs.Option.{option_map_or}
use Rattle.std.specs.Str.{bytes_eq}
use Rattle.allocation_core.specs.State.{State}
use Rattle.allocation_core.specs.Steps.{answer_of, state_after}
use Rattle.fleet_events.specs.declared.event.Event.{Event}
use Rattle.replay_lines.specs.Configurations.{opened}
use Rattle.fleet_events.specs.Reading.{event_of}
use Rattle.replay_lines.specs.Replays.{Written, written_from, written_by, replay_of, lines_in, answered, answered_line, unreadable_at, totalled}
use Rattle.replay_lines.specs.Lines.{is_read, text_of_line, state_past, IsAhead}

-- a text, and then the rest
unfoldable pub before : List ℕ → Written → Written
before front rest = record { text = front ++ rest.text; ended = rest.ended }

read_by : (empty : Bool) (o : Option Event) (number : ℕ) (m : State) (lines : List (List ℕ)) → (empty || is_some o) ≡ true
    → cond empty (written_from (number + 1) m lines) (option_map_or (λ event. answered (answer_of m event) (written_from (number + 1) (state_after m event) lines)) o (unreadable_at number))
    ≡ before (cond empty [] (option_map_or (λ event. answered_line (answer_of m event)) o [])) (written_from (number + 1) (cond empty m (option_map_or (state_after m) o m)) lines)
unfolding before
read_by true o number m lines h = refl
read_by false (Some event) number m lines h = refl
read_by false None number m lines h = cc

unread_by : (empty : Bool) (o : Option Event) (number : ℕ) (m : State) (lines : List (List ℕ)) → (empty || is_some o) ≡ false
    → cond empty (written_from (number + 1) m lines) (option_map_or (λ event. answered (answer_of m event) (written_from (number + 1) (state_after m event) lines)) o (unreadable_at number)) ≡ unreadable_at number
unread_by true o number m lines h = cc
unread_by false (Some event) number m lines h = cc
unread_by false None number m lines h = refl

-- at a line that is read
pub written_on : (number : ℕ) (m : State) (line : List ℕ) (lines : List (List ℕ)) → is_read line ≡ true → written_from number m (line ∷ lines) ≡ before (text_of_line m line) (written_from (number + 1) (state_past m line) lines)
unfolding written_from
written_on number m line lines h = read_by (bytes_eq line []) (event_of line) number m lines h

-- at a line that is not
pub written_off : (number : ℕ) (m : State) (line : List ℕ) (lines : List (List ℕ)) → is_read line ≡ false → written_from number m (line ∷ lines) ≡ unreadable_at number
unfolding written_from
written_off number m line lines h = unread_by (bytes_eq line []) (event_of line) number m lines h

written_end : (number : ℕ) (m : State) → written_from number m [] ≡ totalled m
unfolding written_from
written_end number m = refl

-- which adds nothing
added_by : (empty : Bool) (o : Option Event) (m : State) → (empty || is_some o) ≡ false → cond empty [] (option_map_or (λ event. answered_line (answer_of m event)) o []) ≡ []
added_by true o m h = refl
added_by false (Some event) m h = cc
added_by false None m h = refl

-- one more text
ahead_before : (whole left : Written) (old now new more : List ℕ) → IsAhead whole (before more left) old now → new ≡ now ++ more → IsAhead whole left old new
unfolding before
ahead_before whole left old now new more ahead e =
    record {
      front = ahead.front ++ more;
      text = ahead.text ∙ sym (append_assoc ahead.front more left.text);
      added = e ∙ (ap (λ (t : List ℕ). t ++ more) ahead.added ∙ append_assoc old ahead.front more);
      ended = ahead.ended;
    }

-- ---- one more line

pub ahead_on : (whole : Written) (number : ℕ) (m next : State) (all : List (List ℕ)) (line : List ℕ) (lines : List (List ℕ)) (old now new : List ℕ) → IsAhead whole (written_from number m all) old now
    → all ≡ line ∷ lines → is_read line ≡ true → next ≡ state_past m line → new ≡ now ++ text_of_line m line → IsAhead whole (written_from (number + 1) next lines) old new
ahead_on whole number m next all line lines old now new ahead is read state text =
    let step : written_from number m all ≡ before (text_of_line m line) (written_from (number + 1) next lines) =
    ap (written_from number m) is ∙ (written_on number m line lines read ∙ ap (λ (s : State). before (text_of_line m line) (written_from (number + 1) s lines)) (sym state)) in
    ahead_before whole (written_from (number + 1) next lines) old now new (text_of_line m line) (subst (λ (w : Written). IsAhead whole w old now) step ahead) text

pub ahead_off : (whole : Written) (number : ℕ) (m : State) (all : List (List ℕ)) (line : List ℕ) (lines : List (List ℕ)) (old now new : List ℕ) → IsAhead whole (written_from number m all) old now
    → all ≡ line ∷ lines → is_read line ≡ false → new ≡ now ++ text_of_line m line → IsAhead whole (unreadable_at number) old new
ahead_off whole number m all line lines old now new ahead is read text =
    let step : written_from number m all ≡ unreadable_at number = ap (written_from number m) is ∙ written_off number m line lines read in
    let same : new ≡ now = text ∙ (ap (λ (t : List ℕ). now ++ t) (added_by (bytes_eq line []) (event_of line) m read) ∙ append-nil now) in
    subst (λ (t : List ℕ). IsAhead whole (unreadable_at number) old t) (sym same) (subst (λ (w : Written). IsAhead whole w old now) step ahead)

pub ahead_end : (whole : Written) (number : ℕ) (m : State) (all : List (List ℕ)) (old now : List ℕ) → IsAhead whole (written_from number m all) old now → all ≡ [] → IsAhead whole (totalled m) old now
ahead_end whole number m all old now ahead is =
    let step : written_from number m all ≡ totalled m = ap (written_from number m) is ∙ written_end number m in
    subst (λ (w : Written). IsAhead whole w old now) step ahead

-- all is written
pub ahead_text : (whole left : Written) (old now new : List ℕ) → IsAhead whole left old now → new ≡ now ++ left.text → new ≡ old ++ whole.text
ahead_text whole left old now new ahead e =
    e ∙ (ap (λ (t : List ℕ). t ++ left.text) ahead.added ∙ (append_assoc old ahead.front left.text ∙ ap (λ (t : List ℕ). old ++ t) (sym ahead.text)))

-- ---- the first line

pub replay_opened : (input first : List ℕ) (lines : List (List ℕ)) (m : State) → lines_in input ≡ first ∷ lines → opened first ≡ Some m → replay_of input ≡ written_from 2 m lines
unfolding replay_of written_by
replay_opened input first lines m is h = ap written_by is ∙ ap (λ (o : Option State). option_map_or (λ s. written_from 2 s lines) o (unreadable_at 1)) h

pub replay_unopened : (input first : List ℕ) (lines : List (List ℕ)) → lines_in input ≡ first ∷ lines → opened first ≡ None → replay_of input ≡ unreadable_at 1
unfolding replay_of written_by
replay_unopened input first lines is h = ap written_by is ∙ ap (λ (o : Option State). option_map_or (λ s. written_from 2 s lines) o (unreadable_at 1)) h
