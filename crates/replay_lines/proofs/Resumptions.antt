-- A text line by line: where it leads to, and how its replay ends.
use Rattle.std.proofs.Common.{◌≡◌, ℕ, suc, ◌+◌, Bool, true, false, cond, ◌||◌, List, [], ◌∷◌, ◌++◌, length, Option, Some, None, Result, Ok, Err, IfOk, refl, sym, ap, subst, ◌∙◌, arith, append_assoc}
use Rattle.std.specs.Prelude.{◌==◌, MatchResult, is_some}
use Rattle.std.specs.Option.{option_map_or}
use Rattle.std.specs.declared.alloc.AllocError.{AllocError}
use Rattle.std.proofs.lemmas.Bool.{ne_eqb}
use Rattle.std.specs.Str.{bytes_eq}
use Rattle.allocation_core.specs.State.{State}
use Rattle.allocation_core.specs.Steps.{state_after}
use Rattle.allocation_core.specs.Runs.{state_of}
use Rattle.fleet_events.specs.declared.event.Event.{Event}
use Rattle.fleet_events.specs.Reading.{event_of}
use Rattle.replay_lines.specs.AsRuns.{events_of}
use Rattle.replay_lines.specs.Configurations.{opened}
use Rattle.replay_lines.specs.Lines.{is_read, state_past, text_of_line}
use Rattle.replay_lines.specs.Replays.{Written, lines_in, replay_of, total_line, unreadable_at, unreadable_line, written_by, written_from}
use Rattle.replay_lines.specs.Resumes.{EndsAs, ResumesWhereDone, damage_at, resumed, resumed_by, resumed_from, resumption_at, resumption_of, unread_from}
use Rattle.replay_lines.specs.declared.resuming.Damage.{Damage}
use Rattle.replay_lines.specs.declared.resuming.Resumption.{Resumption}
use Rattle.replay_lines.specs.declared.run.Ended.TheVariants.{Done, Unreadable}
use Rattle.replay_lines.proofs.Ahead.{before, written_on, written_off}

-- where it leads to from the line of this number on, after so many events
abbrev pub resumed_on : ℕ → ℕ → State → List (List ℕ) → Result Resumption Damage
resumed_on number events m lines = option_map_or (λ n. Err (damage_at n)) (unread_from number lines) (Ok (resumption_at (state_of m (events_of lines)) (events + length (events_of lines))))

abbrev pub counted : ℕ → List ℕ → ℕ
counted events line = cond (bytes_eq line []) events (events + 1)

pub starts : (m : State) (lines : List (List ℕ)) → resumed_from m lines ≡ resumed_on 2 0 m lines
starts m lines = let e : length (events_of lines) ≡ 0 + length (events_of lines) = omega arith in
    ap (λ (k : ℕ). option_map_or (λ n. Err (damage_at n)) (unread_from 2 lines) (Ok (resumption_at (state_of m (events_of lines)) k))) e

read_by : (empty : Bool) (o : Option Event) (number events : ℕ) (m : State) (lines : List (List ℕ)) → (empty || is_some o) ≡ true
    → option_map_or (λ n. Err (damage_at n)) (cond (empty || is_some o) (unread_from (number + 1) lines) (Some number))
    (Ok (resumption_at (state_of m (cond empty (events_of lines) (option_map_or (λ e. e ∷ events_of lines) o []))) (events + length (cond empty (events_of lines) (option_map_or (λ e. e ∷ events_of lines) o [])))))
    ≡ resumed_on (number + 1) (cond empty events (events + 1)) (cond empty m (option_map_or (state_after m) o m)) lines
read_by true o number events m lines h = refl
read_by false (Some e) number events m lines h =
    let count : events + suc (length (events_of lines)) ≡ (events + 1) + length (events_of lines) = omega arith in
    ap (λ (k : ℕ). option_map_or (λ n. Err (damage_at n)) (unread_from (number + 1) lines) (Ok (resumption_at (state_of (state_after m e) (events_of lines)) k))) count
read_by false None number events m lines h = cc

-- at a line that is read
pub resumed_past : (number events : ℕ) (m : State) (line : List ℕ) (lines : List (List ℕ)) → is_read line ≡ true → resumed_on number events m (line ∷ lines) ≡ resumed_on (number + 1) (counted events line) (state_past m line) lines
unfolding unread_from events_of
resumed_past number events m line lines h = read_by (bytes_eq line []) (event_of line) number events m lines h

-- at a line that is not
pub resumed_off : (number events : ℕ) (m : State) (line : List ℕ) (lines : List (List ℕ)) → is_read line ≡ false → resumed_on number events m (line ∷ lines) ≡ Err (damage_at number)
unfolding unread_from
resumed_off number events m line lines h =
    ap (λ (b : Bool). option_map_or (λ n. Err (damage_at n)) (cond b (unread_from (number + 1) lines) (Some number)) (Ok (resumption_at (state_of m (events_of (line ∷ lines))) (events + length (events_of (line ∷ lines)))))) h

pub resumed_end : (number events : ℕ) (m : State) → resumed_on number events m [] ≡ Ok (resumption_at m events)
unfolding unread_from events_of
resumed_end number events m = let e : events + 0 ≡ events = omega arith in ap (λ (k : ℕ). Ok (resumption_at m k)) e

-- ---- as a loop over the lines meets them

pub on_read : (start : Result Resumption Damage) (number events next_events : ℕ) (m next : State) (all : List (List ℕ)) (line : List ℕ) (lines : List (List ℕ)) → start ≡ resumed_on number events m all
    → all ≡ line ∷ lines → is_read line ≡ true → next ≡ state_past m line → next_events ≡ counted events line → start ≡ resumed_on (number + 1) next_events next lines
on_read start number events next_events m next all line lines before is read state count =
    before ∙ ap (resumed_on number events m) is ∙ resumed_past number events m line lines read ∙ ap (λ (s : State). resumed_on (number + 1) (counted events line) s lines) (sym state)
    ∙ ap (λ (k : ℕ). resumed_on (number + 1) k next lines) (sym count)

pub on_unread : (start : Result Resumption Damage) (number events : ℕ) (m : State) (all : List (List ℕ)) (line : List ℕ) (lines : List (List ℕ)) → start ≡ resumed_on number events m all
    → all ≡ line ∷ lines → is_read line ≡ false → start ≡ Err (damage_at number)
on_unread start number events m all line lines before is read = before ∙ ap (resumed_on number events m) is ∙ resumed_off number events m line lines read

pub on_end : (start : Result Resumption Damage) (number events : ℕ) (m : State) (all : List (List ℕ)) → start ≡ resumed_on number events m all → all ≡ [] → start ≡ Ok (resumption_at m events)
on_end start number events m all before is = before ∙ ap (resumed_on number events m) is ∙ resumed_end number events m

-- an empty line says no event
pub counted_none : (line : List ℕ) (events next : ℕ) (empty : Bool) → empty ≡ (length line == 0) → empty ≡ true → next ≡ events → next ≡ counted events line
counted_none [] events next empty is h e = e
counted_none (b ∷ bs) events next empty is h e = let no : false ≡ true = sym (is ∙ ne_eqb (length (b ∷ bs)) 0 (λ z. omega (arith, z))) ∙ h in cc

-- and any other that is read says one
pub counted_one : (line : List ℕ) (events next : ℕ) (empty : Bool) → empty ≡ (length line == 0) → empty ≡ false → next ≡ events + 1 → next ≡ counted events line
counted_one [] events next empty is h e = let no : true ≡ false = sym is ∙ h in cc
counted_one (b ∷ bs) events next empty is h e = e

-- ---- the first line

pub resumed_opened : (input first : List ℕ) (lines : List (List ℕ)) (m : State) → lines_in input ≡ first ∷ lines → opened first ≡ Some m → resumed input ≡ resumed_from m lines
unfolding resumed
resumed_opened input first lines m is h = ap resumed_by is ∙ ap (λ (o : Option State). option_map_or (λ s. resumed_from s lines) o (Err (damage_at 1))) h

pub resumed_unopened : (input first : List ℕ) (lines : List (List ℕ)) → lines_in input ≡ first ∷ lines → opened first ≡ None → resumed input ≡ Err (damage_at 1)
unfolding resumed
resumed_unopened input first lines is h = ap resumed_by is ∙ ap (λ (o : Option State). option_map_or (λ s. resumed_from s lines) o (Err (damage_at 1))) h

-- ---- beside the replay

ends_before : (front : List ℕ) (written : Written) (r : Result Resumption Damage) → EndsAs written r → EndsAs (before front written) r
unfolding EndsAs before
ends_before front written (Ok resumption) ends = (ends.0, front ++ ends.1, ap (λ (t : List ℕ). front ++ t) ends.2 ∙ sym (append_assoc front ends.1 (total_line resumption.core)))
ends_before front written (Err damage) ends = (ends.0, front ++ ends.1, ap (λ (t : List ℕ). front ++ t) ends.2 ∙ sym (append_assoc front ends.1 (unreadable_line damage.line)))

ends_there : (number : ℕ) → EndsAs (unreadable_at number) (Err (damage_at number))
unfolding EndsAs
ends_there number = (refl, [], refl)

ends_at : (b : Bool) (number events : ℕ) (m : State) (line : List ℕ) (lines : List (List ℕ)) → is_read line ≡ b
    → EndsAs (written_from (number + 1) (state_past m line) lines) (resumed_on (number + 1) (counted events line) (state_past m line) lines)
    → EndsAs (written_from number m (line ∷ lines)) (resumed_on number events m (line ∷ lines))
ends_at true number events m line lines read rest =
    subst (λ (w : Written). EndsAs w (resumed_on number events m (line ∷ lines))) (sym (written_on number m line lines read))
    (subst (λ (r : Result Resumption Damage). EndsAs (before (text_of_line m line) (written_from (number + 1) (state_past m line) lines)) r) (sym (resumed_past number events m line lines read))
    (ends_before (text_of_line m line) (written_from (number + 1) (state_past m line) lines) (resumed_on (number + 1) (counted events line) (state_past m line) lines) rest))
ends_at false number events m line lines read rest =
    subst (λ (w : Written). EndsAs w (resumed_on number events m (line ∷ lines))) (sym (written_off number m line lines read))
    (subst (λ (r : Result Resumption Damage). EndsAs (unreadable_at number) r) (sym (resumed_off number events m line lines read)) (ends_there number))

ends_done : (number events : ℕ) (m : State) → EndsAs (written_from number m []) (resumed_on number events m [])
unfolding EndsAs written_from unread_from events_of
ends_done number events m = (refl, [], refl)

ends_from : (number events : ℕ) (m : State) (lines : List (List ℕ)) → EndsAs (written_from number m lines) (resumed_on number events m lines)
ends_from number events m [] = ends_done number events m
ends_from number events m (line ∷ lines) = ends_at (is_read line) number events m line lines refl (ends_from (number + 1) (counted events line) (state_past m line) lines)

ends_opened : (o : Option State) (lines : List (List ℕ)) → EndsAs (option_map_or (λ m. written_from 2 m lines) o (unreadable_at 1)) (option_map_or (λ m. resumed_from m lines) o (Err (damage_at 1)))
ends_opened None lines = ends_there 1
ends_opened (Some m) lines = subst (λ (r : Result Resumption Damage). EndsAs (written_from 2 m lines) r) (sym (starts m lines)) (ends_from 2 0 m lines)

ends_by : (lines : List (List ℕ)) → EndsAs (written_by lines) (resumed_by lines)
unfolding written_by
ends_by [] = ends_there 1
ends_by (first ∷ lines) = ends_opened (opened first) lines

pub ends_as : (input : List ℕ) → EndsAs (replay_of input) (resumed input)
unfolding replay_of resumed
ends_as input = ends_by (lines_in input)

done_by : (written : Written) (o : Option ℕ) (resumption : Resumption) → EndsAs written (option_map_or (λ n. Err (damage_at n)) o (Ok resumption)) → written.ended ≡ Done
    → option_map_or (λ n. Err (damage_at n)) o (Ok resumption) ≡ Ok resumption
unfolding EndsAs
done_by written None resumption ends done = refl
done_by written (Some n) resumption ends done = let e : Done ≡ Unreadable = sym done ∙ ends.0 in cc

pub resumes_where_done : ResumesWhereDone
resumes_where_done input first lines m split opens done =
    let same : resumed input ≡ resumed_from m lines = resumed_opened input first lines m split opens in
    same ∙ done_by (replay_of input) (unread_from 2 lines) (resumption_at (state_of m (events_of lines)) (length (events_of lines))) (subst (λ (r : Result Resumption Damage). EndsAs (replay_of input) r) same (ends_as input)) done

-- ---- with the core that was opened

pub resumed_with : (applied : Result (Result ℕ Damage) AllocError) (result : Result (Result Resumption Damage) AllocError) (m : State) (wanted : Result Resumption Damage)
    → IfOk applied (λ r. resumption_of m r ≡ wanted) → MatchResult applied (λ r. result ≡ Ok (resumption_of m r)) (λ e. result ≡ Err e) → IfOk result (λ r. r ≡ wanted)
resumed_with (Ok r) result m wanted h e = subst (λ (q : Result (Result Resumption Damage) AllocError). IfOk q (λ r. r ≡ wanted)) (sym e) h
resumed_with (Err error) result m wanted h e = subst (λ (q : Result (Result Resumption Damage) AllocError). IfOk q (λ r. r ≡ wanted)) (sym e) tt

pub ends_there_too : (input : List ℕ) (result : Result (Result Resumption Damage) AllocError) → IfOk result (λ r. r ≡ resumed input) → IfOk result (EndsAs (replay_of input))
ends_there_too input (Ok r) e = subst (λ (q : Result Resumption Damage). EndsAs (replay_of input) q) (sym e) (ends_as input)
ends_there_too input (Err error) e = tt
