-- What a journal that was sealed by hand leads to.
use Rattle.std.proofs.Common.{◌≡◌, ◌≤◌, ℕ, ◌+◌, Bool, true, false, cond, List, [], ◌∷◌, ◌++◌, length, Option, Some, None, IfOk, IfSome, Result, Ok, Err, BTreeMap, String, Global, refl, sym, ap, subst, ◌∙◌, arith, append_assoc, append-nil}
use Rattle.std.specs.Prelude.{◌==◌, codes, option_map, string_bytes, unwrap_or}
use Rattle.std.specs.Option.{option_map_or}
use Rattle.std.specs.Result.{result_ok}
use Rattle.std.specs.Str.{bytes_eq}
use Rattle.serde_json.specs.Data.{Data, Members, null, boolean, number, string, array, object, put, depth, members_depth}
use Rattle.serde_json.specs.Find.{get}
use Rattle.serde_json.specs.Read.{max_depth}
use Rattle.serde_json.specs.View.{view, members_view}
use Rattle.serde_json.specs.declared.value.Value.{Value, Object, String as StringValue}
use Rattle.serde_json.proofs.Views.{get_member-put_other, view-Object}
use Rattle.json_values.specs.Texts.{json_of}
use Rattle.sd_documents.specs.Config.{config_said}
use Rattle.allocation_core.specs.State.{State}
use Rattle.allocation_core.specs.Runs.{state_of}
use Rattle.fleet_events.specs.Reading.{event_of}
use Rattle.fleet_events.specs.declared.event.Event.{Event}
use Rattle.replay_lines.specs.AsRuns.{events_of}
use Rattle.replay_lines.specs.Configurations.{opened, specs_of}
use Rattle.replay_lines.specs.Lines.{is_read}
use Rattle.replay_lines.specs.Resumes.{damage_at, resumed, resumed_by, resumed_from, resumption_at, unread_from}
use Rattle.replay_lines.specs.declared.resuming.Damage.{Damage}
use Rattle.replay_lines.specs.declared.resuming.Resumption.{Resumption}
use Rattle.sealed_lines.specs.Chains.{behind, chain_after, sealed, sealed_line, start}
use Rattle.sealed_lines.specs.declared.chain.Chain.{Chain}
use Rattle.sealed_lines.specs.Lines.{AreLines, HasNoFeed, lines_in, with_line, written}
use Rattle.sealed_lines.specs.Reading.{read_as, unquoted_lines, unsealed}
use Rattle.sealed_lines.proofs.AcceptedTexts.{are_lines}
use Rattle.sealed_lines.proofs.SealedTexts.{sealed_are_read}
use Rattle.sealed_lines.proofs.Texts.{line_ends}
use Rattle.durable_journal.specs.ByHand.{IsSealedByHand, IsSealedFrom, filled, with_note}
use Rattle.durable_journal.specs.Marks.{SaysMarked}
use Rattle.durable_journal.proofs.Beginnings.{view-String}
use Rattle.durable_journal.proofs.Bytes.{after_more, sealed_more}
use Rattle.durable_journal.proofs.Marked.{if_given, put_levels, says_opens}
use Rattle.durable_journal.proofs.Opening.{opened_as, opened_data, opened_parts, shallow}

-- ---- the first line

abbrev note : Data
note = string (codes "by hand")

pub put_note : (value : Value) (old new : BTreeMap (String Global) Value) (s : String Global) → value ≡ Object old → members_view new.entries ≡ put (codes "sealed") (view (StringValue s)) (members_view old.entries)
    → string_bytes s ≡ codes "by hand" → Some (view (Object new)) ≡ with_note (view value)
put_note value old new s is added said =
    ap Some (view-Object new ∙ ap object (added ∙ ap (λ (d : Data). put (codes "sealed") d (members_view old.entries)) (view-String s ∙ ap string said))) ∙ sym (ap with_note (ap view is ∙ view-Object old))

noted_levels : (d n : Data) → depth d ≤ max_depth → with_note d ≡ Some n → depth n ≤ max_depth
noted_levels null n h e = cc
noted_levels (boolean b) n h e = cc
noted_levels (number k) n h e = cc
noted_levels (string s) n h e = cc
noted_levels (array ds) n h e = cc
noted_levels (object ms) n h e =
    let inside : members_depth ms ≤ 126 = omega (arith, h) in
    let deep : members_depth (put (codes "sealed") note ms) ≤ 126 = put_levels 126 (codes "sealed") note ms (omega arith) inside in
    subst (λ (x : Data). depth x ≤ max_depth) (ap (λ (o : Option Data). unwrap_or o null) e) (omega (arith, deep))

said_same : (ms : Members) → config_said (object (put (codes "sealed") note ms)) ≡ config_said (object ms)
unfolding config_said
said_same ms = rw (get_member-put_other (codes "scrape_configs") (codes "sealed") note ms (λ e. omega (arith, ap length e))) refl

history_same : (ms : Members) → get (codes "history") (object (put (codes "sealed") note ms)) ≡ get (codes "history") (object ms)
history_same ms = get_member-put_other (codes "history") (codes "sealed") note ms (λ e. omega (arith, ap length e))

rounds_same : (ms : Members) → get (codes "report_rounds") (object (put (codes "sealed") note ms)) ≡ get (codes "report_rounds") (object ms)
rounds_same ms = get_member-put_other (codes "report_rounds") (codes "sealed") note ms (λ e. omega (arith, ap length e))

opened_object : (ms : Members) → opened_data (Some (object (put (codes "sealed") note ms))) ≡ opened_data (Some (object ms))
opened_object ms = λ i. opened_parts (history_same ms i) (rounds_same ms i) (option_map specs_of (result_ok (said_same ms i)))

opened_noted : (d n : Data) → with_note d ≡ Some n → opened_data (Some n) ≡ opened_data (Some d)
opened_noted null n e = cc
opened_noted (boolean b) n e = cc
opened_noted (number k) n e = cc
opened_noted (string s) n e = cc
opened_noted (array ds) n e = cc
opened_noted (object ms) n e = ap opened_data (sym e) ∙ opened_object ms

pub noted_opens : {E : Type 0} (document : List ℕ) (d n : Data) (r : Result (Option (List ℕ)) E) → json_of document ≡ Some d → with_note d ≡ Some n → IfOk r (λ o. IfSome o (SaysMarked n)) → IfOk r (λ o. IfSome o (λ line. opened line ≡ opened document))
noted_opens document d n r said noted says =
    if_given r (SaysMarked n) (λ line. opened line ≡ opened document)
    (λ line s. says_opens line n (noted_levels d n (shallow document d said) noted) s ∙ opened_noted d n noted ∙ ap opened_data (sym said) ∙ sym (opened_as document)) says

-- ---- all lines

-- the lines of lines, and nothing behind the last line feed
written_ends : (lines : List (List ℕ)) → AreLines lines → lines_in (written lines) ≡ lines ++ [] ∷ []
written_ends [] are = refl
written_ends (line ∷ lines) are = line_ends line (written lines) are.0 ∙ ap (λ (ls : List (List ℕ)). line ∷ ls) (written_ends lines are.1)

filled_by : (b : Bool) (line : List ℕ) (lines : List (List ℕ)) → HasNoFeed line → AreLines lines → AreLines (cond b lines (line ∷ lines))
filled_by true line lines absent are = are
filled_by false line lines absent are = (absent, are)

pub filled_are : (lines : List (List ℕ)) → AreLines lines → AreLines (filled lines)
filled_are [] are = tt
filled_are (line ∷ lines) are = filled_by (bytes_eq line []) line (filled lines) are.0 (filled_are lines are.1)

events_by : (b : Bool) (line : List ℕ) (lines : List (List ℕ)) (events : List Event) → bytes_eq line [] ≡ b → events_of lines ≡ events
    → events_of (cond b lines (line ∷ lines)) ≡ cond b events (option_map_or (λ event. event ∷ events) (event_of line) [])
unfolding events_of
events_by true line lines events is e = e
events_by false line lines events is e =
    ap (λ t. cond t (events_of lines) (option_map_or (λ event. event ∷ events_of lines) (event_of line) [])) is ∙ ap (λ (es : List Event). option_map_or (λ event. event ∷ es) (event_of line) []) e

-- what is left of the lines, and an empty one, say the same events
same_events : (lines : List (List ℕ)) → events_of (filled lines ++ [] ∷ []) ≡ events_of lines
unfolding events_of
same_events [] = refl
same_events (line ∷ lines) =
    ap events_of (front_by (bytes_eq line []) line (filled lines)) ∙ events_by (bytes_eq line []) line (filled lines ++ [] ∷ []) (events_of lines) refl (same_events lines)
  where
    front_by : (b : Bool) (l : List ℕ) (ls : List (List ℕ)) → cond b ls (l ∷ ls) ++ [] ∷ [] ≡ cond b (ls ++ [] ∷ []) (l ∷ ls ++ [] ∷ [])
    front_by true l ls = refl
    front_by false l ls = refl

record IsRest (line : List ℕ) (place : ℕ) (lines : List (List ℕ)) : Type 0 where
  read : is_read line ≡ true
  rest : unread_from (place + 1) lines ≡ None

rest_by : (b : Bool) (line : List ℕ) (place : ℕ) (lines : List (List ℕ)) → is_read line ≡ b → cond b (unread_from (place + 1) lines) (Some place) ≡ None → IsRest line place lines
rest_by true line place lines is e = record { read = is; rest = e }
rest_by false line place lines is e = cc

all_but_first : (place : ℕ) (line : List ℕ) (lines : List (List ℕ)) → unread_from place (line ∷ lines) ≡ None → IsRest line place lines
unfolding unread_from
all_but_first place line lines e = rest_by (is_read line) line place lines refl e

none_unread : (place : ℕ) → unread_from place ([] ∷ []) ≡ None
unfolding unread_from
none_unread place = refl

one_read : (place : ℕ) (line : List ℕ) (lines : List (List ℕ)) → is_read line ≡ true → unread_from (place + 1) lines ≡ None → unread_from place (line ∷ lines) ≡ None
unfolding unread_from
one_read place line lines read e = ap (λ t. cond t (unread_from (place + 1) lines) (Some place)) read ∙ e

filled_read : (b : Bool) (next : ℕ) (line : List ℕ) (lines : List (List ℕ)) → is_read line ≡ true → ((k : ℕ) → unread_from k (lines ++ [] ∷ []) ≡ None) → unread_from next (cond b lines (line ∷ lines) ++ [] ∷ []) ≡ None
filled_read true next line lines read all = all next
filled_read false next line lines read all = one_read next line (lines ++ [] ∷ []) read (all (next + 1))

still_read : (place next : ℕ) (lines : List (List ℕ)) → unread_from place lines ≡ None → unread_from next (filled lines ++ [] ∷ []) ≡ None
still_read place next [] e = none_unread next
still_read place next (line ∷ lines) e =
    let parts = all_but_first place line lines e in
    filled_read (bytes_eq line []) next line (filled lines) parts.read (λ k. still_read (place + 1) k lines parts.rest)

same_by : (o : Option ℕ) (m : State) (events : List Event) (others : List (List ℕ)) (resumption : Resumption) → unread_from 2 others ≡ o → option_map_or (λ n. Err (damage_at n)) o (Ok (resumption_at (state_of m events) (length events))) ≡ Ok resumption
    → unread_from 2 others ≡ None
same_by None m events others resumption is e = is
same_by (Some n) m events others resumption is e = cc

from_same : (m : State) (others : List (List ℕ)) (resumption : Resumption) → resumed_from m others ≡ Ok resumption → resumed_from m (filled others ++ [] ∷ []) ≡ resumed_from m others
from_same m others resumption e =
    let read : unread_from 2 others ≡ None = same_by (unread_from 2 others) m (events_of others) others resumption refl e in
    let left = filled others ++ [] ∷ [] in
    ap (λ (o : Option ℕ). option_map_or (λ n. Err (damage_at n)) o (Ok (resumption_at (state_of m (events_of left)) (length (events_of left))))) (still_read 2 2 others read ∙ sym read)
    ∙ ap (λ (es : List Event). option_map_or (λ n. Err (damage_at n)) (unread_from 2 others) (Ok (resumption_at (state_of m es) (length es)))) (same_events others)

opened_same : (o : Option State) (others : List (List ℕ)) (resumption : Resumption) → option_map_or (λ m. resumed_from m others) o (Err (damage_at 1)) ≡ Ok resumption
    → option_map_or (λ m. resumed_from m (filled others ++ [] ∷ [])) o (Err (damage_at 1)) ≡ Ok resumption
opened_same None others resumption e = cc
opened_same (Some m) others resumption e = from_same m others resumption e ∙ e

leads_on : (text bytes : List ℕ) (resumption : Resumption) (s : IsSealedFrom text bytes) → resumed text ≡ Ok resumption → resumed (written (s.noted ∷ filled s.others)) ≡ Ok resumption
unfolding resumed
leads_on text bytes resumption s e =
    let are : AreLines (s.first ∷ s.others) = subst AreLines s.cut (are_lines text) in
    let before : option_map_or (λ m. resumed_from m s.others) (opened s.first) (Err (damage_at 1)) ≡ Ok resumption = ap resumed_by (sym s.cut) ∙ e in
    ap resumed_by (written_ends (s.noted ∷ filled s.others) (s.one_line, filled_are s.others are.1))
    ∙ ap (λ (o : Option State). option_map_or (λ m. resumed_from m (filled s.others ++ [] ∷ [])) o (Err (damage_at 1))) s.opens ∙ opened_same (opened s.first) s.others resumption before

by_hand : (journal text bytes : List ℕ) (resumption : Resumption) → text ≡ unquoted_lines (lines_in journal) → resumed text ≡ Ok resumption → IsSealedFrom text bytes → IsSealedByHand journal bytes
by_hand journal text bytes resumption is e s =
    let are : AreLines (s.first ∷ s.others) = subst AreLines s.cut (are_lines text) in
    record {
      plain = read_as (written (s.noted ∷ filled s.others)) (chain_after start (s.noted ∷ filled s.others));
      reads = ap unsealed s.form ∙ (sealed_are_read s.noted (filled s.others) (s.one_line, filled_are s.others are.1)).1;
      resumption = resumption;
      from = ap resumed (sym is) ∙ e;
      leads = leads_on text bytes resumption s e;
    }

pub all_by_hand : {E : Type 0} (journal text : List ℕ) (resumption : Resumption) (r : Result (Result (List ℕ) Damage) E) → text ≡ unquoted_lines (lines_in journal) → resumed text ≡ Ok resumption
    → IfOk r (λ q. IfOk q (λ bytes. IsSealedFrom text bytes)) → IfOk r (λ q. IfOk q (λ bytes. IsSealedByHand journal bytes))
all_by_hand journal text resumption (Err error) is e h = tt
all_by_hand journal text resumption (Ok (Err damage)) is e h = tt
all_by_hand journal text resumption (Ok (Ok bytes)) is e h = by_hand journal text bytes resumption is e h

-- ---- one line after the other

pub record IsSealedUpTo (first : List ℕ) (all left : List (List ℕ)) (bytes : List ℕ) (chain : Chain) : Type 0 where
  pub done : List (List ℕ)
  pub part : filled all ≡ done ++ filled left
  pub form : bytes ≡ sealed start (first ∷ done)
  pub last : chain ≡ chain_after start (first ∷ done)

pub first_sealed : (first bytes empty : List ℕ) (chain : Chain) (all : List (List ℕ)) → empty ≡ [] → bytes ≡ empty ++ with_line (sealed_line start first) [] → chain ≡ behind start first → IsSealedUpTo first all all bytes chain
first_sealed first bytes empty chain all none e last = record { done = []; part = refl; form = e ∙ ap (λ (t : List ℕ). t ++ with_line (sealed_line start first) []) none; last = last }

pub empty_skipped : (first : List ℕ) (all left lines : List (List ℕ)) (line bytes : List ℕ) (chain : Chain) → IsSealedUpTo first all left bytes chain → left ≡ line ∷ lines → bytes_eq line [] ≡ true → IsSealedUpTo first all lines bytes chain
empty_skipped first all left lines line bytes chain up is empty =
    record {
      done = up.done;
      part = up.part ∙ ap (λ (ls : List (List ℕ)). up.done ++ filled ls) is ∙ ap (λ b. up.done ++ cond b (filled lines) (line ∷ filled lines)) empty;
      form = up.form;
      last = up.last;
    }

pub next_sealed : (first : List ℕ) (all left lines : List (List ℕ)) (line bytes more : List ℕ) (chain next : Chain) → IsSealedUpTo first all left bytes chain → left ≡ line ∷ lines → bytes_eq line [] ≡ false
    → more ≡ bytes ++ with_line (sealed_line chain line) [] → next ≡ behind chain line → IsSealedUpTo first all lines more next
next_sealed first all left lines line bytes more chain next up is some added behind_it =
    record {
      done = up.done ++ line ∷ [];
      part =
          up.part ∙ ap (λ (ls : List (List ℕ)). up.done ++ filled ls) is ∙ ap (λ b. up.done ++ cond b (filled lines) (line ∷ filled lines)) some ∙ sym (append_assoc up.done (line ∷ []) (filled lines));
      form =
          added ∙ ap (λ (t : List ℕ). t ++ with_line (sealed_line chain line) []) up.form ∙ ap (λ (c : Chain). sealed start (first ∷ up.done) ++ sealed c (line ∷ [])) up.last
          ∙ sym (sealed_more start (first ∷ up.done) (line ∷ []));
      last = behind_it ∙ ap (λ (c : Chain). behind c line) up.last ∙ sym (after_more start (first ∷ up.done) (line ∷ []));
    }

pub all_sealed : (first : List ℕ) (all left : List (List ℕ)) (bytes : List ℕ) (chain : Chain) → IsSealedUpTo first all left bytes chain → left ≡ [] → bytes ≡ sealed start (first ∷ filled all)
all_sealed first all left bytes chain up is =
    let whole : filled all ≡ up.done = up.part ∙ ap (λ (ls : List (List ℕ)). up.done ++ filled ls) is ∙ append-nil up.done in
    up.form ∙ ap (λ (ls : List (List ℕ)). sealed start (first ∷ ls)) (sym whole)

-- a line that is not empty, as its length tells
pub not_empty : (line : List ℕ) (empty : Bool) → empty ≡ (length line == 0) → empty ≡ false → bytes_eq line [] ≡ false
not_empty [] empty e h = let same : true ≡ false = sym e ∙ h in cc
not_empty (b ∷ bs) empty e h = refl
