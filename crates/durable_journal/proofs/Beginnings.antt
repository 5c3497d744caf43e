-- What the beginning of a file tells, and goes on telling when more is appended.
use Rattle.std.proofs.Common.{◌≡◌, ℕ, Bool, true, false, cond, not, ◌&&◌, ◌||◌, List, [], ◌∷◌, ◌++◌, length, drop, Option, Some, None, BTreeMap, String, Global, string_bytes, refl, sym, ap, ◌∙◌, append_assoc, rules}
use Rattle.std.specs.Prelude.{nat_eq, codes, ◌==◌}
use Rattle.std.specs.List.{list_all, list_any, starts_with}
use Rattle.std.specs.Option.{option_map_or}
use Rattle.std.proofs.lemmas.Bool.{eq-eqb}
use Rattle.std.proofs.lemmas.Bool.Decides.{Decides-eqb}
use Rattle.std.proofs.lemmas.List.Folds.{list_any-append}
use Rattle.std.proofs.lemmas.Slice.Eq.{starts_is}
use Rattle.json.specs.Print.{escape_byte}
use Rattle.serde_json.specs.Data.{Data, Members, no_members, member, null, boolean, number, string, array, object, put}
use Rattle.serde_json.specs.View.{view, members_view}
use Rattle.serde_json.specs.Written.{compact_text}
use Rattle.serde_json.specs.declared.value.Value.{Value, Object, String as StringValue, the_lemmas}
use Rattle.serde_json.proofs.Views.{view-Object}
use Rattle.json_values.specs.Texts.{is_line_feed}
use Rattle.durable_journal.specs.Marks.{agrees, begins_event, begins_journal, behind_feed, bin_prices_text, collector_text, event_name_text, has_event, has_history, mark_data, mark_name, mark_text, marked}

-- ---- the mark

pub view-String : (s : String Global) → view (StringValue s) ≡ string (string_bytes s)
view-String s = search (rules, the_lemmas)

-- an object with the mark's value put at its name
pub put_mark : (value : Value) (old new : BTreeMap (String Global) Value) (s : String Global) → value ≡ Object old → members_view new.entries ≡ put mark_name (view (StringValue s)) (members_view old.entries)
    → string_bytes s ≡ codes "allocd journal" → Some (view (Object new)) ≡ marked (view value)
put_mark value old new s is added said =
    ap Some (view-Object new ∙ ap object (added ∙ ap (λ (d : Data). put mark_name d (members_view old.entries)) (view-String s ∙ ap string said))) ∙ sym (ap marked (ap view is ∙ view-Object old))

object_begins : (ms : Members) → starts_with nat_eq (compact_text (object (put mark_name mark_data ms))) mark_text ≡ true
unfolding escape_byte
object_begins no_members = refl
object_begins (member [] d ms) = refl
object_begins (member (c ∷ cs) d ms) = refl

-- the text of a marked value begins with the mark
pub marked_begins : (d m : Data) → marked d ≡ Some m → starts_with nat_eq (compact_text m) mark_text ≡ true
marked_begins null m e = cc
marked_begins (boolean b) m e = cc
marked_begins (number n) m e = cc
marked_begins (string s) m e = cc
marked_begins (array ds) m e = cc
marked_begins (object ms) m e = let same : object (put mark_name mark_data ms) ≡ m = cc in rw (← same) (object_begins ms)

-- ---- what is appended changes nothing of it

pub starts_more : (text more wanted : List ℕ) → starts_with nat_eq text wanted ≡ true → starts_with nat_eq (text ++ more) wanted ≡ true
starts_more text more wanted h =
    let split = (starts_is Decides-eqb text wanted _ refl).0 h in
    (starts_is Decides-eqb (text ++ more) wanted _ refl).1 (drop (length wanted) text ++ more) (ap (λ (t : List ℕ). t ++ more) split ∙ append_assoc wanted (drop (length wanted) text) more)

either_more : (a b c d : Bool) → (a ≡ true → c ≡ true) → (b ≡ true → d ≡ true) → (a || b) ≡ true → (c || d) ≡ true
either_more true b c d f g h = rw (f refl) refl
either_more false b true d f g h = refl
either_more false b false d f g h = g h

both_more : (a b c d : Bool) → (a ≡ true → c ≡ true) → (b ≡ true → d ≡ true) → (a && b) ≡ true → (c && d) ≡ true
both_more true b c d f g h = rw (f refl) (g h)
both_more false b c d f g h = cc

pub fed_more : (text more : List ℕ) → list_any is_line_feed text ≡ true → list_any is_line_feed (text ++ more) ≡ true
fed_more text more h = list_any-append is_line_feed text more ∙ ap (λ b. b || list_any is_line_feed more) h

event_more : (text more : List ℕ) → begins_event text ≡ true → begins_event (text ++ more) ≡ true
event_more text more h =
    either_more _ _ _ _ (starts_more text more bin_prices_text) (either_more _ _ _ _ (starts_more text more collector_text) (starts_more text more event_name_text)) h

behind_by : (fed : Bool) (bs more : List ℕ) (rest : List ℕ) → (behind_feed bs ≡ Some rest → behind_feed (bs ++ more) ≡ Some (rest ++ more)) → cond fed (Some bs) (behind_feed bs) ≡ Some rest
    → cond fed (Some (bs ++ more)) (behind_feed (bs ++ more)) ≡ Some (rest ++ more)
behind_by true bs more rest later e = let same : bs ≡ rest = cc in ap (λ (t : List ℕ). Some (t ++ more)) same
behind_by false bs more rest later e = later e

behind_more : (bs more rest : List ℕ) → behind_feed bs ≡ Some rest → behind_feed (bs ++ more) ≡ Some (rest ++ more)
behind_more [] more rest e = cc
behind_more (b ∷ bs) more rest e = behind_by (b == 10) bs more rest (behind_more bs more rest) e

has_event_by : (o : Option (List ℕ)) (text more : List ℕ) → behind_feed text ≡ o → option_map_or (λ rest. list_any is_line_feed rest && begins_event rest) o false ≡ true → has_event (text ++ more) ≡ true
has_event_by None text more is h = cc
has_event_by (Some rest) text more is h =
    ap (λ (o : Option (List ℕ)). option_map_or (λ rest. list_any is_line_feed rest && begins_event rest) o false) (behind_more text more rest is)
    ∙ both_more _ _ _ _ (fed_more rest more) (event_more rest more) h

has_event_more : (text more : List ℕ) → has_event text ≡ true → has_event (text ++ more) ≡ true
has_event_more text more h = has_event_by (behind_feed text) text more refl h

history_by : (fed a b c d : Bool) → (a ≡ true → c ≡ true) → (b ≡ true → d ≡ true) → cond fed false (a || b) ≡ true → cond fed false (c || d) ≡ true
history_by true a b c d f g h = h
history_by false a b c d f g h = either_more a b c d f g h

has_history_more : (text more : List ℕ) → has_history text ≡ true → has_history (text ++ more) ≡ true
has_history_more [] more h = cc
has_history_more (b ∷ bs) more h =
    history_by (b == 10) _ _ _ _ (starts_more (b ∷ bs) more (codes "\"history\":{\"allocation\":")) (has_history_more bs more) h

-- what begins as a journal goes on doing so
pub begins_more : (text more : List ℕ) → begins_journal text ≡ true → begins_journal (text ++ more) ≡ true
begins_more text more h = either_more _ _ _ _ (starts_more text more mark_text) (either_more _ _ _ _ (has_event_more text more) (has_history_more text more)) h

-- ---- a beginning of a line that begins as wanted

abbrev pub has_no_zero : List ℕ → Bool
has_no_zero bytes = list_all (λ x. not (nat_eq x 0)) bytes

both_parts : (a b : Bool) → (a && b) ≡ true → (a ≡ true) × (b ≡ true)
both_parts true b h = (refl, h)
both_parts false b h = cc

agrees_by : (zero same : Bool) (rest later : Bool) → not zero ≡ true → same ≡ true → later ≡ true → cond zero rest (same && later) ≡ true
agrees_by true same rest later z s l = cc
agrees_by false same rest later z s l = rw (s, l) refl

pub agrees_beginning : (wanted front lost rest : List ℕ) → has_no_zero wanted ≡ true → front ++ lost ≡ wanted ++ rest → agrees wanted front ≡ true
agrees_beginning [] front lost rest some e = refl
agrees_beginning (w ∷ wanted) [] lost rest some e = refl
agrees_beginning (w ∷ wanted) (b ∷ front) lost rest some e =
    let parts = both_parts (not (nat_eq w 0)) (has_no_zero wanted) some in
    let heads : w ≡ b = cc in
    let tails : front ++ lost ≡ wanted ++ rest = cc in
    agrees_by (nat_eq b 0) (nat_eq w b) _ (agrees wanted front) (rw (← heads) parts.0) (eq-eqb w b heads) (agrees_beginning wanted front lost rest parts.1 tails)
