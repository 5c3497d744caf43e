-- A line with the mark opens what it opens without it.
use Rattle.std.proofs.Common.{◌≡◌, ◌≤◌, ℕ, Bool, true, false, cond, not, ◌||◌, List, length, Option, Some, None, IfSome, Result, Ok, Err, IfOk, Ordering, Less, Equal, Greater, nat_cmp, refl, sym, ap, subst, ◌∙◌, arith}
use Rattle.std.specs.Prelude.{option_map, codes, nat_eq, unwrap_or}
use Rattle.std.specs.Cmp.Lexicographic.{slice_cmp}
use Rattle.std.specs.List.{list_any, starts_with}
use Rattle.std.specs.Ordering.{match_ordering}
use Rattle.std.specs.Result.{result_ok}
use Rattle.serde_json.specs.Data.{Data, Members, no_members, member, null, boolean, number, string, array, object, put, depth, members_depth}
use Rattle.serde_json.specs.Find.{get}
use Rattle.serde_json.specs.Read.{max_depth}
use Rattle.serde_json.specs.Written.{compact_text, has_float}
use Rattle.serde_json.proofs.Views.{get_member-put_other}
use Rattle.json_values.specs.Texts.{is_line_feed, json_of}
use Rattle.sd_documents.specs.Config.{config_said}
use Rattle.replay_lines.specs.Configurations.{opened, specs_of}
use Rattle.durable_journal.specs.Configured.{IsLineGiven}
use Rattle.sealed_lines.specs.Lines.{HasNoFeed}
use Rattle.durable_journal.specs.Marks.{SaysMarked, mark_data, mark_name, mark_text, marked}
use Rattle.durable_journal.proofs.Beginnings.{marked_begins}
use Rattle.durable_journal.proofs.Opening.{opened_as, opened_data, opened_parts, shallow}

-- ---- how deep it is

put_levels_at : (o : Ordering) (n : ℕ) (k l : List ℕ) (d e : Data) (ms : Members) → depth d ≤ n → depth e ≤ n → members_depth ms ≤ n → members_depth (put k d ms) ≤ n
    → members_depth (match_ordering o (member k d (member l e ms)) (member l d ms) (member l e (put k d ms))) ≤ n
put_levels_at Less n k l d e ms hd he hms later = omega arith
put_levels_at Equal n k l d e ms hd he hms later = omega arith
put_levels_at Greater n k l d e ms hd he hms later = omega arith

pub put_levels : (n : ℕ) (k : List ℕ) (d : Data) (ms : Members) → depth d ≤ n → members_depth ms ≤ n → members_depth (put k d ms) ≤ n
put_levels n k d no_members hd hms = omega arith
put_levels n k d (member l e ms) hd hms =
    let he : depth e ≤ n = omega arith in
    let rest : members_depth ms ≤ n = omega arith in
    put_levels_at (slice_cmp nat_cmp k l) n k l d e ms hd he rest (put_levels n k d ms hd rest)

pub marked_levels : (d m : Data) → marked d ≡ Some m → depth d ≤ max_depth → depth m ≤ max_depth
marked_levels null m e h = cc
marked_levels (boolean b) m e h = cc
marked_levels (number n) m e h = cc
marked_levels (string s) m e h = cc
marked_levels (array ds) m e h = cc
marked_levels (object ms) m e h =
    let inside : members_depth ms ≤ 126 = omega (arith, h) in
    let deep : members_depth (put mark_name mark_data ms) ≤ 126 = put_levels 126 mark_name mark_data ms (omega arith) inside in
    subst (λ (x : Data). depth x ≤ max_depth) (ap (λ (o : Option Data). unwrap_or o null) e) (omega (arith, deep))

-- ---- what it opens

said_same : (ms : Members) → config_said (object (put mark_name mark_data ms)) ≡ config_said (object ms)
unfolding config_said
said_same ms = rw (get_member-put_other (codes "scrape_configs") mark_name mark_data ms (λ e. omega (arith, ap length e))) refl

history_same : (ms : Members) → get (codes "history") (object (put mark_name mark_data ms)) ≡ get (codes "history") (object ms)
history_same ms = get_member-put_other (codes "history") mark_name mark_data ms (λ e. omega (arith, ap length e))

rounds_same : (ms : Members) → get (codes "report_rounds") (object (put mark_name mark_data ms)) ≡ get (codes "report_rounds") (object ms)
rounds_same ms = get_member-put_other (codes "report_rounds") mark_name mark_data ms (λ e. omega (arith, ap length e))

opened_object : (ms : Members) → opened_data (Some (object (put mark_name mark_data ms))) ≡ opened_data (Some (object ms))
opened_object ms = λ i. opened_parts (history_same ms i) (rounds_same ms i) (option_map specs_of (result_ok (said_same ms i)))

opened_with_mark : (d m : Data) → marked d ≡ Some m → opened_data (Some m) ≡ opened_data (Some d)
opened_with_mark null m e = cc
opened_with_mark (boolean b) m e = cc
opened_with_mark (number n) m e = cc
opened_with_mark (string s) m e = cc
opened_with_mark (array ds) m e = cc
opened_with_mark (object ms) m e = ap opened_data (sym e) ∙ opened_object ms

pub says_opens : (line : List ℕ) (d : Data) → depth d ≤ max_depth → SaysMarked d line → opened line ≡ opened_data (Some d)
says_opens line d low s = opened_as line ∙ ap opened_data (s.says low) ∙ opened_with_mark d s.value s.is

-- ---- the line that is given, if one is

pub if_given : {E : Type 0} (r : Result (Option (List ℕ)) E) (P Q : List ℕ → Type 0) → ((line : List ℕ) → P line → Q line) → IfOk r (λ o. IfSome o P) → IfOk r (λ o. IfSome o Q)
if_given (Err e) P Q f h = tt
if_given (Ok None) P Q f h = tt
if_given (Ok (Some line)) P Q f h = f line h

line_by : (left_out : Bool) (P : List ℕ → Type 0) (text : List ℕ) (o : Option (List ℕ)) → P text → o ≡ cond left_out None (Some text) → IfSome o P
line_by true P text o holds e = subst (λ (q : Option (List ℕ)). IfSome q P) (sym e) tt
line_by false P text o holds e = subst (λ (q : Option (List ℕ)). IfSome q P) (sym e) holds

pub line_says : (left_out : Bool) (d m : Data) (text : List ℕ) (o : Option (List ℕ)) → marked d ≡ Some m → (depth m ≤ max_depth → json_of text ≡ Some m) → o ≡ cond left_out None (Some text) → IfSome o (SaysMarked d)
line_says left_out d m text o is back e = line_by left_out (SaysMarked d) text o (record { value = m; is = is; says = λ low. back (marked_levels d m is low) }) e

no_feed_by : (fed out : Bool) (text : List ℕ) (o : Option (List ℕ)) → list_any is_line_feed text ≡ fed → o ≡ cond (fed || out) None (Some text) → IfSome o (λ line. HasNoFeed line)
no_feed_by true out text o is e = subst (λ (q : Option (List ℕ)). IfSome q (λ line. HasNoFeed line)) (sym e) tt
no_feed_by false out text o is e = line_by out (λ line. HasNoFeed line) text o is e

pub line_has_no_feed : (text : List ℕ) (o : Option (List ℕ)) → o ≡ cond (list_any is_line_feed text || not (starts_with nat_eq text mark_text)) None (Some text) → IfSome o (λ line. HasNoFeed line)
line_has_no_feed text o e = no_feed_by (list_any is_line_feed text) (not (starts_with nat_eq text mark_text)) text o refl e

begins_by : (fed begun : Bool) (text : List ℕ) (o : Option (List ℕ)) → starts_with nat_eq text mark_text ≡ begun → o ≡ cond (fed || not begun) None (Some text) → IfSome o (λ line. starts_with nat_eq line mark_text ≡ true)
begins_by true begun text o is e = subst (λ (q : Option (List ℕ)). IfSome q (λ line. starts_with nat_eq line mark_text ≡ true)) (sym e) tt
begins_by false true text o is e = subst (λ (q : Option (List ℕ)). IfSome q (λ line. starts_with nat_eq line mark_text ≡ true)) (sym e) is
begins_by false false text o is e = subst (λ (q : Option (List ℕ)). IfSome q (λ line. starts_with nat_eq line mark_text ≡ true)) (sym e) tt

pub line_begins : (text : List ℕ) (o : Option (List ℕ)) → o ≡ cond (list_any is_line_feed text || not (starts_with nat_eq text mark_text)) None (Some text) → IfSome o (λ line. starts_with nat_eq line mark_text ≡ true)
line_begins text o e = begins_by (list_any is_line_feed text) (starts_with nat_eq text mark_text) text o refl e

pub line_given : (d m : Data) (text : List ℕ) (o : Option (List ℕ)) → marked d ≡ Some m → (has_float m ≡ false → text ≡ compact_text m) → (has_float m ≡ false → list_any is_line_feed text ≡ false)
    → o ≡ cond (list_any is_line_feed text || not (starts_with nat_eq text mark_text)) None (Some text) → IsLineGiven (marked d) o
line_given d m text o is form one e =
    subst (λ q. IsLineGiven q o) (sym is)
    (λ none.
    e ∙ ap (λ b. cond (b || not (starts_with nat_eq text mark_text)) None (Some text)) (one none)
    ∙ ap (λ b. cond (not b) None (Some text)) (ap (λ (t : List ℕ). starts_with nat_eq t mark_text) (form none) ∙ marked_begins d m is)
    ∙ ap Some (form none))

pub line_opens : {E : Type 0} (document : List ℕ) (d : Data) (r : Result (Option (List ℕ)) E) → json_of document ≡ Some d → IfOk r (λ o. IfSome o (SaysMarked d)) → IfOk r (λ o. IfSome o (λ line. opened line ≡ opened document))
line_opens document d r said says =
    if_given r (SaysMarked d) (λ line. opened line ≡ opened document)
    (λ line s. says_opens line d (shallow document d said) s ∙ ap opened_data (sym said) ∙ sym (opened_as document)) says
