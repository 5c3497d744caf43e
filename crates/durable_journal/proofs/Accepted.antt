-- What a crash leaves of a journal is told to be one.
use Rattle.std.proofs.Common.{◌≡◌, ℕ, Bool, true, false, cond, ◌&&◌, ◌||◌, Option, Some, None, List, [], ◌∷◌, ◌++◌, length, drop, inl, inr, refl, sym, ap, subst, ◌∙◌, append_assoc}
use Rattle.std.specs.Prelude.{codes, nat_eq}
use Rattle.std.specs.List.{list_any, starts_with}
use Rattle.std.proofs.lemmas.Bool.{eq-eqb}
use Rattle.std.proofs.lemmas.Bool.Decides.{Decides-eqb}
use Rattle.std.proofs.lemmas.Slice.Eq.{starts_is}
use Rattle.std.proofs.Math.Seq.{drop-length}
use Rattle.json.specs.Print.{escape_byte}
use Rattle.serde_json.specs.Data.{Data, null, boolean, number, string, array, object, Members, no_members, member}
use Rattle.serde_json.specs.Written.{compact_text, members_text}
use Rattle.json_values.specs.Texts.{is_line_feed}
use Rattle.json_values.proofs.OneLine.{one_line}
use Rattle.reach_rules.specs.OwnLimits.{LimitList}
use Rattle.reach_rules.specs.declared.rule.ReachRule.{ReachRule}
use Rattle.scrape_books.specs.declared.report.Outcome.{Outcome}
use Rattle.scrape_books.specs.declared.report.Outcome.TheVariants.{Up, Down}
use Rattle.spread_certificate.specs.declared.even.Even.{Even}
use Rattle.spread_certificate.specs.declared.spread.Spread.{Spread as SpreadPlan}
use Rattle.fleet_events.specs.Writing.{event_data, event_text, join_data, release_data, report_data, told_spread_data}
use Rattle.fleet_events.specs.declared.event.Event.{Event}
use Rattle.fleet_events.specs.declared.event.Event.TheVariants.{Discover, Join, Leave, Drain, SetLimits, Install, Spread, NextRound, Take, Serve, Release, Report}
use Rattle.durable_journal.specs.Events.{events_text}
use Rattle.sealed_lines.specs.Lines.{HasNoFeed, with_line}
use Rattle.durable_journal.specs.Lines.{whole_part}
use Rattle.durable_journal.specs.Marks.{agrees, agrees_with_event, begins_journal, bin_prices_text, collector_text, event_name_text, is_begun, is_journal_text, mark_text, torn_end}
use Rattle.durable_journal.proofs.Beginnings.{agrees_beginning, begins_more, fed_more, has_no_zero, starts_more}
use Rattle.durable_journal.proofs.WholeParts.{cut, fed, keeps, none}

both : {a b : Bool} → a ≡ true → b ≡ true → (a && b) ≡ true
both h k = rw (h, k) refl

or_left : (a b : Bool) → a ≡ true → (a || b) ≡ true
or_left a b h = rw h refl

or_right : (a b : Bool) → b ≡ true → (a || b) ≡ true
or_right true b h = refl
or_right false b h = h

-- ---- a first line

begun_first : (front lost rest : List ℕ) → front ++ lost ≡ mark_text ++ rest → is_begun front ≡ true
begun_first [] lost rest e = refl
begun_first (b ∷ front) lost rest e =
    let brace : b ≡ 0x7B = cc in
    ap (λ c. c && agrees mark_text (b ∷ front)) (eq-eqb b 0x7B brace) ∙ agrees_beginning mark_text (b ∷ front) lost rest refl e

-- with no line feed it is a beginning, and with one it is whole
told_by : (is_fed : Bool) (front : List ℕ) → list_any is_line_feed front ≡ is_fed → (is_fed ≡ true → (begins_journal front && agrees_with_event (torn_end front)) ≡ true) → (is_fed ≡ false → is_begun front ≡ true)
    → is_journal_text front ≡ true
told_by true front is whole part = ap (λ b. cond b (begins_journal front && agrees_with_event (torn_end front)) (is_begun front)) is ∙ whole refl
told_by false front is whole part = ap (λ b. cond b (begins_journal front && agrees_with_event (torn_end front)) (is_begun front)) is ∙ part refl

-- nothing is torn behind a line
no_torn : (line : List ℕ) → torn_end (with_line line []) ≡ []
no_torn line = ap (λ (t : List ℕ). drop (length t) (with_line line [])) (keeps line []) ∙ drop-length (with_line line [])

whole_first : (line : List ℕ) → starts_with nat_eq line mark_text ≡ true → is_journal_text (with_line line []) ≡ true
whole_first line begins =
    told_by true (with_line line []) (fed line [])
    (λ _. both (or_left _ _ (starts_more line (10 ∷ []) mark_text begins)) (ap agrees_with_event (no_torn line))) (λ e. cc)

pub accepts_first : (line front lost : List ℕ) → HasNoFeed line → starts_with nat_eq line mark_text ≡ true → front ++ lost ≡ with_line line [] → is_journal_text front ≡ true
accepts_first line front lost absent begins e =
    elim (cut line [] front lost absent (sym e)) as (λ x. is_journal_text front ≡ true) [
      | inl none ↦
          let split = (starts_is Decides-eqb line mark_text _ refl).0 begins in
          told_by false front none (λ e. cc) (λ _. begun_first front lost (drop (length mark_text) line ++ 10 ∷ []) (e ∙ ap (λ (t : List ℕ). t ++ 10 ∷ []) split ∙ append_assoc mark_text (drop (length mark_text) line) (10 ∷ [])))
      | inr beyond ↦
          let nothing : beyond.more ≡ [] = no_more beyond.more lost beyond.ends in
          subst (λ (t : List ℕ). is_journal_text t ≡ true) (sym (beyond.begins ∙ ap (with_line line) nothing)) (whole_first line begins)
    ]
  where
    no_more : (more lost : List ℕ) → [] ≡ more ++ lost → more ≡ []
    no_more [] lost e = refl
    no_more (b ∷ more) lost e = cc

-- ---- lines of events

-- a beginning of a text that begins as wanted, and of what follows it
begun_as : (wanted text after front lost rest : List ℕ) → has_no_zero wanted ≡ true → text ≡ wanted ++ after → front ++ lost ≡ text ++ rest → agrees wanted front ≡ true
begun_as wanted text after front lost rest some is e =
    agrees_beginning wanted front lost (after ++ rest) some (e ∙ ap (λ (t : List ℕ). t ++ rest) is ∙ append_assoc wanted after rest)

-- the first member's value, and the other members
abbrev first_value : Data → Data
first_value null = null
first_value (boolean b) = null
first_value (number n) = null
first_value (string s) = null
first_value (array ds) = null
first_value (object no_members) = null
first_value (object (member k d ms)) = d

abbrev later_members : Data → Members
later_members null = no_members
later_members (boolean b) = no_members
later_members (number n) = no_members
later_members (string s) = no_members
later_members (array ds) = no_members
later_members (object no_members) = no_members
later_members (object (member k d ms)) = ms

-- a value whose first member has this name
abbrev first_named : List ℕ → Data → Data
first_named name x = object (member name (first_value x) (later_members x))

-- what stands behind the name
abbrev behind_name : Data → List ℕ
behind_name x = compact_text (first_value x) ++ members_text true (later_members x)

bin_prices_first : (x : Data) (front lost rest : List ℕ) → front ++ lost ≡ compact_text (first_named (codes "bin_prices") x) ++ rest → agrees_with_event front ≡ true
unfolding escape_byte
bin_prices_first x front lost rest e =
    or_left _ _ (begun_as bin_prices_text (compact_text (first_named (codes "bin_prices") x)) (behind_name x) front lost rest refl refl e)

collector_first : (x : Data) (front lost rest : List ℕ) → front ++ lost ≡ compact_text (first_named (codes "collector") x) ++ rest → agrees_with_event front ≡ true
unfolding escape_byte
collector_first x front lost rest e =
    or_right (agrees bin_prices_text front) _ (or_left _ _ (begun_as collector_text (compact_text (first_named (codes "collector") x)) (behind_name x) front lost rest refl refl e))

event_first : (x : Data) (front lost rest : List ℕ) → front ++ lost ≡ compact_text (first_named (codes "event") x) ++ rest → agrees_with_event front ≡ true
unfolding escape_byte
event_first x front lost rest e =
    or_right (agrees bin_prices_text front) _ (or_right (agrees collector_text front) _ (begun_as event_name_text (compact_text (first_named (codes "event") x)) (behind_name x) front lost rest refl refl e))

join_agrees : (name : List ℕ) (reach : List ReachRule) (limits : LimitList) (front lost rest : List ℕ) → front ++ lost ≡ compact_text (join_data name reach limits) ++ rest → agrees_with_event front ≡ true
join_agrees name reach [] front lost rest e = event_first (join_data name reach []) front lost rest e
join_agrees name reach (entry ∷ limits) front lost rest e = event_first (join_data name reach (entry ∷ limits)) front lost rest e

report_agrees : (collector allocation target round : ℕ) (outcome : Outcome) (front lost rest : List ℕ) → front ++ lost ≡ compact_text (report_data collector allocation target round outcome) ++ rest → agrees_with_event front ≡ true
report_agrees collector allocation target round (Up samples) front lost rest e = collector_first (report_data collector allocation target round (Up samples)) front lost rest e
report_agrees collector allocation target round Down front lost rest e = collector_first (report_data collector allocation target round Down) front lost rest e

release_agrees : (collector : ℕ) (job : Option (List ℕ)) (front lost rest : List ℕ) → front ++ lost ≡ compact_text (release_data collector job) ++ rest → agrees_with_event front ≡ true
release_agrees collector None front lost rest e = collector_first (release_data collector None) front lost rest e
release_agrees collector (Some job) front lost rest e = collector_first (release_data collector (Some job)) front lost rest e

spread_agrees : (spread : SpreadPlan) (told : Option Even) (front lost rest : List ℕ) → front ++ lost ≡ compact_text (told_spread_data spread told) ++ rest → agrees_with_event front ≡ true
spread_agrees spread None front lost rest e = bin_prices_first (told_spread_data spread None) front lost rest e
spread_agrees spread (Some even) front lost rest e = bin_prices_first (told_spread_data spread (Some even)) front lost rest e

pub event_agrees : (event : Event) (front lost rest : List ℕ) → front ++ lost ≡ event_text event ++ rest → agrees_with_event front ≡ true
event_agrees (Discover job source targets) front lost rest e = event_first (event_data (Discover job source targets)) front lost rest e
event_agrees (Join name reach limits) front lost rest e = join_agrees name reach limits front lost rest e
event_agrees (Leave collector) front lost rest e = collector_first (event_data (Leave collector)) front lost rest e
event_agrees (Drain collector) front lost rest e = collector_first (event_data (Drain collector)) front lost rest e
event_agrees (SetLimits collector limits) front lost rest e = collector_first (event_data (SetLimits collector limits)) front lost rest e
event_agrees (Install plan) front lost rest e = bin_prices_first (event_data (Install plan)) front lost rest e
event_agrees (Spread spread) front lost rest e = spread_agrees spread spread.even front lost rest e
event_agrees NextRound front lost rest e = event_first (event_data NextRound) front lost rest e
event_agrees (Take collector) front lost rest e = collector_first (event_data (Take collector)) front lost rest e
event_agrees (Serve collector job) front lost rest e = collector_first (event_data (Serve collector job)) front lost rest e
event_agrees (Release collector job) front lost rest e = release_agrees collector job front lost rest e
event_agrees (Report report) front lost rest e = report_agrees report.collector report.allocation report.target report.round report.outcome front lost rest e

drop_both : (xs ys zs : List ℕ) → drop (length (xs ++ ys)) (xs ++ zs) ≡ drop (length ys) zs
drop_both [] ys zs = refl
drop_both (x ∷ xs) ys zs = drop_both xs ys zs

pub torn_alone : (front : List ℕ) → HasNoFeed front → torn_end front ≡ front
torn_alone front absent = ap (λ (t : List ℕ). drop (length t) front) (none front absent)

pub torn_behind : (line more : List ℕ) → torn_end (with_line line more) ≡ torn_end more
torn_behind line more = ap (λ (t : List ℕ). drop (length t) (with_line line more)) (keeps line more) ∙ drop_both line (10 ∷ whole_part more) (10 ∷ more)

-- what a crash leaves of lines of events ends in a beginning of such a line
pub torn_agrees : (events : List Event) (front lost : List ℕ) → front ++ lost ≡ events_text events → agrees_with_event (torn_end front) ≡ true
torn_agrees [] [] lost e = refl
torn_agrees [] (b ∷ front) lost e = cc
torn_agrees (event ∷ events) front lost e =
    elim (cut (event_text event) (events_text events) front lost (one_line (event_data event)) (sym e)) as (λ x. agrees_with_event (torn_end front) ≡ true) [
      | inl absent ↦ ap agrees_with_event (torn_alone front absent) ∙ event_agrees event front lost (10 ∷ events_text events) e
      | inr beyond ↦ ap (λ (t : List ℕ). agrees_with_event (torn_end t)) beyond.begins ∙ ap agrees_with_event (torn_behind (event_text event) beyond.more) ∙ torn_agrees events beyond.more lost (sym beyond.ends)
    ]

-- a journal, and behind it what ends in a beginning of an event
pub accepted_by : (text front : List ℕ) → list_any is_line_feed text ≡ true → whole_part (text ++ front) ≡ text ++ whole_part front → begins_journal text ≡ true → agrees_with_event (torn_end front) ≡ true
    → is_journal_text (text ++ front) ≡ true
accepted_by text front is_fed kept begins ends =
    let torn : torn_end (text ++ front) ≡ torn_end front = ap (λ (t : List ℕ). drop (length t) (text ++ front)) kept ∙ drop_both text (whole_part front) front in
    told_by true (text ++ front) (fed_more text front is_fed) (λ _. both (begins_more text front begins) (ap agrees_with_event torn ∙ ends)) (λ e. cc)

pub accepted : (text front lost : List ℕ) (others : List Event) → list_any is_line_feed text ≡ true → whole_part (text ++ front) ≡ text ++ whole_part front → begins_journal text ≡ true → front ++ lost ≡ events_text others
    → is_journal_text (text ++ front) ≡ true
accepted text front lost others is_fed kept begins e = accepted_by text front is_fed kept begins (torn_agrees others front lost e)
