-- The mark of a journal: the member with which its first line begins. By it a file is told from every other document.
use Rattle.std.specs.Prelude.{◌≡◌, ◌≤◌, ℕ, ◌-◌, List, [], ◌∷◌, length, drop, nat_le, Bool, true, false, ◌&&◌, ◌||◌, nat_eq, Option, None, Some, option_map, Result, Ok, Err, codes, if◌then◌else◌}
use Rattle.std.specs.List.{list_all, list_any, starts_with}
use Rattle.std.specs.Option.{option_map_or}
use Rattle.serde_json.specs.Data.{Data, string, object, put, depth}
use Rattle.serde_json.specs.Find.{as_object}
use Rattle.serde_json.specs.Read.{max_depth}
use Rattle.json_values.specs.Texts.{is_line_feed, json_of}
use Rattle.sealed_lines.specs.Reading.{is_sealed, unsealed}
use Rattle.sealed_lines.specs.declared.unsealing.PlainLines.{PlainLines}
use Rattle.sealed_lines.specs.declared.unsealing.WrongDigest.{WrongDigest}
use Rattle.durable_journal.specs.Lines.{whole_part}
use Rattle.durable_journal.specs.declared.recovering.Recovered.{Recovered}
use Rattle.durable_journal.specs.declared.recovering.Recovered.TheVariants.{Altered, Found, Other, TooLong}
use Rattle.durable_journal.specs.declared.recovering.TheConstants.{MOST_JOURNAL}

-- the empty name: no other comes before it
abbrev pub mark_name : List ℕ
mark_name = []

abbrev pub mark_data : Data
mark_data = string (codes "allocd journal")

-- an object with the mark as its member, in place of one that it may have
abbrev pub marked : Data → Option Data
marked d = option_map (λ ms. object (put mark_name mark_data ms)) (as_object d)

-- the line says the object with the mark
pub record SaysMarked (d : Data) (line : List ℕ) : Type 0 where
  pub value : Data
  pub is : marked d ≡ Some value
  pub says : depth d ≤ max_depth → json_of line ≡ Some value

-- ---- which files are journals

-- the bytes with which a marked line begins
abbrev pub mark_text : List ℕ
mark_text = codes "{\"\":\"allocd journal\""

-- an event is an object whose first member is one of these
abbrev pub bin_prices_text : List ℕ
bin_prices_text = codes "{\"bin_prices\":"

abbrev pub collector_text : List ℕ
collector_text = codes "{\"collector\":"

abbrev pub event_name_text : List ℕ
event_name_text = codes "{\"event\":"

abbrev pub begins_event : List ℕ → Bool
begins_event bytes = starts_with nat_eq bytes bin_prices_text || (starts_with nat_eq bytes collector_text || starts_with nat_eq bytes event_name_text)

-- what stands behind the first line feed
abbrev pub behind_feed : List ℕ → Option (List ℕ)
behind_feed [] = None
behind_feed (b ∷ bs) = if is_line_feed b then Some bs else behind_feed bs

-- a whole line with an event behind the first line
abbrev pub has_event : List ℕ → Bool
has_event bytes = option_map_or (λ rest. list_any is_line_feed rest && begins_event rest) (behind_feed bytes) false

-- a history in the first line, as that of a renewed allocator has one
abbrev pub has_history : List ℕ → Bool
has_history [] = false
has_history (b ∷ bs) = if is_line_feed b then false else starts_with nat_eq (b ∷ bs) (codes "\"history\":{\"allocation\":") || has_history bs

-- a first line with the mark, or one that was written before there was a mark
abbrev pub begins_journal : List ℕ → Bool
begins_journal bytes = starts_with nat_eq bytes mark_text || (has_event bytes || has_history bytes)

-- a beginning of a line that begins so, or such a line: a crash may leave bytes of 0 in the place of what was to follow
abbrev pub agrees : List ℕ → List ℕ → Bool
agrees [] bytes = true
agrees (f ∷ front) [] = true
agrees (f ∷ front) (b ∷ bs) = if nat_eq b 0 then list_all (λ x. nat_eq x 0) bs else nat_eq f b && agrees front bs

abbrev pub agrees_with_event : List ℕ → Bool
agrees_with_event bytes = agrees bin_prices_text bytes || (agrees collector_text bytes || agrees event_name_text bytes)

-- what stands behind the last line feed
abbrev pub torn_end : List ℕ → List ℕ
torn_end bytes = drop (length (whole_part bytes)) bytes

-- nothing, or a beginning of a marked line
abbrev pub is_begun : List ℕ → Bool
is_begun [] = true
is_begun (b ∷ bs) = nat_eq b 0x7B && agrees mark_text (b ∷ bs)

-- the bytes of a journal, or what a crash may have left of one
abbrev pub is_journal_text : List ℕ → Bool
is_journal_text bytes = if list_any is_line_feed bytes then begins_journal bytes && agrees_with_event (torn_end bytes) else is_begun bytes

-- the whole lines of a file, which have so many bytes, and how many bytes follow them
abbrev pub found_as : ℕ → ℕ → Result PlainLines WrongDigest → Recovered
found_as whole torn (Ok plain) = Found plain.text (Some plain.chain) whole torn
found_as whole torn (Err wrong) = Altered wrong.line

abbrev pub settled_at : List ℕ → ℕ → Recovered
settled_at lines torn = if is_sealed lines then found_as (length lines) torn (unsealed lines) else Found lines None (length lines) torn

abbrev pub settled_in : List ℕ → Recovered
settled_in bytes = settled_at (whole_part bytes) (length bytes - length (whole_part bytes))

-- what is found in a file of these bytes
abbrev pub found_in : List ℕ → Recovered
found_in bytes = if nat_le (length bytes) MOST_JOURNAL then (if is_journal_text bytes then settled_in bytes else Other) else TooLong
