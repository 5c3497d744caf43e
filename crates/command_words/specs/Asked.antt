-- What a command line asks for, by what `clap` takes its words for.
use denote.Ref.{Bor}
use Rattle.std.specs.Prelude.{ℕ, Bool, false, ◌&&◌, List, [], ◌∷◌, Option, Some, None, is_some, length, nat_lt, option_map, map, codes, String, string_bytes, if◌then◌else◌}
use Rattle.std.specs.Option.{option_map_or}
use Rattle.std.specs.Char.{digit_value}
use Rattle.std.specs.List.{list_all}
use Rattle.std.specs.Str.{bytes_eq}
use Rattle.std.specs.Str.Parse.{digits_value, without_leading_plus}
use Rattle.std.specs.declared.alloc.Global.{Global}
use Rattle.clap.specs.Words.{Row, Text, all_of, first_of, subcommand_of, takes}
use Rattle.command_words.specs.Commands.{program}
use Rattle.command_words.specs.declared.asked.Asked.{Asked}
use Rattle.command_words.specs.declared.asked.Asked.TheVariants as asked
use Rattle.command_words.specs.declared.asked.InputCommand.{InputCommand}
use Rattle.command_words.specs.declared.asked.InputCommand.TheVariants.{Check, Plan, Spread, Relabel, Replay}
use Rattle.command_words.specs.declared.asked.SpreadOptions.{SpreadOptions}

pub data Said : Type 0 where
  Answers : InputCommand → Said
  RunsSession : Said
  -- the paths
  Audits : List Text → Said
  -- the paths
  Books : List Text → Said
  -- the path
  Seals : Text → Said
  -- the configuration, the address, the journal, and whether only to check
  Serves : Text → Option Text → Option Text → Bool → Said
  -- the configuration
  Agents : Text → Said

-- ---- what the words say

abbrev pub is_set : Option Text → Bool
is_set text = option_map_or (λ word. bytes_eq word (codes "true")) text false

-- the number that a text writes in decimal, 0 where it writes none below 2 ^ 32
abbrev pub number_or_zero : Text → ℕ
number_or_zero text =
    let digits = without_leading_plus text in
    if nat_lt 0 (length digits) && list_all (λ d. nat_lt (digit_value d) 10) digits && nat_lt (digits_value 10 digits) 4294967296 then digits_value 10 digits else 0

-- what the values of `--spread`, `--jobs` and `--most-moves` ask for
abbrev pub spread_by : Text → Option Text → Option Text → SpreadOptions
spread_by slack jobs most_moves = record { slack = number_or_zero slack; jobs = option_map_or number_or_zero jobs 1; most_moves = option_map number_or_zero most_moves }

-- The other two are of no use without `--spread`.
abbrev pub plans_alone_by : List Row → Option Said
plans_alone_by rows = if is_some (first_of (codes "jobs") rows) then None else if is_some (first_of (codes "most-moves") rows) then None else Some (Answers Plan)

abbrev pub plans_by : List Row → Option Said
plans_by rows = option_map_or
    (λ slack. Some (Answers (Spread (spread_by slack (first_of (codes "jobs") rows) (first_of (codes "most-moves") rows)))))
    (first_of (codes "spread") rows)
    (plans_alone_by rows)

abbrev pub audits_by : List Row → Option Said
audits_by rows = option_map Audits (all_of (codes "FILE") rows)

abbrev pub books_by : List Row → Option Said
books_by rows = option_map Books (all_of (codes "FILE") rows)

abbrev pub seals_by : List Row → Option Said
seals_by rows = option_map Seals (first_of (codes "FILE") rows)

abbrev pub serves_by : List Row → Option Said
serves_by rows = option_map
    (λ config. Serves config (first_of (codes "listen") rows) (first_of (codes "journal") rows) (is_set (first_of (codes "check-config") rows)))
    (first_of (codes "config") rows)

abbrev pub agents_by : List Row → Option Said
agents_by rows = option_map Agents (first_of (codes "config") rows)

-- the command of a name, with what was found of its options and files
abbrev pub named : Text → List Row → Option Said
named name rows =
    if bytes_eq name (codes "check") then Some (Answers Check)
    else if bytes_eq name (codes "plan") then plans_by rows
    else if bytes_eq name (codes "relabel") then Some (Answers Relabel)
    else if bytes_eq name (codes "replay") then Some (Answers Replay)
    else if bytes_eq name (codes "session") then Some RunsSession
    else if bytes_eq name (codes "audit") then audits_by rows
    else if bytes_eq name (codes "books") then books_by rows
    else if bytes_eq name (codes "seal") then seals_by rows
    else if bytes_eq name (codes "serve") then serves_by rows
    else if bytes_eq name (codes "agent") then agents_by rows
    else None

abbrev pub asked_by : Option (Text × List Row) → Option Said
asked_by found = option_map_or (λ p. named p.0 p.1) found None

-- `clap` takes these words behind the program's name for a command
unfoldable pub are_taken : List Text → Bool
are_taken words = takes program words

-- what it takes them for; of a name that is used twice the last use counts
unfoldable pub asked_in : List Text → Option Said
asked_in words = asked_by (subcommand_of program words)

-- ---- the commands that answer one input, as one word names them

abbrev pub command_named : Text → Option InputCommand
command_named word =
    if bytes_eq word (codes "check") then Some Check
    else if bytes_eq word (codes "plan") then Some Plan
    else if bytes_eq word (codes "relabel") then Some Relabel
    else if bytes_eq word (codes "replay") then Some Replay
    else None

-- the command that the one argument names
abbrev pub command_in : List (String Global) → Option InputCommand
command_in [] = None
command_in (word ∷ []) = command_named (string_bytes word)
command_in (word ∷ more ∷ words) = None

-- ---- what the code returns, its texts seen as their bytes

abbrev pub text_of : Option (Bor Text) → Option Text
text_of o = option_map (λ s. s.now) o

-- what is asked for; nothing is where a text is shown or refuses the words
abbrev pub said : Asked → Option Said
said (asked.Answer command) = Some (Answers command)
said asked.Session = Some RunsSession
said (asked.Audit paths) = Some (Audits (map (λ s. s.now) paths.items))
said (asked.Books paths) = Some (Books (map (λ s. s.now) paths.items))
said (asked.Seal path) = Some (Seals path.now)
said (asked.Serve o) = Some (Serves o.config.now (text_of o.listen) (text_of o.journal) o.check_config)
said (asked.Agent config) = Some (Agents config.now)
said (asked.Shown text) = None
said (asked.Refused text) = None
