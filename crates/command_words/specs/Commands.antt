-- The commands of `allocd`, their options and files, as `clap` reads them.
use Rattle.std.specs.Prelude.{ℕ, [], Some, true, codes}
use Rattle.clap.specs.Words.{App, Rule, Text, new_app, new_rule, with_rule, with_subcommand}
use Rattle.clap.specs.declared.builder.action.ArgAction.TheVariants.{Set, SetTrue, Append}
use Rattle.clap.specs.declared.builder.value_parser.ValueParser.TheVariants.{NonEmptyString, Unsigned}
use Rattle.command_words.specs.declared.limits.TheConstants.{MOST_PERCENT, MOST_BINS_IN_A_ROW, GREATEST_NUMBER}

-- an option that has a value, which is not empty
abbrev pub option_rule : Text → Rule
option_rule name = record (new_rule name) { long = Some name; action = Some Set; value_names = 1; parser = Some NonEmptyString }

-- an option whose value is a number from this one to that one
abbrev pub number_rule : Text → ℕ → ℕ → Rule
number_rule name least most = record (new_rule name) { long = Some name; action = Some Set; value_names = 1; parser = Some (Unsigned least most) }

-- an option that has none
abbrev pub flag_rule : Text → Rule
flag_rule name = record (new_rule name) { long = Some name; action = Some SetTrue }

-- files, none with an empty name
abbrev pub file_rule : Text → Rule
file_rule name = record (new_rule name) { action = Some Append; parser = Some NonEmptyString }

-- one file, whose name is not empty
abbrev pub one_file_rule : Text → Rule
one_file_rule name = record (new_rule name) { action = Some Set; parser = Some NonEmptyString }

abbrev pub required_rule : Rule → Rule
required_rule rule = record rule { required = true }

abbrev pub check : App
check = new_app (codes "check")

abbrev pub plan : App
plan = with_rule (with_rule (with_rule (new_app (codes "plan"))
    (number_rule (codes "spread") 0 MOST_PERCENT))
    (number_rule (codes "jobs") 1 MOST_BINS_IN_A_ROW))
    (number_rule (codes "most-moves") 0 GREATEST_NUMBER)

abbrev pub relabel : App
relabel = new_app (codes "relabel")

abbrev pub replay : App
replay = new_app (codes "replay")

abbrev pub session : App
session = new_app (codes "session")

abbrev pub audit : App
audit = with_rule (new_app (codes "audit")) (required_rule (file_rule (codes "FILE")))

abbrev pub books : App
books = with_rule (new_app (codes "books")) (required_rule (file_rule (codes "FILE")))

abbrev pub seal : App
seal = with_rule (new_app (codes "seal")) (required_rule (one_file_rule (codes "FILE")))

abbrev pub serve : App
serve = with_rule (with_rule (with_rule (with_rule (new_app (codes "serve"))
    (required_rule (option_rule (codes "config"))))
    (option_rule (codes "listen")))
    (option_rule (codes "journal")))
    (flag_rule (codes "check-config"))

abbrev pub agent : App
agent = with_rule (new_app (codes "agent")) (required_rule (option_rule (codes "config")))

-- No word of these is the program's name; the last use of an option counts; a command is needed.
abbrev pub alone : App
alone = record {
  top = record (new_app (codes "allocd")).top {
    no_binary_name = true;
    args_override_self = true;
    subcommand_required = true;
    arg_required_else_help = true;
    propagate_version = true;
    has_version = true;
  };
  subs = [];
}

-- The commands that read standard input.
abbrev pub with_readers : App → App
with_readers a =
    with_subcommand (with_subcommand (with_subcommand (with_subcommand (with_subcommand a check.top) plan.top) relabel.top) replay.top) session.top

-- The commands that read files.
abbrev pub with_others : App → App
with_others a = with_subcommand (with_subcommand (with_subcommand (with_subcommand (with_subcommand a audit.top) books.top) seal.top) serve.top) agent.top

abbrev pub program : App
program = with_others (with_readers alone)
