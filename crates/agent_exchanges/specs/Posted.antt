-- What an answer to a list of reports says.
use Rattle.std.specs.Prelude.{ℕ, ◌==◌, ◌||◌, Bool, false, List, Option, option_and_then, nat_eq, codes, if◌then◌else◌}
use Rattle.std.specs.List.{starts_with}
use Rattle.std.specs.Option.{option_map_or}
use Rattle.serde_json.specs.Data.{Data, Items, no_items, item}
use Rattle.serde_json.specs.Find.{as_array, as_str, get}
use Rattle.json_values.specs.Texts.{json_of}
use Rattle.agent_turns.specs.declared.outside.Posted.{Posted}
use Rattle.agent_turns.specs.declared.outside.Posted.TheVariants.{Answered, Over, Unknown}

-- the refusals of docs/understand/FORMATS.md that are of the list or of its round, and not of a target
abbrev pub text_over : List ℕ → Bool
text_over text = starts_with nat_eq text (codes "NotTaken ") || (starts_with nat_eq text (codes "RoundClosed ") || (starts_with nat_eq text (codes "RoundNotOpen ") || starts_with nat_eq text (codes "UnknownCollector")))

abbrev pub answer_over : Data → Bool
answer_over d = option_map_or text_over (as_str d) false

abbrev pub is_over : Items → Bool
is_over no_items = false
is_over (item d ds) = answer_over d || is_over ds

abbrev pub answers_in : Data → Option Items
answers_in d = option_and_then as_array (get (codes "answers") d)

abbrev pub posted_by : Data → Posted
posted_by d = option_map_or (λ answers. if is_over answers then Over else Answered) (answers_in d) Unknown

abbrev pub posted_in : List ℕ → Posted
posted_in body = option_map_or posted_by (json_of body) Unknown

-- another epoch is 409
abbrev pub posted_said : ℕ → List ℕ → Posted
posted_said status body = if status == 200 then posted_in body else if status == 409 then Over else Unknown
