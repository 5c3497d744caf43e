-- The file in which is written down what was told: one JSON object.
use Rattle.std.specs.Prelude.{ℕ, List, [], ◌∷◌, Option, Result, Ok, codes, nat_eq, option_and_then}
use Rattle.std.specs.Option.{ok_or}
use Rattle.indexmap.specs.IndexMap.{insert_entry}
use Rattle.indexmap.specs.IndexSet.{insert_key}
use Rattle.serde_json.specs.Data.{Data, Items, no_items, item, object, member, no_members, array, string}
use Rattle.serde_json.specs.Find.{as_array, as_number, as_str, as_u64, get}
use Rattle.json_values.specs.Spelling.{list_data, list_in, member_in, number_data, number_in}
use Rattle.agent_core.specs.Targets.{same_series}
use Rattle.agent_core.specs.Told.{Told}
use Rattle.agent_core.specs.declared.target.Series.{Series}
use Rattle.agent_documents.specs.Reading.{◌>>=◌, json_said}
use Rattle.agent_documents.specs.declared.error.DocumentError.{DocumentError}
use Rattle.agent_documents.specs.declared.error.DocumentError.TheVariants.{Shape}
use Rattle.agent_documents.specs.declared.error.Part.TheVariants.{State}

abbrev pub mark_data : Series → ℕ → Data
mark_data series time = object (member (codes "labels") (string series.labels) (member (codes "time") (number_data time) no_members))

abbrev pub marks_data : List (Series × ℕ) → Items
marks_data [] = no_items
marks_data (mark ∷ marks) = item (mark_data mark.0 mark.1) (marks_data marks)

abbrev pub state_data : Told → Data
state_data told =
    object (member (codes "epoch") (number_data told.epoch)
    (member (codes "floor") (number_data told.floor)
    (member (codes "marks") (array (marks_data told.marks))
    (member (codes "round") (number_data told.round)
    (member (codes "targets") (list_data number_data told.targets) no_members)))))

-- a number of at most 64 bits
abbrev pub large_member : List ℕ → Data → Option ℕ
large_member name d = option_and_then (λ v. option_and_then as_u64 (as_number v)) (get name d)

-- one of at most 32 bits
abbrev pub small_member : List ℕ → Data → Option ℕ
small_member name d = option_and_then number_in (get name d)

abbrev pub text_member : List ℕ → Data → Option (List ℕ)
text_member name d = option_and_then as_str (get name d)

abbrev pub targets_from : List ℕ → List ℕ → List ℕ
targets_from all [] = all
targets_from all (target ∷ targets) = targets_from (insert_key nat_eq all target) targets

abbrev pub targets_in : Data → Result (List ℕ) DocumentError
targets_in d = ok_or (member_in (list_in number_in) (codes "targets") d) (Shape State) >>= λ targets. Ok (targets_from [] targets)

abbrev pub mark_added : List (Series × ℕ) → Data → Result (List (Series × ℕ)) DocumentError
mark_added marks d =
    ok_or (text_member (codes "labels") d) (Shape State) >>= λ labels.
    ok_or (large_member (codes "time") d) (Shape State) >>= λ time.
    Ok (insert_entry same_series marks (record { labels = labels }) time)

abbrev pub marks_from : List (Series × ℕ) → Items → Result (List (Series × ℕ)) DocumentError
marks_from marks no_items = Ok marks
marks_from marks (item d ds) = mark_added marks d >>= λ more. marks_from more ds

abbrev pub marks_in : Data → Result (List (Series × ℕ)) DocumentError
marks_in d = ok_or (get (codes "marks") d) (Shape State) >>= λ marks. ok_or (as_array marks) (Shape State) >>= marks_from []

abbrev pub memory_in : Data → Result Told DocumentError
memory_in d =
    ok_or (large_member (codes "epoch") d) (Shape State) >>= λ epoch.
    ok_or (large_member (codes "floor") d) (Shape State) >>= λ floor.
    ok_or (small_member (codes "round") d) (Shape State) >>= λ round.
    targets_in d >>= λ targets.
    marks_in d >>= λ marks.
    Ok (record { epoch = epoch; round = round; targets = targets; marks = marks; floor = floor })

abbrev pub memory_said : List ℕ → Result Told DocumentError
memory_said bytes = json_said bytes >>= memory_in
