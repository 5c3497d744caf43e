-- What the files of a source list, after Prometheus's discovery by files: each file is a list of target groups as JSON, and the lists of
-- all files together are the whole list of the source. Each group has the path of its file as the label `__meta_filepath`.
use Rattle.std.specs.Prelude.{◌≡◌, ◌≢◌, ℕ, List, [], ◌∷◌, ◌++◌, Result, Ok, Err, map, length, sum_by, nat_le, codes, if◌then◌else◌}
use Rattle.label_sets.specs.Labels.{LabelList, with_label}
use Rattle.sd_documents.specs.Groups.{groups_read}
use Rattle.sd_documents.specs.declared.error.SdError.{SdError}
use Rattle.sd_documents.specs.declared.limits.TheConstants.{MOST_TARGETS}
use Rattle.sd_documents.specs.declared.group.Group.{Group}
use Rattle.file_configs.specs.declared.file_text.FileText.{FileText}
use Rattle.file_configs.specs.declared.fault.FilesFault.{FilesFault}
use Rattle.file_configs.specs.declared.fault.FilesFault.TheVariants.{Document, TooMany, Memory}

-- one after the other, up to the first refusal
infixl 10 ◌>>=◌
abbrev pub ◌>>=◌ : {A B : Type 0} → Result A FilesFault → (A → Result B FilesFault) → Result B FilesFault
(Ok x) >>= f = f x
(Err e) >>= f = Err e

-- What is returned, seen by the view, is what is said, unless memory ran out.
abbrev pub Gives : {X Y : Type 0} → (X → Y) → Result X FilesFault → Result Y FilesFault → Type 0
Gives view (Ok x) said = said ≡ Ok (view x)
Gives view (Err e) said = e ≢ Memory → said ≡ Err e

-- ---- a file

-- in the place of what the file itself says there
abbrev pub path_label : List ℕ → LabelList → LabelList
path_label path labels = with_label labels (codes "__meta_filepath") path

abbrev pub with_path : List ℕ → Group → Group
with_path path group = record { targets = group.targets; labels = path_label path group.labels }

-- the groups of a document, or its fault, with the path that it has
abbrev pub or_document : List ℕ → Result (List Group) SdError → Result (List Group) FilesFault
or_document path (Ok groups) = Ok (map (with_path path) groups)
or_document path (Err fault) = Err (Document path fault)

abbrev pub file_said : FileText → Result (List Group) FilesFault
file_said file = or_document file.path (groups_read file.body)

-- ---- all files of a source

-- the groups so far, and those of one more file behind them
abbrev pub with_file : List Group → FileText → Result (List Group) FilesFault
with_file all file = file_said file >>= λ groups. Ok (all ++ groups)

abbrev pub groups_from : List Group → List FileText → Result (List Group) FilesFault
groups_from all [] = Ok all
groups_from all (file ∷ files) = with_file all file >>= λ more. groups_from more files

abbrev pub groups_said : List FileText → Result (List Group) FilesFault
groups_said files = groups_from [] files

-- the groups, if they have not too many targets together
abbrev pub few_said : List Group → Result (List Group) FilesFault
few_said groups = if nat_le (sum_by (λ (group : Group). length group.targets) groups) MOST_TARGETS then Ok groups else Err TooMany

-- the groups of all files, if they have not too many targets together
abbrev pub files_said : List FileText → Result (List Group) FilesFault
files_said files = groups_said files >>= few_said
