-- The members of a document that are not read here.
use Rattle.std.specs.Prelude.{ℕ, ◌+◌, List, [], ◌∷◌, ◌++◌, Option, Some, None, option_and_then, unwrap_or, codes, if◌then◌else◌}
use Rattle.std.specs.Option.{option_map_or}
use Rattle.serde_json.specs.Data.{Data, Items, no_items, item, Members, no_members, member}
use Rattle.serde_json.specs.Find.{get, as_array, as_object}
use Rattle.config_members.specs.declared.place.Place.{Place}
use Rattle.config_members.specs.declared.place.Place.TheVariants.{Document, Global, Job, Entry}
use Rattle.config_members.specs.declared.place.Part.{Part}
use Rattle.config_members.specs.declared.place.Part.TheVariants.{StaticConfigs, HttpSdConfigs, FileSdConfigs, RelabelConfigs}
use Rattle.config_members.specs.declared.unread.Unread.{Unread}
use Rattle.config_members.specs.declared.unread.Standing.{Standing}
use Rattle.config_members.specs.declared.unread.Standing.TheVariants.{Unknown, NotFollowed}
use Rattle.config_members.specs.Names.{names_read, other_names, part_name}
use Rattle.config_members.specs.Unknown.{is_among}

abbrev pub standing : Place → List ℕ → Standing
standing place name = if is_among (other_names place) name then NotFollowed else Unknown

-- none, if the member of this name is read
abbrev pub standing_of : Place → List ℕ → List Unread
standing_of place name =
    if is_among (names_read place) name then [] else (record { place = place; name = name; standing = standing place name } ∷ [])

-- in byte order of names
abbrev pub unread_of : Place → Members → List Unread
unread_of place no_members = []
unread_of place (member name d ms) = standing_of place name ++ unread_of place ms

-- of an object at a place; what is none has no members
abbrev pub unread_at : Place → Data → List Unread
unread_at place d = option_map_or (unread_of place) (as_object d) []

-- the items of a list; what is none has no items
abbrev pub entry_items : Option Data → Items
entry_items found = unwrap_or (option_and_then as_array found) no_items

-- of the entries of a list of a job, the first of which has this index
abbrev pub each_entry : ℕ → Part → ℕ → Items → List Unread
each_entry job part entry no_items = []
each_entry job part entry (item d ds) = unread_at (Entry job part entry) d ++ each_entry job part (entry + 1) ds

abbrev pub unread_in_part : ℕ → Part → Data → List Unread
unread_in_part job part d = each_entry job part 0 (entry_items (get (part_name part) d))

-- of a job: its own, and then those of its lists
abbrev pub unread_in_job : ℕ → Data → List Unread
unread_in_job job d =
    unread_at (Job job) d ++ (unread_in_part job StaticConfigs d ++ (unread_in_part job HttpSdConfigs d ++ (unread_in_part job FileSdConfigs d ++ unread_in_part job RelabelConfigs d)))

-- of the jobs, the first of which has this index
abbrev pub each_job : ℕ → Items → List Unread
each_job job no_items = []
each_job job (item d ds) = unread_in_job job d ++ each_job (job + 1) ds

abbrev pub unread_in_global : Option Data → List Unread
unread_in_global None = []
unread_in_global (Some d) = unread_at Global d

-- of the whole document
abbrev pub unread_in : Data → List Unread
unread_in d =
    unread_at Document d ++ (unread_in_global (get (codes "global") d) ++ each_job 0 (entry_items (get (codes "scrape_configs") d)))
