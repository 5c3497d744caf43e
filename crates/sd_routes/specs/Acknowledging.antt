-- The JSON of a list that is acknowledged, and its text.
use Rattle.std.specs.Prelude.{ℕ, ◌==◌, List, [], ◌∷◌, ◌++◌, drop, Bool, true, codes, if◌then◌else◌}
use Rattle.std.specs.Fmt.{decimal}
use Rattle.serde_json.specs.Data.{Data, string, array, object, no_items, item, no_members, member}
use Rattle.json_values.specs.Spelling.{items_data}
use Rattle.target_shares.specs.declared.numbered_target.NumberedTarget.{NumberedTarget}
use Rattle.sd_routes.specs.Pages.{group_data}
use Rattle.sd_routes.specs.declared.list_head.ListHead.{ListHead}

-- where a scrape goes (Prometheus's labels of a target), and its parameters: which list is followed
abbrev pub own_labels : List ℕ → ListHead → Data
own_labels job head =
    object (member (codes "__metrics_path__") (string (codes "/acknowledged"))
    (member (codes "__param_collector") (string (decimal head.collector))
    (member (codes "__param_epoch") (string (decimal head.epoch))
    (member (codes "__param_job") (string job)
    (member (codes "__param_list") (string (decimal head.allocation))
    (member (codes "__scheme__") (string (codes "http")) no_members))))))

-- the group of the service itself, as collectors reach it: whoever scrapes it follows the list of the job that has this head
abbrev pub own_group : List ℕ → List ℕ → ListHead → Data
own_group at job head =
    object (member (codes "labels") (own_labels job head)
    (member (codes "targets") (array (item (string at) no_items)) no_members))

-- the list: the service itself, and the groups of these targets
abbrev pub acknowledged_data : List ℕ → List ℕ → ListHead → List NumberedTarget → Data
acknowledged_data at job head targets = array (item (own_group at job head) (items_data group_data targets))

-- what follows the bracket of a list's text is the bracket at its end
abbrev pub is_end : List ℕ → Bool
is_end [] = true
is_end (b ∷ bs) = b == 93

abbrev pub comma_before : List ℕ → List ℕ
comma_before rest = if is_end rest then [] else 44 ∷ []

-- the text of a list with one item more, which stands first
abbrev pub with_first : List ℕ → List ℕ → List ℕ
with_first first list = 91 ∷ (first ++ (comma_before (drop 1 list) ++ drop 1 list))
