-- The JSON of pages. Members stand in byte order of their names.
use Rattle.std.specs.Prelude.{ℕ, List, [], ◌∷◌, codes}
use Rattle.std.specs.Fmt.{decimal}
use Rattle.serde_json.specs.Data.{Data, string, array, object, Items, no_items, item, Members, no_members, member, put}
use Rattle.json_values.specs.Spelling.{list_data}
use Rattle.label_sets.specs.Labels.{LabelList}
use Rattle.sd_documents.specs.declared.config.Job.{Job}
use Rattle.sd_routes.specs.Links.{job_link, collector_link}
use Rattle.target_shares.specs.declared.numbered_target.NumberedTarget.{NumberedTarget}
use Rattle.target_shares.specs.declared.share.Share.{Share}

-- ---- jobs

abbrev pub job_data : List ℕ → Data
job_data job = object (member (codes "_link") (string (job_link job)) no_members)

-- the members with one for each of the jobs
abbrev pub with_jobs : Members → List Job → Members
with_jobs members [] = members
with_jobs members (job ∷ jobs) = with_jobs (put job.name (job_data job.name) members) jobs

-- an object from each job's name to an object with its link
abbrev pub jobs_data : List Job → Data
jobs_data jobs = object (with_jobs no_members jobs)

-- ---- groups

-- the members with one for each of the labels
abbrev pub with_labels : Members → LabelList → Members
with_labels members [] = members
with_labels members (label ∷ labels) = with_labels (put label.0 (string label.1) members) labels

-- the labels, and the number as a further one
abbrev pub labels_data : LabelList → ℕ → Data
labels_data labels number = object (put (codes "__meta_allocator_target") (string (decimal number)) (with_labels no_members labels))

-- a target's group, with the target's number as a further label
abbrev pub group_data : NumberedTarget → Data
group_data numbered =
    object (member (codes "labels") (labels_data numbered.target.labels numbered.number)
    (member (codes "targets") (array (item (string numbered.target.address) no_items)) no_members))

-- ---- uncovered

-- the groups of the targets that nobody holds and some collector reaches, of those that are handed over, and of those that none reaches
abbrev pub uncovered_data : List NumberedTarget → List NumberedTarget → List NumberedTarget → Data
uncovered_data full handing_over unreached =
    object (member (codes "full") (list_data group_data full)
    (member (codes "handing_over") (list_data group_data handing_over)
    (member (codes "unreached") (list_data group_data unreached) no_members)))

-- ---- shares

abbrev pub share_data : List ℕ → Share → Data
share_data job share =
    object (member (codes "_link") (string (collector_link job share.collector))
    (member (codes "targets") (list_data group_data share.targets) no_members))

-- the members with one for each of the shares
abbrev pub with_shares : List ℕ → Members → List Share → Members
with_shares job members [] = members
with_shares job members (share ∷ shares) = with_shares job (put share.collector (share_data job share) members) shares

-- an object from each collector's name to an object with its link and what it holds of the job
abbrev pub shares_data : List ℕ → List Share → Data
shares_data job shares = object (with_shares job no_members shares)
