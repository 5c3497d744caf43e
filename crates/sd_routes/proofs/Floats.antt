-- Pages have no float, so their texts are known.
use Rattle.std.proofs.Common.{◌≡◌, ℕ, List, [], ◌∷◌, codes, Bool, true, false, ◌||◌, refl}
use Rattle.std.proofs.lemmas.Bool.{or_from}
use Rattle.std.specs.Fmt.{decimal}
use Rattle.std.specs.Ordering.{nat_cmp, match_ordering}
use Rattle.std.specs.Cmp.Lexicographic.{slice_cmp}
use Rattle.std.specs.declared.cmp.Ordering.{Ordering}
use Rattle.std.specs.declared.cmp.Ordering.TheVariants.{Less, Equal, Greater}
use Rattle.serde_json.specs.Data.{Data, Members, no_members, member, put, string}
use Rattle.serde_json.specs.Written.{has_float, members_have_float}
use Rattle.json_values.proofs.Lists.{no_float}
use Rattle.json_values.specs.Spelling.{list_data}
use Rattle.label_sets.specs.Labels.{LabelList}
use Rattle.sd_documents.specs.declared.config.Job.{Job}
use Rattle.sd_routes.specs.Responses.{misshapen_data}
use Rattle.sd_routes.specs.declared.list_head.ListHead.{ListHead}
use Rattle.sd_routes.specs.Pages.{job_data, with_jobs, jobs_data, with_labels, labels_data, group_data, share_data, with_shares, shares_data, uncovered_data}
use Rattle.sd_routes.specs.Acknowledging.{own_group}
use Rattle.target_shares.specs.declared.numbered_target.NumberedTarget.{NumberedTarget}
use Rattle.target_shares.specs.declared.share.Share.{Share}

or_parts : (a b : Bool) → (a || b) ≡ false → (a ≡ false) × (b ≡ false)
or_parts true b h = cc
or_parts false b h = (refl, h)

pub put_no_float : (k : List ℕ) (d : Data) (ms : Members) → has_float d ≡ false → members_have_float ms ≡ false → members_have_float (put k d ms) ≡ false
put_no_float k d no_members here rest = or_from _ _ here refl
put_no_float k d (member l e ms) here rest =
    let parts = or_parts (has_float e) (members_have_float ms) rest in
    by (slice_cmp nat_cmp k l) (put_no_float k d ms here parts.1) parts.0 parts.1
  where
    by : (o : Ordering) → members_have_float (put k d ms) ≡ false → has_float e ≡ false → members_have_float ms ≡ false
        → members_have_float (match_ordering o (member k d (member l e ms)) (member l d ms) (member l e (put k d ms))) ≡ false
    by Less more e0 ms0 = or_from _ _ here (or_from _ _ e0 ms0)
    by Equal more e0 ms0 = or_from _ _ here ms0
    by Greater more e0 ms0 = or_from _ _ e0 more

with_jobs_no_float : (ms : Members) (jobs : List Job) → members_have_float ms ≡ false → members_have_float (with_jobs ms jobs) ≡ false
with_jobs_no_float ms [] h = h
with_jobs_no_float ms (job ∷ jobs) h = with_jobs_no_float (put job.name (job_data job.name) ms) jobs (put_no_float job.name (job_data job.name) ms refl h)

pub jobs_no_float : (jobs : List Job) → has_float (jobs_data jobs) ≡ false
jobs_no_float jobs = with_jobs_no_float no_members jobs refl

with_labels_no_float : (ms : Members) (labels : LabelList) → members_have_float ms ≡ false → members_have_float (with_labels ms labels) ≡ false
with_labels_no_float ms [] h = h
with_labels_no_float ms (label ∷ labels) h = with_labels_no_float (put label.0 (string label.1) ms) labels (put_no_float label.0 (string label.1) ms refl h)

pub labels_data_no_float : (labels : LabelList) (number : ℕ) → has_float (labels_data labels number) ≡ false
labels_data_no_float labels number =
    put_no_float (codes "__meta_allocator_target") (string (decimal number)) (with_labels no_members labels) refl (with_labels_no_float no_members labels refl)

group_no_float : (numbered : NumberedTarget) → has_float (group_data numbered) ≡ false
group_no_float numbered =
    or_from _ _ (labels_data_no_float numbered.target.labels numbered.number) refl

pub groups_no_float : (targets : List NumberedTarget) → has_float (list_data group_data targets) ≡ false
groups_no_float = no_float group_data group_no_float

pub own_no_float : (at job : List ℕ) (head : ListHead) → has_float (own_group at job head) ≡ false
own_no_float at job head = refl

pub uncovered_no_float : (full handing_over unreached : List NumberedTarget) → has_float (uncovered_data full handing_over unreached) ≡ false
uncovered_no_float full handing_over unreached =
    or_from _ _ (groups_no_float full) (or_from _ _ (groups_no_float handing_over) (or_from _ _ (groups_no_float unreached) refl))

share_no_float : (job : List ℕ) (share : Share) → has_float (share_data job share) ≡ false
share_no_float job share = or_from _ _ refl (or_from _ _ (groups_no_float share.targets) refl)

with_shares_no_float : (job : List ℕ) (ms : Members) (shares : List Share) → members_have_float ms ≡ false → members_have_float (with_shares job ms shares) ≡ false
with_shares_no_float job ms [] h = h
with_shares_no_float job ms (share ∷ shares) h =
    with_shares_no_float job (put share.collector (share_data job share) ms) shares (put_no_float share.collector (share_data job share) ms (share_no_float job share) h)

pub shares_no_float : (job : List ℕ) (shares : List Share) → has_float (shares_data job shares) ≡ false
shares_no_float job shares = with_shares_no_float job no_members shares refl

pub misshapen_no_float : (name : List ℕ) → has_float (misshapen_data name) ≡ false
misshapen_no_float name = refl
