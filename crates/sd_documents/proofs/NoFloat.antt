-- Entries that make jobs have no float, and neither has the object of them.
use Rattle.std.proofs.Common.{◌≡◌, ℕ, ◌+◌, Bool, true, false, cond, ◌||◌, List, [], Ordering, Less, Equal, Greater, Result, Ok, Err, refl, ◌∙◌, ap, nat_cmp}
use Rattle.std.specs.Ordering.{match_ordering}
use Rattle.std.specs.Prelude.{is_some}
use Rattle.std.specs.Cmp.Lexicographic.{slice_cmp}
use Rattle.serde_json.specs.Data.{Data, object, Items, no_items, item, Members, no_members, member, put}
use Rattle.serde_json.specs.Find.{as_object}
use Rattle.serde_json.specs.Written.{has_float, items_have_float, members_have_float}
use Rattle.sd_documents.specs.declared.error.SdError.{SdError}
use Rattle.sd_documents.specs.declared.error.SdError.TheVariants.{Shape}
use Rattle.sd_documents.specs.declared.error.Member.TheVariants.{JobName, Number}
use Rattle.sd_documents.specs.Reading.{◌>>=◌}
use Rattle.sd_documents.specs.Config.{JobData, job_said, members_said, next_job, with_job, jobs_from, name_of, as_read_from}

-- what both parts of a test that fails are
either : (a b : Bool) → (a || b) ≡ false → (a ≡ false) × (b ≡ false)
either true b e = cc
either false b e = (refl, e)

pub bind_ok : {A B : Type 0} (r : Result A SdError) (f : A → Result B SdError) (y : B) → (r >>= f) ≡ Ok y → (x : A) × (r ≡ Ok x) × (f x ≡ Ok y)
bind_ok (Ok x) f y e = (x, refl, e)
bind_ok (Err d) f y e = cc

by_tests : (a f : Bool) (index : ℕ) (r : Result JobData SdError) (job : JobData) → cond a (cond f (Err (Shape index Number)) r) (Err (Shape index JobName)) ≡ Ok job → f ≡ false
by_tests true true index r job e = cc
by_tests true false index r job e = refl
by_tests false f index r job e = cc

job_has_none : (index : ℕ) (d : Data) (job : JobData) → job_said index d ≡ Ok job → has_float d ≡ false
unfolding job_said
job_has_none index d job e = by_tests (is_some (as_object d)) (has_float d) index (members_said index d) job e

entries_have_none : (index : ℕ) (jobs more : List JobData) (ds : Items) → jobs_from index jobs ds ≡ Ok more → items_have_float ds ≡ false
entries_have_none index jobs more no_items e = refl
entries_have_none index jobs more (item d ds) e =
    let next = bind_ok (with_job index jobs d) (λ (js : List JobData). jobs_from (index + 1) js ds) more e in
    let job = bind_ok (job_said index d) (next_job index jobs) next.0 next.1 in
    rw (job_has_none index d job.0 job.1) (entries_have_none (index + 1) next.0 more ds next.2)

put_at : (o : Ordering) (k l : List ℕ) (d e : Data) (ms : Members) → has_float d ≡ false → (has_float e || members_have_float ms) ≡ false → members_have_float (put k d ms) ≡ false
    → members_have_float (match_ordering o (member k d (member l e ms)) (member l d ms) (member l e (put k d ms))) ≡ false
put_at Less k l d e ms none old later = rw none old
put_at Equal k l d e ms none old later = rw none ((either (has_float e) (members_have_float ms) old).1)
put_at Greater k l d e ms none old later = rw ((either (has_float e) (members_have_float ms) old).0) later

put_has_none : (k : List ℕ) (d : Data) (ms : Members) → has_float d ≡ false → members_have_float ms ≡ false → members_have_float (put k d ms) ≡ false
put_has_none k d no_members none old = rw none
put_has_none k d (member l e ms) none old = put_at (slice_cmp nat_cmp k l) k l d e ms none old (put_has_none k d ms none ((either (has_float e) (members_have_float ms) old).1))

as_read_has_none : (before : Members) (ds : Items) → members_have_float before ≡ false → items_have_float ds ≡ false → members_have_float (as_read_from before ds) ≡ false
as_read_has_none before no_items old none = old
as_read_has_none before (item d ds) old none =
    let parts = either (has_float d) (items_have_float ds) none in
    as_read_has_none (put (name_of d) d before) ds (put_has_none (name_of d) d before parts.0 old) parts.1

pub no_float_as_read : (entries : Items) (jobs : List JobData) (before : Data) → jobs_from 0 [] entries ≡ Ok jobs → before ≡ object (as_read_from no_members entries) → has_float before ≡ false
no_float_as_read entries jobs before read is = ap has_float is ∙ as_read_has_none no_members entries refl (entries_have_none 0 [] jobs entries read)
