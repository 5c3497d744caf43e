-- What became of a request, by its answer: it is kept, whoever sent it is deposed, or it is not known and the same request is asked again.
use Rattle.std.specs.Prelude.{ℕ, ◌+◌, ◌==◌, ◌&&◌, not, Bool, true, false, List, [], ◌∷◌, Option, Some, None, decimal, slice_get, if◌then◌else◌}
use Rattle.std.specs.Option.{option_map_or}
use Rattle.std.specs.Str.{bytes_eq}
use Rattle.etcd_answers.specs.declared.answer.Answer.{Answer}
use Rattle.etcd_answers.specs.declared.answer.Answer.TheVariants as answer_is
use Rattle.etcd_answers.specs.declared.answer.Told.{Told}
use Rattle.etcd_answers.specs.declared.found.Found.{Found}
use Rattle.etcd_answers.specs.declared.response.Response.{Response}
use Rattle.etcd_answers.specs.declared.verdict.Verdict.{Verdict}
use Rattle.etcd_answers.specs.declared.verdict.Verdict.TheVariants.{Kept, Deposed, Unknown}

-- whether the key that was read has this value; nothing where more than one was found
abbrev pub has_value : List ℕ → List Found → Option Bool
has_value bytes [] = Some false
has_value bytes (f ∷ []) = Some (bytes_eq f.value bytes)
has_value bytes (f ∷ g ∷ more) = None

-- whether the key that was read is not the one that was created at this revision; nothing where more than one was found
abbrev pub lacks_revision : ℕ → List Found → Option Bool
lacks_revision revision [] = Some true
lacks_revision revision (f ∷ []) = Some (not (f.created == revision))
lacks_revision revision (f ∷ g ∷ more) = None

abbrev pub kept_if : Bool → Verdict
kept_if kept = if kept then Kept else Deposed

-- by whether the term leads, and whether what was to be done is done
abbrev pub judged : Option Bool → Option Bool → Verdict
judged None stands = Unknown
judged (Some leads) None = Unknown
judged (Some leads) (Some stands) = kept_if (leads && stands)

-- Of what did not succeed, an earlier copy was kept where the term leads and what was to be done is done: the block is there with these bytes, or the next
-- epoch goes on; the block that was to be removed is not there.
abbrev pub write_failed : List ℕ → List ℕ → List Response → Verdict
write_failed term block [] = Unknown
write_failed term block (r ∷ []) = Unknown
write_failed term block (r ∷ s ∷ []) = judged (has_value term r.found) (has_value block s.found)
write_failed term block (r ∷ s ∷ t ∷ more) = Unknown

abbrev pub remove_failed : List ℕ → ℕ → List Response → Verdict
remove_failed term created [] = Unknown
remove_failed term created (r ∷ []) = Unknown
remove_failed term created (r ∷ s ∷ []) = judged (has_value term r.found) (lacks_revision created s.found)
remove_failed term created (r ∷ s ∷ t ∷ more) = Unknown

-- a claim of one's own that was kept leads
abbrev pub claimed : Option Bool → Verdict
claimed None = Unknown
claimed (Some leads) = kept_if leads

abbrev pub claim_failed : List ℕ → List Response → Verdict
claim_failed term [] = Unknown
claim_failed term (r ∷ []) = claimed (has_value term r.found)
claim_failed term (r ∷ s ∷ more) = Unknown

-- where only the term is compared, it does not lead
abbrev pub forgotten : Option Bool → Verdict
forgotten None = Unknown
forgotten (Some true) = Unknown
forgotten (Some false) = Deposed

abbrev pub forget_failed : List ℕ → List Response → Verdict
forget_failed term [] = Unknown
forget_failed term (r ∷ []) = forgotten (has_value term r.found)
forget_failed term (r ∷ s ∷ more) = Unknown

-- what succeeded is kept; what did not is judged by what it read then
abbrev pub verdict : (List Response → Verdict) → Answer → Verdict
verdict failed answer_is.Unknown = Unknown
verdict failed (answer_is.Told told) = if told.succeeded then Kept else failed told.responses

abbrev pub write_verdict : List ℕ → List ℕ → Answer → Verdict
write_verdict term block = verdict (write_failed term block)

abbrev pub remove_verdict : List ℕ → ℕ → Answer → Verdict
remove_verdict term created = verdict (remove_failed term created)

abbrev pub switch_verdict : List ℕ → ℕ → Answer → Verdict
switch_verdict term going = write_verdict term (decimal (going + 1))

abbrev pub claim_verdict : List ℕ → Answer → Verdict
claim_verdict term = verdict (claim_failed term)

abbrev pub forget_verdict : List ℕ → Answer → Verdict
forget_verdict term = verdict (forget_failed term)

-- the keys that the operation at a place found
abbrev pub found_by : ℕ → List Response → List Found
found_by place responses = option_map_or (λ (r : Response). r.found) (slice_get responses place) []

abbrev pub found_at : ℕ → Answer → List Found
found_at place answer_is.Unknown = []
found_at place (answer_is.Told told) = found_by place told.responses
