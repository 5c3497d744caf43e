-- A look behind all that was read.
use Rattle.std.proofs.Common.{◌≡◌, ℕ, List, Some, sym, ap, subst, ◌∙◌}
use Rattle.etcd_requests.specs.Requests as request
use Rattle.etcd_answers.specs.declared.answer.Answer.{Answer}
use Rattle.etcd_answers.specs.declared.verdict.Verdict.{Verdict}
use Rattle.etcd_answers.specs.declared.verdict.Verdict.TheVariants.{Kept}
use Rattle.etcd_terms.specs.Readings.{looked_at, read, read_by}
use Rattle.etcd_terms.specs.Seats.{leads_verdict}
use Rattle.etcd_terms.specs.declared.reading.Reading.{Reading}
use Rattle.etcd_terms.specs.declared.reading.Looked.{Looked}
use Rattle.etcd_terms.specs.declared.reading.Looked.TheVariants.{Whole}
use Rattle.etcd_turns.specs.Posts.{Led, MayPost, Posted, ReadAll, text_of}
use Rattle.etcd_turns.specs.Sights.{Seen}
use Rattle.etcd_turns.specs.declared.looking.Sight.{Sight}

stays : (reading more : Reading) (answer : Answer) → more ≡ read reading answer → looked_at reading answer ≡ Whole → more ≡ reading
stays reading more answer e whole = e ∙ ap (λ (l : Looked). read_by reading answer l) whole

pub all_read : {S : Type 0} (may_post : MayPost S) (prefix term : List ℕ) (old : S) (reading : Reading) (sight : Sight) (new : S) (more : Reading) → Seen may_post prefix old reading sight new more → sight.looked ≡ Whole → sight.leader ≡ Some term
    → ReadAll may_post prefix term more new
all_read may_post prefix term old reading sight new more seen whole leads =
    let is : looked_at reading seen.answer ≡ Whole = sym seen.saw.looked ∙ whole in
    subst
    (λ (r : Reading). ReadAll may_post prefix term r new)
    (sym (stays reading more seen.answer seen.saw.read is))
    (record { old = old; answer = seen.answer; posted = seen.posted; whole = is; leads = sym seen.saw.leader ∙ leads })

pub led : {S : Type 0} (may_post : MayPost S) (prefix term : List ℕ) (going next : ℕ) (old : S) (answer : Answer) (new : S) (body : List ℕ) (verdict : Verdict) → Posted may_post body old answer new → body ≡ text_of prefix (request.look going next)
    → verdict ≡ leads_verdict term going answer → verdict ≡ Kept → Led may_post prefix term going next new
led may_post prefix term going next old answer new body verdict posted is told kept =
    record { old = old; answer = answer; posted = subst (λ (b : List ℕ). Posted may_post b old answer new) is posted; leads = sym told ∙ kept }
