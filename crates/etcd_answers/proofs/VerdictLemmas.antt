-- What a verdict rests on.
use Rattle.std.proofs.Common.{◌≡◌, ◌≢◌, ℕ, ◌==◌, Bool, true, false, List, [], ◌∷◌, Option, Some, None, refl, sym, ap, ◌∙◌, cond}
use Rattle.std.proofs.lemmas.Bool.{ne_eqb}
use Rattle.std.proofs.lemmas.Slice.Eq.{bytes_eq-Decides}
use Rattle.std.specs.Option.{option_map_or}
use Rattle.std.specs.Str.{bytes_eq}
use Rattle.etcd_answers.specs.Answers.{answer_said, told_by}
use Rattle.etcd_answers.specs.Laws.{HasFound, IsThere, KeptIsThere, NeverBoth, OthersSayNothing}
use Rattle.etcd_answers.specs.Verdicts.{has_value, judged, write_failed, write_verdict}
use Rattle.etcd_answers.specs.declared.answer.Answer.{Answer}
use Rattle.etcd_answers.specs.declared.answer.Answer.TheVariants.{Told as IsTold, Unknown as IsUnknown}
use Rattle.etcd_answers.specs.declared.answer.Told.{Told}
use Rattle.etcd_answers.specs.declared.found.Found.{Found}
use Rattle.etcd_answers.specs.declared.response.Response.{Response}
use Rattle.etcd_answers.specs.declared.verdict.Verdict.{Verdict}
use Rattle.etcd_answers.specs.declared.verdict.Verdict.TheVariants.{Kept, Deposed, Unknown}

some_true : (b : Bool) → Some b ≡ Some true → b ≡ true
some_true b h = cc

value_found : (bytes : List ℕ) (found : List Found) (response : Response) → response.found ≡ found → has_value bytes found ≡ Some true → HasFound bytes response
value_found bytes [] response e h = cc
value_found bytes (f ∷ []) response e h = record { found = f; only = e; value = (bytes_eq-Decides f.value bytes).0 (some_true (bytes_eq f.value bytes) h) }
value_found bytes (f ∷ g ∷ more) response e h = cc

both_true : (leads stands : Option Bool) → judged leads stands ≡ Kept → (leads ≡ Some true) × (stands ≡ Some true)
both_true None stands h = cc
both_true (Some leads) None h = cc
both_true (Some true) (Some true) h = (refl, refl)
both_true (Some true) (Some false) h = cc
both_true (Some false) (Some stands) h = cc

there : (term block : List ℕ) (told : Told) (responses : List Response) → told.responses ≡ responses → write_failed term block responses ≡ Kept → IsThere term block told
there term block told [] e h = cc
there term block told (r ∷ []) e h = cc
there term block told (r ∷ s ∷ []) e h =
    let parts = both_true (has_value term r.found) (has_value block s.found) h in
    record { leader = r; other = s; both = e; leads = value_found term r.found r refl parts.0; written = value_found block s.found s refl parts.1 }
there term block told (r ∷ s ∷ t ∷ more) e h = cc

pub kept_is_there : KeptIsThere
kept_is_there term block told failed kept =
    there term block told told.responses refl (sym (ap (λ (b : Bool). cond b Kept (write_failed term block told.responses)) failed) ∙ kept)

pub never_both : NeverBoth
never_both term block answer kept deposed = cc

pub others_say_nothing : OthersSayNothing
others_say_nothing term block body status other =
    ap (λ (b : Bool). write_verdict term block (cond b (option_map_or IsTold (told_by body) IsUnknown) IsUnknown)) (ne_eqb status 200 other)
