use Rattle.std.proofs.Common.{◌≡◌, List, ℕ, Result, Ok, Err, IfOk, refl, sym, subst}
use Rattle.price_certificate.specs.Problem.{Problem}
use Rattle.spread_certificate.specs.Document.{IsCertificateDocument}
use Rattle.spread_certificate.specs.declared.certificate.Certificate.{Certificate}
use Rattle.spread_certificate.specs.declared.certificate.Certificate.TheVariants as certificate
use Rattle.offline_commands.specs.Check.{Checks, told_of}
use Rattle.offline_commands.specs.declared.answer.Answer.{Answer}
use Rattle.offline_commands.proofs.check.answer_to.Goals as goal

judged : (input : List ℕ) (p : Problem) (said : Certificate) → IsCertificateDocument input p said → Checks input (told_of p said)
judged input p (certificate.Plan plan) document = record { certificate = record { problem = p; said = certificate.Plan plan; document = document }; tells = refl }
judged input p (certificate.Spread spread) document = record { certificate = record { problem = p; said = certificate.Spread spread; document = document }; tells = refl }

told_so : {E : Type 0} (input : List ℕ) (p : Problem) (said : Certificate) (r : Result Answer E) → IsCertificateDocument input p said → IfOk r (λ answer. answer ≡ told_of p said) → IfOk r (Checks input)
told_so input p said (Ok answer) document is = subst (Checks input) (sym is) (judged input p said document)
told_so input p said (Err e) document is = tt

pub returns-in-Ok : goal.returns-in-Ok
returns-in-Ok c = told_so c.args.input.now c.in-Ok.instance c.in-Ok.certificate c.judged.result c.in-Ok.ensures.ok c.judged.ensures

pub returns-in-Err-Shape : goal.returns-in-Err-Shape
returns-in-Err-Shape c = (c.in-Err-Shape.ensures.is_json (cc), λ h. c.in-Err-Shape.ensures.shape (cc) h.problem h.said h.document)
