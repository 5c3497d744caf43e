-- What `allocd check` answers.
use Rattle.std.specs.Prelude.{◌≡◌, ◌++◌, ℕ, List, [], Option, Some, None, codes}
use Rattle.std.specs.Fmt.{decimal}
use Rattle.price_certificate.specs.Problem.{Problem}
use Rattle.price_certificate.specs.Faults.{verdict_of}
use Rattle.price_certificate.specs.Lines.{fault_line}
use Rattle.price_certificate.specs.declared.verdict.Verdict.{Verdict}
use Rattle.price_certificate.specs.declared.verdict.Verdict.TheVariants as verdict
use Rattle.price_certificate.specs.declared.version.Version.{Version}
use Rattle.price_certificate.specs.declared.version.Version.TheVariants.{One, Two}
use Rattle.spread_certificate.specs.Document.{IsCertificateDocument}
use Rattle.spread_certificate.specs.Judged.{spread_verdict}
use Rattle.spread_certificate.specs.Lines.{spread_line}
use Rattle.spread_certificate.specs.declared.certificate.Certificate.{Certificate}
use Rattle.spread_certificate.specs.declared.certificate.Certificate.TheVariants as certificate
use Rattle.spread_certificate.specs.declared.verdict.SpreadVerdict.{SpreadVerdict}
use Rattle.spread_certificate.specs.declared.verdict.SpreadVerdict.TheVariants as spread
use Rattle.offline_commands.specs.Answer.{Answers}
use Rattle.offline_commands.specs.Unreadable.{IsUnreadable}
use Rattle.offline_commands.specs.declared.answer.Answer.{Answer}
use Rattle.offline_commands.specs.declared.answer.Answer.TheVariants.{NotRead, Text}
use Rattle.offline_commands.specs.declared.ending.Status.{Status}
use Rattle.offline_commands.specs.declared.ending.Status.TheVariants.{Done, Refused}

-- the input is the document of a plan or of a spread
pub record IsCertificate (input : List ℕ) : Type 0 where
  pub problem : Problem
  pub said : Certificate
  pub document : IsCertificateDocument input problem said

-- in version 1 no bin drains, and nothing is said of what is left
abbrev pub best_line : Version → ℕ → ℕ → ℕ → List ℕ → List ℕ
best_line One covered left moved ending = codes "best covered=" ++ (decimal covered ++ (codes " moved=" ++ (decimal moved ++ (ending ++ codes "\n"))))
best_line Two covered left moved ending = codes "best covered=" ++ (decimal covered ++ (codes " left=" ++ (decimal left ++ (codes " moved=" ++ (decimal moved ++ (ending ++ codes "\n"))))))

abbrev pub verdict_line : Version → Verdict → List ℕ
verdict_line version (verdict.Best covered left moved) = best_line version covered left moved []
verdict_line version (verdict.Refused fault) = codes "refused " ++ (fault_line fault ++ codes "\n")

abbrev pub verdict_status : Verdict → Status
verdict_status (verdict.Best covered left moved) = Done
verdict_status (verdict.Refused fault) = Refused

abbrev pub told : Version → Verdict → Answer
told version verdict = Text (verdict_line version verdict) (verdict_status verdict)

-- the same of a spread: that its plan is the best within caps, or also as even as it tells
abbrev pub spread_ending : Option ℕ → List ℕ
spread_ending None = codes " capped"
spread_ending (Some slack) = codes " even slack=" ++ decimal slack

abbrev pub spread_verdict_line : Version → SpreadVerdict → List ℕ
spread_verdict_line version (spread.Best covered left moved slack) = best_line version covered left moved (spread_ending slack)
spread_verdict_line version (spread.Refused fault) = codes "refused " ++ (spread_line fault ++ codes "\n")

abbrev pub spread_status : SpreadVerdict → Status
spread_status (spread.Best covered left moved slack) = Done
spread_status (spread.Refused fault) = Refused

abbrev pub spread_told : Version → SpreadVerdict → Answer
spread_told version verdict = Text (spread_verdict_line version verdict) (spread_status verdict)

-- what is told of a document's plan or spread
abbrev pub told_of : Problem → Certificate → Answer
told_of p (certificate.Plan plan) = told p.version (verdict_of p plan.pairs plan.item_prices plan.bin_prices)
told_of p (certificate.Spread said) = spread_told p.version (spread_verdict p said)

-- the input is the document of a plan or a spread, and the answer tells its verdict
pub record IsJudged (input : List ℕ) (answer : Answer) : Type 0 where
  pub certificate : IsCertificate input
  pub tells : answer ≡ told_of certificate.problem certificate.said

-- an input is no certificate document, or what it has is judged
abbrev pub Checks : Answers
Checks input (NotRead why) = IsUnreadable IsCertificate input why
Checks input (Text text status) = IsJudged input (Text text status)
