-- What `allocd plan` answers.
use Rattle.std.specs.Prelude.{◌≡◌, ◌++◌, ℕ, List, codes, map}
use Rattle.std.specs.List.Sorted.{IsStrictlyIncreasing}
use Rattle.serde_json.specs.Written.{compact_text}
use Rattle.price_certificate.specs.Problem.{Problem}
use Rattle.price_certificate.specs.Certificate.{IsCertified}
use Rattle.price_certificate.specs.Document.{IsInstanceDocument, document_data}
use Rattle.offline_commands.specs.Answer.{Answers}
use Rattle.offline_commands.specs.Unreadable.{IsUnreadable}
use Rattle.offline_commands.specs.declared.answer.Answer.TheVariants.{NotRead, Text}
use Rattle.offline_commands.specs.declared.ending.Status.{Status}
use Rattle.offline_commands.specs.declared.ending.Status.TheVariants.{Done}

-- the input is an instance document
pub record IsInstance (input : List ℕ) : Type 0 where
  pub problem : Problem
  pub document : IsInstanceDocument input problem

-- the text is the document of the instance and a certified plan for it, its pairs in order of items, and a line feed
pub record IsPlanOf (problem : Problem) (text : List ℕ) : Type 0 where
  pub pairs : List (ℕ × ℕ)
  pub item_prices : List ℕ
  pub bin_prices : List ℕ
  pub certified : IsCertified problem pairs item_prices bin_prices
  pub ordered : IsStrictlyIncreasing (map (λ (q : ℕ × ℕ). q.0) pairs)
  pub says : text ≡ compact_text (document_data problem pairs item_prices bin_prices) ++ codes "\n"

-- the text is a plan for the input's instance
pub record IsPlanned (input text : List ℕ) (status : Status) : Type 0 where
  pub instance : IsInstance input
  pub plan : IsPlanOf instance.problem text
  pub ends : status ≡ Done

-- an input is no instance document, or the text is a plan for it
abbrev pub Plans : Answers
Plans input (NotRead why) = IsUnreadable IsInstance input why
Plans input (Text text status) = IsPlanned input text status
