-- The JSON document of a certificate: that of an instance and a plan (`price_certificate`), and where the plan is within caps one member
-- more, `spread`. It is an object: `caps` has the caps, `free_item_prices` and `free_bin_prices` the prices where nothing was before, and
-- `even`, which may be left out, how even the plan is: `jobs`, `slack`, `levels`, `keep`, `item_prices`, `bin_prices`, and in `pairs` the
-- witness, left out where it is the plan. Other members don't matter.
use Rattle.std.specs.Prelude.{◌≡◌, ℕ, List, Option, Some, None, option_map, option_and_then, codes}
use Rattle.serde_json.specs.Data.{Data, null, boolean, number, string, array, object, no_members, member, put}
use Rattle.serde_json.specs.Find.{get}
use Rattle.json_values.specs.Texts.{ReadsAs}
use Rattle.json_values.specs.Spelling.{number_in, pair_in, list_in, member_in, number_data, pair_data, list_data}
use Rattle.price_certificate.specs.Problem.{Problem}
use Rattle.price_certificate.specs.Instances.{problem_in}
use Rattle.price_certificate.specs.Plan.{plan_in}
use Rattle.price_certificate.specs.Document.{IsDocument, document_data}
use Rattle.price_certificate.specs.declared.plan.Plan.{Plan}
use Rattle.spread_certificate.specs.declared.even.Even.{Even}
use Rattle.spread_certificate.specs.declared.spread.Spread.{Spread}
use Rattle.spread_certificate.specs.declared.certificate.Certificate.{Certificate}
use Rattle.spread_certificate.specs.declared.certificate.Certificate.TheVariants as certificate

-- what a member says that may be left out
abbrev pub optional_in : {A : Type 0} → (Data → Option A) → Option Data → Option (Option A)
optional_in what None = Some None
optional_in what (Some d) = option_map (λ x. Some x) (what d)

abbrev pub even_of : ℕ → ℕ → List ℕ → ℕ → List ℕ → List ℕ → Option (List (ℕ × ℕ)) → Even
even_of jobs slack levels keep item_prices bin_prices witness =
    record { jobs = jobs; slack = slack; levels = levels; keep = keep; item_prices = item_prices; bin_prices = bin_prices; witness = witness }

unfoldable pub even_in : Data → Option Even
even_in d =
    option_and_then (λ jobs. option_and_then (λ slack. option_and_then (λ keep. option_and_then (λ levels. option_and_then (λ item_prices. option_and_then (λ bin_prices.
    option_map (even_of jobs slack levels keep item_prices bin_prices) (optional_in (list_in pair_in) (get (codes "pairs") d)))
    (member_in (list_in number_in) (codes "bin_prices") d)) (member_in (list_in number_in) (codes "item_prices") d)) (member_in (list_in number_in) (codes "levels") d))
    (member_in number_in (codes "keep") d)) (member_in number_in (codes "slack") d)) (member_in number_in (codes "jobs") d)

abbrev pub spread_of : Plan → List ℕ → List ℕ → List ℕ → Option Even → Spread
spread_of plan caps free_item_prices free_bin_prices even = record { caps = caps; plan = plan; free_item_prices = free_item_prices; free_bin_prices = free_bin_prices; even = even }

-- the spread of a plan that the member `spread` says
unfoldable pub spread_in : Plan → Data → Option Spread
spread_in plan d =
    option_and_then (λ caps. option_and_then (λ free_item_prices. option_and_then (λ free_bin_prices. option_map (spread_of plan caps free_item_prices free_bin_prices) (optional_in even_in (get (codes "even") d)))
    (member_in (list_in number_in) (codes "free_bin_prices") d)) (member_in (list_in number_in) (codes "free_item_prices") d)) (member_in (list_in number_in) (codes "caps") d)

abbrev pub certificate_by : Plan → Option Data → Option Certificate
certificate_by plan None = Some (certificate.Plan plan)
certificate_by plan (Some d) = option_map certificate.Spread (spread_in plan d)

unfoldable pub certificate_in : Data → Option Certificate
certificate_in d = option_and_then (λ plan. certificate_by plan (get (codes "spread") d)) (plan_in d)

-- the bytes are the document of this instance and this certificate
pub record IsCertificateDocument (bytes : List ℕ) (p : Problem) (said : Certificate) : Type 0 where
  pub says : Data
  pub json : ReadsAs bytes says
  pub instance : problem_in says ≡ Some p
  pub certificate : certificate_in says ≡ Some said

-- What is read as a plan is the document of an instance and a plan, as ever.
abbrev pub PlanDocumentsStay : Type 0
PlanDocumentsStay = (bytes : List ℕ) (p : Problem) (plan : Plan) → IsCertificateDocument bytes p (certificate.Plan plan) → IsDocument bytes p plan.pairs plan.item_prices plan.bin_prices

-- ---- the one form that is written: members in order of their names

abbrev pub even_object : Even → Option (List (ℕ × ℕ)) → Data
even_object even None =
    object (member (codes "bin_prices") (list_data number_data even.bin_prices)
    (member (codes "item_prices") (list_data number_data even.item_prices)
    (member (codes "jobs") (number_data even.jobs)
    (member (codes "keep") (number_data even.keep)
    (member (codes "levels") (list_data number_data even.levels)
    (member (codes "slack") (number_data even.slack) no_members))))))
even_object even (Some pairs) =
    object (member (codes "bin_prices") (list_data number_data even.bin_prices)
    (member (codes "item_prices") (list_data number_data even.item_prices)
    (member (codes "jobs") (number_data even.jobs)
    (member (codes "keep") (number_data even.keep)
    (member (codes "levels") (list_data number_data even.levels)
    (member (codes "pairs") (list_data pair_data pairs)
    (member (codes "slack") (number_data even.slack) no_members)))))))

abbrev pub even_data : Even → Data
even_data even = even_object even even.witness

abbrev pub spread_object : Spread → Option Even → Data
spread_object spread None =
    object (member (codes "caps") (list_data number_data spread.caps)
    (member (codes "free_bin_prices") (list_data number_data spread.free_bin_prices)
    (member (codes "free_item_prices") (list_data number_data spread.free_item_prices) no_members)))
spread_object spread (Some even) =
    object (member (codes "caps") (list_data number_data spread.caps)
    (member (codes "even") (even_data even)
    (member (codes "free_bin_prices") (list_data number_data spread.free_bin_prices)
    (member (codes "free_item_prices") (list_data number_data spread.free_item_prices) no_members))))

abbrev pub spread_data : Spread → Data
spread_data spread = spread_object spread spread.even

-- an object with the member `spread`
abbrev pub with_spread : Data → Data → Data
with_spread spread null = null
with_spread spread (boolean b) = boolean b
with_spread spread (number n) = number n
with_spread spread (string s) = string s
with_spread spread (array items) = array items
with_spread spread (object members) = object (put (codes "spread") spread members)

abbrev pub spread_document_data : Problem → Spread → Data
spread_document_data p spread = with_spread (spread_data spread) (document_data p spread.plan.pairs spread.plan.item_prices spread.plan.bin_prices)
