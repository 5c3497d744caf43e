-- The plan that a JSON object says: `pairs` has pairs of an item and a bin, `item_prices` and `bin_prices` the prices.
-- Other members don't matter.
use Rattle.std.specs.Prelude.{ℕ, List, Option, option_map, option_and_then, codes}
use Rattle.serde_json.specs.Data.{Data, object, no_members, member}
use Rattle.json_values.specs.Spelling.{number_in, pair_in, list_in, member_in, number_data, pair_data, list_data}
use Rattle.price_certificate.specs.declared.plan.Plan.{Plan}

-- the plan of these pairs and prices
abbrev pub plan_of : List (ℕ × ℕ) → List ℕ → List ℕ → Plan
plan_of pairs item_prices bin_prices = record { pairs = pairs; item_prices = item_prices; bin_prices = bin_prices }

unfoldable pub plan_in : Data → Option Plan
plan_in d =
    option_and_then (λ pairs. option_and_then (λ item_prices. option_map (plan_of pairs item_prices) (member_in (list_in number_in) (codes "bin_prices") d)) (member_in (list_in number_in) (codes "item_prices") d))
    (member_in (list_in pair_in) (codes "pairs") d)

-- and the one form in which it is written: members in order of their names
abbrev pub plan_data : Plan → Data
plan_data plan =
    object (member (codes "bin_prices") (list_data number_data plan.bin_prices) (member (codes "item_prices") (list_data number_data plan.item_prices) (member (codes "pairs") (list_data pair_data plan.pairs) no_members)))
