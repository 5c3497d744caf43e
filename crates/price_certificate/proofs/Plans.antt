-- An object says a plan exactly if its members spell the plan's lists.
use Rattle.std.proofs.Common.{◌≡◌, ℕ, List, Option, Some, None, option_map, option_and_then, IfSome, IfNone, refl, sym, ap}
use Rattle.serde_json.specs.Data.{Data}
use Rattle.price_certificate.specs.Document.{SpellsPlan}
use Rattle.price_certificate.specs.Plan.{plan_of, plan_in}
use Rattle.price_certificate.specs.declared.plan.Plan.{Plan}

spelled_by : (o : Option (List (ℕ × ℕ))) (p q : Option (List ℕ)) (plan : Plan) → option_and_then (λ pairs. option_and_then (λ item_prices. option_map (plan_of pairs item_prices) q) p) o ≡ Some plan → (o ≡ Some plan.pairs) × (p ≡ Some plan.item_prices) × (q ≡ Some plan.bin_prices)
spelled_by None p q plan e = cc
spelled_by (Some pairs) None q plan e = cc
spelled_by (Some pairs) (Some item_prices) None plan e = cc
spelled_by (Some pairs) (Some item_prices) (Some bin_prices) plan e =
    let same : plan_of pairs item_prices bin_prices ≡ plan = cc in
    (ap (λ (x : Plan). Some x.pairs) same, ap (λ (x : Plan). Some x.item_prices) same, ap (λ (x : Plan). Some x.bin_prices) same)

not_by : (o : Option (List (ℕ × ℕ))) (p q : Option (List ℕ)) (pairs : List (ℕ × ℕ)) (item_prices bin_prices : List ℕ) → option_and_then (λ ps. option_and_then (λ us. option_map (plan_of ps us) q) p) o ≡ None → o ≡ Some pairs → p ≡ Some item_prices → q ≡ Some bin_prices → ⊥
not_by None p q pairs item_prices bin_prices none e f g = cc
not_by (Some ps) None q pairs item_prices bin_prices none e f g = cc
not_by (Some ps) (Some us) None pairs item_prices bin_prices none e f g = cc
not_by (Some ps) (Some us) (Some ws) pairs item_prices bin_prices none e f g = cc

pub is_spelled : (d : Data) (o : Option Plan) → o ≡ plan_in d → IfSome o (λ plan. SpellsPlan d plan.pairs plan.item_prices plan.bin_prices)
unfolding plan_in
is_spelled d None e = tt
is_spelled d (Some plan) e =
    let parts = spelled_by _ _ _ plan (sym e) in
    record { pairs = parts.0; item_prices = parts.1; bin_prices = parts.2 }

pub is_not_spelled : (d : Data) (o : Option Plan) → o ≡ plan_in d → IfNone o ((pairs : List (ℕ × ℕ)) (item_prices bin_prices : List ℕ) → SpellsPlan d pairs item_prices bin_prices → ⊥)
unfolding plan_in
is_not_spelled d None e = λ pairs item_prices bin_prices spelled. not_by _ _ _ pairs item_prices bin_prices (sym e) spelled.pairs spelled.item_prices spelled.bin_prices
is_not_spelled d (Some plan) e = tt

plan_by : (o : Option (List (ℕ × ℕ))) (p q : Option (List ℕ)) (plan : Plan) → o ≡ Some plan.pairs → p ≡ Some plan.item_prices → q ≡ Some plan.bin_prices → option_and_then (λ pairs. option_and_then (λ item_prices. option_map (plan_of pairs item_prices) q) p) o ≡ Some plan
plan_by o p q plan e f g = rw e (rw f (rw g refl))

pub spelled_plan : (d : Data) (plan : Plan) → SpellsPlan d plan.pairs plan.item_prices plan.bin_prices → plan_in d ≡ Some plan
unfolding plan_in
spelled_plan d plan spelled = plan_by _ _ _ plan spelled.pairs spelled.item_prices spelled.bin_prices
