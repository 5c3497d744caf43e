-- An event as it is written has no float and few levels, so its text is known and reads back.
use Rattle.std.proofs.Common.{◌≡◌, ◌≤◌, ℕ, List, Option, Some, None, false, [], ◌∷◌, refl, arith}
use Rattle.std.proofs.Math.Nat.{max-le}
use Rattle.std.proofs.lemmas.Bool.{or_from}
use Rattle.serde_json.specs.Data.{depth, members_depth}
use Rattle.serde_json.specs.Read.{max_depth}
use Rattle.serde_json.specs.Written.{has_float, members_have_float}
use Rattle.json_values.specs.Spelling.{list_data, number_data, pair_data}
use Rattle.json_values.proofs.Lists.{no_float, levels}
use Rattle.label_sets.specs.Labels.{LabelList}
use Rattle.label_sets.specs.Target.{FinalTarget, target_data}
use Rattle.label_sets.specs.Written.{label_members}
use Rattle.reach_rules.specs.OwnLimits.{LimitList, limit_members}
use Rattle.reach_rules.specs.Spelling.{rule_data, rule_data_of, reach_data}
use Rattle.reach_rules.specs.declared.rule.ReachRule.{ReachRule}
use Rattle.reach_rules.specs.declared.rule.ReachTest.{ReachTest}
use Rattle.reach_rules.specs.declared.rule.ReachTest.TheVariants.{Any, Present, Equals}
use Rattle.scrape_books.specs.declared.report.Outcome.{Outcome}
use Rattle.scrape_books.specs.declared.report.Outcome.TheVariants.{Up, Down}
use Rattle.spread_certificate.specs.Document.{even_object}
use Rattle.spread_certificate.specs.declared.even.Even.{Even}
use Rattle.spread_certificate.specs.declared.spread.Spread.{Spread as SpreadPlan}
use Rattle.fleet_events.specs.Writing.{event_data, join_data, release_data, report_data, free_members, told_spread_data}
use Rattle.fleet_events.specs.declared.event.Event.{Event}
use Rattle.fleet_events.specs.declared.event.Event.TheVariants.{Discover, Join, Leave, Drain, SetLimits, Install, Spread, NextRound, Take, Serve, Release, Report}

-- ---- no float

labels_no_float : (labels : LabelList) → members_have_float (label_members labels) ≡ false
labels_no_float [] = refl
labels_no_float (l ∷ labels) = labels_no_float labels

pub target_no_float : (target : FinalTarget) → has_float (target_data target) ≡ false
target_no_float target = or_from _ _ (labels_no_float target.labels) refl

test_no_float : (allow : _) (test : ReachTest) → has_float (rule_data_of allow test) ≡ false
test_no_float allow Any = refl
test_no_float allow (Present label) = refl
test_no_float allow (Equals label text) = refl

pub reach_no_float : (reach : List ReachRule) → has_float (reach_data reach) ≡ false
reach_no_float = no_float rule_data (λ rule. test_no_float rule.allow rule.test)

pub limits_no_float : (limits : LimitList) → members_have_float (limit_members limits) ≡ false
limits_no_float [] = refl
limits_no_float (entry ∷ limits) = limits_no_float limits

join_no_float : (name : List ℕ) (reach : List ReachRule) (limits : LimitList) → has_float (join_data name reach limits) ≡ false
join_no_float name reach [] = or_from _ _ (reach_no_float reach) refl
join_no_float name reach (entry ∷ limits) = or_from _ _ (limits_no_float limits) (or_from _ _ (reach_no_float reach) refl)

release_no_float : (collector : ℕ) (job : Option (List ℕ)) → has_float (release_data collector job) ≡ false
release_no_float collector None = refl
release_no_float collector (Some job) = refl

report_no_float : (collector allocation target round : ℕ) (outcome : Outcome) → has_float (report_data collector allocation target round outcome) ≡ false
report_no_float collector allocation target round (Up samples) = refl
report_no_float collector allocation target round Down = refl

numbers_no_float : (xs : List ℕ) → has_float (list_data number_data xs) ≡ false
numbers_no_float = no_float number_data (λ n. refl)

pairs_no_float : (qs : List (ℕ × ℕ)) → has_float (list_data pair_data qs) ≡ false
pairs_no_float = no_float pair_data (λ q. refl)

even_no_float : (even : Even) (witness : Option (List (ℕ × ℕ))) → has_float (even_object even witness) ≡ false
even_no_float even None = or_from _ _ (numbers_no_float even.bin_prices) (or_from _ _ (numbers_no_float even.item_prices) (or_from _ _ (numbers_no_float even.levels) refl))
even_no_float even (Some pairs) = or_from _ _ (numbers_no_float even.bin_prices) (or_from _ _ (numbers_no_float even.item_prices) (or_from _ _ (numbers_no_float even.levels) (or_from _ _ (pairs_no_float pairs) refl)))

free_no_float : (spread : SpreadPlan) → members_have_float (free_members spread) ≡ false
free_no_float spread =
    or_from _ _ (numbers_no_float spread.free_bin_prices) (or_from _ _ (numbers_no_float spread.free_item_prices) (or_from _ _ (numbers_no_float spread.plan.item_prices) (or_from _ _ (pairs_no_float spread.plan.pairs) refl)))

spread_no_float : (spread : SpreadPlan) (told : Option Even) → has_float (told_spread_data spread told) ≡ false
spread_no_float spread None = or_from _ _ (numbers_no_float spread.plan.bin_prices) (or_from _ _ (numbers_no_float spread.caps) (free_no_float spread))
spread_no_float spread (Some even) = or_from _ _ (numbers_no_float spread.plan.bin_prices) (or_from _ _ (numbers_no_float spread.caps) (or_from _ _ (even_no_float even even.witness) (free_no_float spread)))

pub event_no_float : (event : Event) → has_float (event_data event) ≡ false
event_no_float (Discover job source targets) = or_from _ _ (no_float target_data target_no_float targets) refl
event_no_float (Join name reach limits) = join_no_float name reach limits
event_no_float (Leave collector) = refl
event_no_float (Drain collector) = refl
event_no_float (SetLimits collector limits) = or_from _ _ (limits_no_float limits) refl
event_no_float (Install plan) =
    or_from _ _ (numbers_no_float plan.bin_prices) (or_from _ _ (numbers_no_float plan.item_prices) (or_from _ _ (pairs_no_float plan.pairs) refl))
event_no_float (Spread spread) = spread_no_float spread spread.even
event_no_float NextRound = refl
event_no_float (Take collector) = refl
event_no_float (Serve collector job) = refl
event_no_float (Release collector job) = release_no_float collector job
event_no_float (Report report) = report_no_float report.collector report.allocation report.target report.round report.outcome

-- ---- few levels

labels_levels : (labels : LabelList) → members_depth (label_members labels) ≤ 0
labels_levels [] = omega arith
labels_levels (l ∷ labels) = max-le (omega arith) (labels_levels labels)

pub target_levels : (target : FinalTarget) → depth (target_data target) ≤ 2
target_levels target = omega (arith, labels_levels target.labels)

test_levels : (allow : _) (test : ReachTest) → depth (rule_data_of allow test) ≤ 1
test_levels allow Any = omega arith
test_levels allow (Present label) = omega arith
test_levels allow (Equals label text) = omega arith

pub reach_levels : (reach : List ReachRule) → depth (reach_data reach) ≤ 2
reach_levels reach = omega (arith, levels rule_data 1 (λ rule. test_levels rule.allow rule.test) reach)

pub limits_levels : (limits : LimitList) → members_depth (limit_members limits) ≤ 0
limits_levels [] = omega arith
limits_levels (entry ∷ limits) = max-le (omega arith) (limits_levels limits)

join_levels : (name : List ℕ) (reach : List ReachRule) (limits : LimitList) → depth (join_data name reach limits) ≤ 3
join_levels name reach [] = omega (arith, reach_levels reach)
join_levels name reach (entry ∷ limits) = omega (arith, reach_levels reach, limits_levels limits)

release_levels : (collector : ℕ) (job : Option (List ℕ)) → depth (release_data collector job) ≤ 1
release_levels collector None = omega arith
release_levels collector (Some job) = omega arith

report_levels : (collector allocation target round : ℕ) (outcome : Outcome) → depth (report_data collector allocation target round outcome) ≤ 1
report_levels collector allocation target round (Up samples) = omega arith
report_levels collector allocation target round Down = omega arith

numbers_levels : (xs : List ℕ) → depth (list_data number_data xs) ≤ 1
numbers_levels xs = omega (arith, levels number_data 0 (λ n. omega arith) xs)

pairs_levels : (qs : List (ℕ × ℕ)) → depth (list_data pair_data qs) ≤ 2
pairs_levels qs = omega (arith, levels pair_data 1 (λ q. omega arith) qs)

even_levels : (even : Even) (witness : Option (List (ℕ × ℕ))) → depth (even_object even witness) ≤ 3
even_levels even None = omega (arith, numbers_levels even.bin_prices, numbers_levels even.item_prices, numbers_levels even.levels)
even_levels even (Some pairs) = omega (arith, numbers_levels even.bin_prices, numbers_levels even.item_prices, numbers_levels even.levels, pairs_levels pairs)

free_levels : (spread : SpreadPlan) → members_depth (free_members spread) ≤ 2
free_levels spread = omega (arith, numbers_levels spread.free_bin_prices, numbers_levels spread.free_item_prices, numbers_levels spread.plan.item_prices, pairs_levels spread.plan.pairs)

spread_levels : (spread : SpreadPlan) (told : Option Even) → depth (told_spread_data spread told) ≤ 4
spread_levels spread None = omega (arith, numbers_levels spread.plan.bin_prices, numbers_levels spread.caps, free_levels spread)
spread_levels spread (Some even) = omega (arith, numbers_levels spread.plan.bin_prices, numbers_levels spread.caps, even_levels even even.witness, free_levels spread)

pub event_levels : (event : Event) → depth (event_data event) ≤ max_depth
event_levels (Discover job source targets) = omega (arith, levels target_data 2 target_levels targets)
event_levels (Join name reach limits) = omega (arith, join_levels name reach limits)
event_levels (Leave collector) = omega arith
event_levels (Drain collector) = omega arith
event_levels (SetLimits collector limits) = omega (arith, limits_levels limits)
event_levels (Install plan) =
    omega (arith, numbers_levels plan.bin_prices, numbers_levels plan.item_prices, pairs_levels plan.pairs)
event_levels (Spread spread) = omega (arith, spread_levels spread spread.even)
event_levels NextRound = omega arith
event_levels (Take collector) = omega arith
event_levels (Serve collector job) = omega arith
event_levels (Release collector job) = omega (arith, release_levels collector job)
event_levels (Report report) = omega (arith, report_levels report.collector report.allocation report.target report.round report.outcome)
