-- The pages of collectors have no float, so their texts are known.
use Rattle.std.proofs.Common.{◌≡◌, ℕ, List, [], ◌∷◌, codes, Option, Some, None, Bool, true, false, refl}
use Rattle.std.proofs.lemmas.Bool.{or_from}
use Rattle.serde_json.specs.Data.{Members, no_members, put}
use Rattle.serde_json.specs.Written.{has_float, members_have_float}
use Rattle.json_values.proofs.Lists.{no_float}
use Rattle.json_values.specs.Spelling.{list_data, number_data}
use Rattle.reach_rules.specs.OwnLimits.{LimitList, limit_members}
use Rattle.reach_rules.specs.Spelling.{rule_data, rule_data_of, reach_data}
use Rattle.reach_rules.specs.declared.rule.ReachRule.{ReachRule}
use Rattle.reach_rules.specs.declared.rule.ReachTest.{ReachTest}
use Rattle.reach_rules.specs.declared.rule.ReachTest.TheVariants.{Any, Present, Equals}
use Rattle.sd_routes.specs.CollectorPages.{collector_data, number_or_null, with_held}
use Rattle.sd_routes.specs.declared.collector_row.CollectorRow.{CollectorRow}
use Rattle.sd_routes.proofs.Floats.{put_no_float}

pub with_held_no_float : (ms : Members) (shares : List (List ℕ × ℕ)) → members_have_float ms ≡ false → members_have_float (with_held ms shares) ≡ false
with_held_no_float ms [] h = h
with_held_no_float ms (share ∷ shares) h = with_held_no_float (put share.0 (number_data share.1) ms) shares (put_no_float share.0 (number_data share.1) ms refl h)

pub number_no_float : (number : Option ℕ) → has_float (number_or_null number) ≡ false
number_no_float None = refl
number_no_float (Some n) = refl

limits_no_float : (limits : LimitList) → members_have_float (limit_members limits) ≡ false
limits_no_float [] = refl
limits_no_float (entry ∷ limits) = limits_no_float limits

test_no_float : (allow : Bool) (test : ReachTest) → has_float (rule_data_of allow test) ≡ false
test_no_float allow Any = refl
test_no_float allow (Present label) = refl
test_no_float allow (Equals label text) = refl

reach_no_float : (reach : List ReachRule) → has_float (reach_data reach) ≡ false
reach_no_float = no_float rule_data (λ rule. test_no_float rule.allow rule.test)

pub collector_no_float : (row : CollectorRow) → has_float (collector_data row) ≡ false
collector_no_float row =
    or_from _ _ refl (or_from _ _ (with_held_no_float no_members row.held refl) (or_from _ _ refl (or_from _ _ (number_no_float row.last_take)
    (or_from _ _ (limits_no_float row.limits) (or_from _ _ refl (or_from _ _ (reach_no_float row.reach) (or_from _ _ (number_no_float row.taken) refl)))))))

pub collectors_no_float : (rows : List CollectorRow) → has_float (list_data collector_data rows) ≡ false
collectors_no_float = no_float collector_data collector_no_float
