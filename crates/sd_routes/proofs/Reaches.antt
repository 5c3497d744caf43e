-- The rules that are read, by how many there are.
use Rattle.std.proofs.Common.{◌≡◌, List, length, Bool, true, false, cond, Option, Some, None, Result, Ok, Err, refl, nat_le}
use Rattle.serde_json.specs.Data.{Data}
use Rattle.reach_rules.specs.Spelling.{few_rules, reach_spelled}
use Rattle.reach_rules.specs.declared.reach.TheConstants.{MOST_RULES}
use Rattle.reach_rules.specs.declared.rule.ReachRule.{ReachRule}
use Rattle.reach_rules.specs.declared.error.ReachError.{ReachError}
use Rattle.reach_rules.specs.declared.error.ReachError.TheVariants.{Shape, TooManyRules}
use Rattle.sd_routes.specs.Events.{few_said, rules_in}
use Rattle.sd_routes.specs.declared.request_error.RequestError.{RequestError}
use Rattle.sd_routes.specs.declared.request_error.RequestError.TheVariants as error

abbrev Read : Type 0
Read = Result (List ReachRule) ReachError

abbrev Said : Type 0
Said = Result (Option (List ReachRule)) RequestError

few-read : (o : Option (List ReachRule)) (rules : List ReachRule) → few_rules o ≡ Ok rules → few_said o ≡ Ok (Some rules)
few-read None rules h = cc
few-read (Some all) rules h = by (nat_le (length all) MOST_RULES) h
  where
    by : (v : Bool) → cond {A = Read} v (Ok all) (Err TooManyRules) ≡ Ok rules → ◌≡◌ {A = Said} (Ok (cond v (Some all) None)) (Ok (Some rules))
    by true h = cc
    by false h = cc

few-many : (o : Option (List ReachRule)) → few_rules o ≡ Err TooManyRules → few_said o ≡ Ok None
few-many None h = cc
few-many (Some all) h = by (nat_le (length all) MOST_RULES) h
  where
    by : (v : Bool) → cond {A = Read} v (Ok all) (Err TooManyRules) ≡ Err TooManyRules → ◌≡◌ {A = Said} (Ok (cond v (Some all) None)) (Ok None)
    by true h = cc
    by false h = cc

few-none : (o : Option (List ReachRule)) → few_rules o ≡ Err Shape → few_said o ≡ Err error.Shape
few-none None h = refl
few-none (Some all) h = by (nat_le (length all) MOST_RULES) h
  where
    by : (v : Bool) → cond {A = Read} v (Ok all) (Err TooManyRules) ≡ Err Shape → ◌≡◌ {A = Said} (Ok (cond v (Some all) None)) (Err error.Shape)
    by true h = cc
    by false h = cc

pub few_of_read : (d : Data) (rules : List ReachRule) → reach_spelled d ≡ Ok rules → few_said (rules_in d) ≡ Ok (Some rules)
few_of_read d rules h = few-read (rules_in d) rules h

pub few_of_many : (d : Data) → reach_spelled d ≡ Err TooManyRules → few_said (rules_in d) ≡ Ok None
few_of_many d h = few-many (rules_in d) h

pub few_of_none : (d : Data) → reach_spelled d ≡ Err Shape → few_said (rules_in d) ≡ Err error.Shape
few_of_none d h = few-none (rules_in d) h
