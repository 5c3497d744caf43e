use Rattle.std.proofs.Common.{◌≡◌}
use Rattle.form_urlencoded.specs.Parse.{pairs_left}
use Rattle.sd_routes.specs.Queries.{value_in, first_named}
use Rattle.sd_routes.proofs.query.value_in.Given as goal

abbrev pub invariant-loop-pair : goal.invariant-loop-pair
invariant-loop-pair l =
    (goal.iterator-loop-pair).can_next l.pair-iterator ×
    (goal.iterator-loop-pair).is_finite l.pair-iterator ×
    (value_in l.fn.name l.fn.query ≡ first_named l.fn.name (pairs_left l.pair-iterator))
