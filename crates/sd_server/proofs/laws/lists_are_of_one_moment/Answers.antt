use Rattle.sd_server.proofs.MomentLemmas.{kept_are_of_one_moment, served_are_of_one_moment, taken_are_of_one_moment}
use Rattle.sd_server.proofs.laws.lists_are_of_one_moment.Goals as goal

pub returns-clause-served : goal.returns-clause-served
returns-clause-served c = served_are_of_one_moment

pub returns-clause-kept : goal.returns-clause-kept
returns-clause-kept c = kept_are_of_one_moment

pub returns-clause-taken : goal.returns-clause-taken
returns-clause-taken c = taken_are_of_one_moment
