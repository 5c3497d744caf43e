use Rattle.label_sets.proofs.LawProofs.{set_gives_text, remove_gives_no_text, set_keeps_sets, remove_keeps_sets, alike_are_equal}
use Rattle.label_sets.proofs.Finals.{last_is_put_last}
use Rattle.label_sets.proofs.laws.map_laws.Goals as goal

pub returns-clause-set : goal.returns-clause-set
returns-clause-set c = set_gives_text

pub returns-clause-remove : goal.returns-clause-remove
returns-clause-remove c = remove_gives_no_text

pub returns-clause-set_keeps : goal.returns-clause-set_keeps
returns-clause-set_keeps c = set_keeps_sets

pub returns-clause-remove_keeps : goal.returns-clause-remove_keeps
returns-clause-remove_keeps c = remove_keeps_sets

pub returns-clause-alike : goal.returns-clause-alike
returns-clause-alike c = alike_are_equal

pub returns-clause-last : goal.returns-clause-last
returns-clause-last c = last_is_put_last
