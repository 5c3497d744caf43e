use Rattle.std.proofs.Common.{ℕ, List, ap, ◌∙◌}
use Rattle.fleet.specs.Live.{with_list, chosen_below, is_in}
use Rattle.fleet.proofs.LiveLemmas.{change_is, restored}
use Rattle.fleet.proofs.listing.relist.Goals as goal

pub returns-in-Ok-Ok-clause-change : goal.returns-in-Ok-Ok-clause-change
returns-in-Ok-Ok-clause-change c =
    change_is c.args.listed.now.items c.as_slice.result.now (with_list c.args.listed.now.items c.args.job c.args.source (chosen_below (is_in c.args.numbers.now) c.args.known)) c.as_slice-3.result.now c.as_slice-2.result.now c.in_ok-before.before.items c.args.known c.in-Ok-Ok.counts
    c.as_slice-2.ensures.value c.in_ok-before.ensures.each c.in_ok-before.ensures.marks c.as_slice.ensures.value
    (c.as_slice-3.ensures.value ∙ c.replace_list-old.ensures.listed ∙ ap (λ (l : List ℕ). with_list c.args.listed.now.items c.args.job c.args.source l) c.in_ok-list.ensures)
    (rw c.in-Ok-Ok.field-0-is at c.in-Ok-Ok.ensures)

pub returns-in-Ok-Err-clause-listed : goal.returns-in-Ok-Err-clause-listed
returns-in-Ok-Err-clause-listed c = restored c.args.listed.now.items _ _ c.args.job c.args.source _ _ c.requires.job c.replace_list-old.ensures.listed c.replace_list-old.ensures.before c.replace_list.ensures.listed

pub returns-clause-err : goal.returns-clause-err
returns-clause-err c = restored c.args.listed.now.items _ _ c.args.job c.args.source _ _ c.requires.job c.replace_list-old.ensures.listed c.replace_list-old.ensures.before c.replace_list-in-Err.ensures.listed
