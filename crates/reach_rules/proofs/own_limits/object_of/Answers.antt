use Rattle.std.proofs.Common.{sym, ap, ◌∙◌}
use Rattle.json_values.specs.Spelling.{number_in}
use Rattle.reach_rules.proofs.LimitObjects.{limit_members_more, spelled_more, object_is, object_back}
use Rattle.reach_rules.proofs.own_limits.object_of.Goals as goal

-- an entry's name is above those before it, so its member goes last
pub loop-entry-preserved : goal.loop-entry-preserved
loop-entry-preserved c =
    let limit = c.in_ok-limit.ensures in
    record {
      form = limit_members_more _ _ c.entry-item.result _ _ c.requires c.loop-entry-test.true c.entry-item.is c.loop-entry.invariant.form (rw (c.as_str.ensures, limit.form) at c.in_ok-put.ensures.ok);
      spelled = spelled_more c.args.entries.now c.loop-entry.entry-index c.entry-item.result c.loop-entry-test.true c.entry-item.is (sym (ap number_in limit.form) ∙ limit.reads_back) c.loop-entry.invariant.spelled;
    }

pub returns-clause-form : goal.returns-clause-form
returns-clause-form c = object_is c.args.entries.now c.loop-entry.entry-index c.loop-entry.members c.loop-entry-test.false c.loop-entry.invariant.form

pub returns-clause-reads_back : goal.returns-clause-reads_back
returns-clause-reads_back c =
    object_back c.args.entries.now c.loop-entry.entry-index c.loop-entry.members c.loop-entry-test.false c.loop-entry.invariant.form c.requires c.loop-entry.invariant.spelled
