use Rattle.std.proofs.Common.{◌∙◌, ap}
use Rattle.serde_json.specs.Data.{object}
use Rattle.serde_json.proofs.Views.{view-Object}
use Rattle.label_sets.proofs.Objects.{label_members_more, whole_object}
use Rattle.label_sets.proofs.texts.object_of.Goals as goal

-- an entry's name is above those before it, so its member goes last
pub loop-entry-preserved : goal.loop-entry-preserved
loop-entry-preserved c =
    label_members_more _ _ c.entry-item.result _ _ c.requires c.loop-entry-test.true c.entry-item.is c.loop-entry.invariant
    (rw (c.as_str-in-loop-entry.ensures.text, c.in_ok-text.ensures, c.as_str.ensures) at c.in_ok-put.ensures.ok)

pub returns : goal.returns
returns c = view-Object c.loop-entry.members ∙ ap object (whole_object _ _ _ c.loop-entry-test.false c.loop-entry.invariant)
