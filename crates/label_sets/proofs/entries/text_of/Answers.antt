use Rattle.std.proofs.Common.{◌∙◌}
use Rattle.label_sets.proofs.Places.{label_text_from_here, label_text_from_gap}
use Rattle.label_sets.proofs.entries.text_of.Goals as goal

pub returns-in-Ok : goal.returns-in-Ok
returns-in-Ok c = c.as_str.ensures ∙ label_text_from_here _ _ _ c.index-entries-i.result c.requires c.in-Ok.ensures.here

pub returns-in-Err : goal.returns-in-Err
returns-in-Err c = label_text_from_gap _ _ _ c.in-Err.ensures.gap
