-- Which lists are of one allocation and one round.
use Rattle.std.specs.Prelude.{◌==◌, ◌&&◌, Bool, true, Option, Some, None}
use Rattle.agent_core.specs.declared.report.Head.{Head}

abbrev pub is_one : Option Head → Head → Bool
is_one None head = true
is_one (Some before) head = (before.collector == head.collector) && ((before.epoch == head.epoch) && ((before.number == head.number) && (before.round == head.round)))
