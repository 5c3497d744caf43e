use Rattle.std.proofs.Common.{◌≡◌, [], drop}
use Rattle.agent_core.specs.Told.{Told, marks_for}
use Rattle.agent_core.proofs.memory.Memory.marks_for.Given as goal

abbrev pub invariant-loop-listed : goal.invariant-loop-listed
invariant-loop-listed l =
    let told : Told = record l.self { floor = l.floor } in
    marks_for told (drop l.listed-index l.targets) l.marks.entries ≡ marks_for told l.targets []
