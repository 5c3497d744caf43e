-- Whether anything changed since the allocation was known to be a best one.
use Rattle.std.specs.Prelude.{◌||◌, Bool, true, false, nat_lt, List, [], ◌∷◌}
use Rattle.fleet_events.specs.declared.answer.Answer.{Answer}
use Rattle.fleet_events.specs.declared.answer.Answer.TheVariants.{Discovered, Joined, Left, Draining, LimitsSet, Published, Not}
use Rattle.fleet_events.specs.declared.refusal.Refusal.TheVariants.{Unchanged}
use Rattle.journal_entries.specs.declared.entry.Entry.{Entry}

-- after this answer: an allocation that is published, or found again, is a best one of its moment, or the best within its caps
abbrev pub changed_by : Bool → Answer → Bool
changed_by changed (Published number) = false
changed_by changed (Not (Unchanged number)) = false
changed_by changed (Discovered added removed) = changed || (nat_lt 0 added || nat_lt 0 removed)
changed_by changed (Joined collector) = true
changed_by changed Left = true
changed_by changed Draining = true
changed_by changed LimitsSet = true
changed_by changed _ = changed

abbrev pub changed_from : Bool → List Entry → Bool
changed_from changed [] = changed
changed_from changed (entry ∷ entries) = changed_from (changed_by changed entry.answer) entries

-- after a journal; of what was before it nothing is known
abbrev pub changed_in : List Entry → Bool
changed_in entries = changed_from true entries
