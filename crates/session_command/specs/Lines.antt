-- The line of a session that is refused.
use Rattle.std.specs.Prelude.{ℕ, List, ◌++◌, codes}
use Rattle.std.specs.Fmt.{decimal}
use Rattle.fleet_events.specs.Lines.{answer_line}
use Rattle.relabel.specs.Names.{rule_error_name}
use Rattle.session_rounds.specs.declared.stop.SessionStop.{SessionStop}
use Rattle.session_rounds.specs.declared.stop.SessionStop.TheVariants.{Refused, Rules, JournalFull, Memory}

-- an answer that is a refusal, the number and the name of a rule's refusal, or that the journal is full
abbrev pub stop_line : SessionStop → List ℕ
stop_line (Refused answer) = codes "refused " ++ (answer_line answer ++ codes "\n")
stop_line (Rules error) = codes "refused " ++ (decimal error.number ++ (codes " " ++ (rule_error_name error.error ++ codes "\n")))
stop_line JournalFull = codes "refused JournalFull\n"
stop_line Memory = codes "memory\n"
