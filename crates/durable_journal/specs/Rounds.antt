-- Of how many of the last rounds a report is booked: a member of a journal's first line.
use Rattle.std.specs.Prelude.{ℕ, List, ◌++◌, ◌-◌, length, take, codes}
use Rattle.std.specs.Fmt.{decimal}

-- an object's text with the number as its last member
abbrev pub with_report_rounds : List ℕ → ℕ → List ℕ
with_report_rounds line report_rounds = take (length line - 1) line ++ (codes ",\"report_rounds\":" ++ (decimal report_rounds ++ codes "}"))
