-- The lines of what the allocator answers.
use Rattle.std.specs.Prelude.{ℕ, List, [], ◌∷◌, ◌++◌, Result, Ok, Err, codes}
use Rattle.std.specs.Fmt.{decimal}
use Rattle.http_get.specs.declared.reply.Reply.{Reply}
use Rattle.http_get.specs.declared.reply.FetchFault.{FetchFault}
use Rattle.http_get.specs.declared.reply.FetchFault.TheVariants.{Device, TooLong, Memory}

-- an answer's status and body, or the name of what there was in its place
abbrev pub answer_line : Result Reply FetchFault → List ℕ
answer_line (Ok reply) = decimal reply.status ++ (codes " " ++ (reply.body ++ codes "\n"))
answer_line (Err Device) = codes "Device\n"
answer_line (Err TooLong) = codes "TooLong\n"
answer_line (Err Memory) = codes "Memory\n"
