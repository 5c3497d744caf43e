-- What the allocator says where a list of a job is asked for: docs/operate/HTTP.md.
use Rattle.std.specs.Prelude.{ℕ, ◌==◌, ◌&&◌, not, Bool, List, Option, Some, None, codes, if◌then◌else◌}
use Rattle.std.specs.Str.{bytes_eq}
use Rattle.agent_core.specs.declared.report.Head.{Head}
use Rattle.agent_documents.specs.Numbers.{head_said, until_said}
use Rattle.agent_exchanges.specs.declared.saying.Saying.{Saying}
use Rattle.agent_exchanges.specs.declared.saying.Saying.TheVariants as saying_is

-- no name has a collector
abbrev pub is_unknown : List ℕ → Bool
is_unknown body = bytes_eq body (codes "{\"refused\":\"UnknownCollector\"}")

abbrev pub is_nothing : List ℕ → Bool
is_nothing body = bytes_eq body (codes "[]")

abbrev pub is_headless : List ℕ → Bool
is_headless collector = bytes_eq collector (codes "")

abbrev pub of_heads : Option Head → Option ℕ → Saying
of_heads None until = saying_is.Other
of_heads (Some head) None = saying_is.Other
of_heads (Some head) (Some until) = saying_is.List head until

abbrev pub with_heads : ℕ → List ℕ → List ℕ → List ℕ → List ℕ → List ℕ → List ℕ → Saying
with_heads at collector epoch number round age length = of_heads (head_said collector epoch number round) (until_said at age length)

-- an empty list without headers is one of a collector that left
abbrev pub saying : ℕ → ℕ → List ℕ → List ℕ → List ℕ → List ℕ → List ℕ → List ℕ → List ℕ → Saying
saying at status collector epoch number round age length body =
    if (status == 404) && is_unknown body then saying_is.Unknown
    else if not (status == 200) then saying_is.Other
    else if is_headless collector && is_nothing body then saying_is.Gone
    else with_heads at collector epoch number round age length
