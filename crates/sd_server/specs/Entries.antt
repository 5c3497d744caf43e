-- What an entry may lead to.
use Rattle.std.specs.Prelude.{◌≡◌, ◌⊎◌, List, Option, Some, IsSome, true}
use mathlib.Core.List.{IsPrefix}
use Rattle.journal_entries.specs.declared.entry.Entry.{Entry as Line}
use Rattle.sd_routes.specs.declared.request_error.RequestError.TheVariants.{NotKept}
use Rattle.sd_routes.specs.declared.responding.Said.{Said}
use Rattle.sd_routes.specs.declared.responding.Said.TheVariants.{Answer as Answered, Answers, List as ListOf, Nothing, Refused}
use Rattle.sd_server.specs.Says.{SaysReload, is_of_journal}
use Rattle.sd_server.specs.Spans.{Span}
use Rattle.sd_server.specs.declared.entry.Entry.{Entry}
use Rattle.sd_server.specs.declared.entry.Entry.TheVariants as entry
use Rattle.sd_server.specs.declared.entry.Later.{Later}

-- a device keeps this beginning of the journal, and perhaps more of it
abbrev pub KeptPast : (List Line → Type 0) → List Line → Type 0
KeptPast keeps front = (durable : List Line) × keeps durable × IsPrefix front durable

module _ {N : Type 0} where
  -- what may be said once what was seen is kept, or is not
  abbrev pub MaySayLater : (List Line → Type 0) → Later N → Said → Type 0
  MaySayLater keeps later said = ((later.said ≡ Some said) × KeptPast keeps later.front) ⊎ (said ≡ Refused NotKept)

  abbrev pub MaySayEntry : (List Line → Type 0) → Entry N → Said → Type 0
  MaySayEntry keeps (entry.Now saying) said = said ≡ saying
  MaySayEntry keeps (entry.Later later) said = MaySayLater keeps later said
  MaySayEntry keeps (entry.Reload reload) said = SaysReload said

  -- whatever it leads to is this
  abbrev pub Leads : (List Line → Type 0) → (Said → Type 0) → Entry N → Type 0
  Leads keeps Tells e = (said : Said) → MaySayEntry keeps e said → Tells said

-- where it is an answer or a list, all that was seen of the journal is kept
abbrev pub IsPast : (List Line → Type 0) → Span → Said → Type 0
IsPast keeps span (Answered answer) = KeptPast keeps span.after
IsPast keeps span (Answers answers round) = KeptPast keeps span.after
IsPast keeps span (ListOf head groups) = KeptPast keeps span.after
IsPast keeps span Nothing = KeptPast keeps span.after
IsPast keeps span _ = Unit {0}

-- so it is, where something is to be kept
abbrev pub OnceKept : {K : Type 0} → Option K → (List Line → Type 0) → Span → Said → Type 0
OnceKept kept keeps span said = IsSome kept → IsPast keeps span said

-- this once so much is kept, or that it is not
abbrev pub WaitsFor : (List Line → Type 0) → List Line → Said → Said → Type 0
WaitsFor keeps front saying said = ((said ≡ saying) × KeptPast keeps front) ⊎ (said ≡ Refused NotKept)

-- this, once it may be said; or that what it rests on is not kept
abbrev pub Comes : {K : Type 0} → Option K → (List Line → Type 0) → Span → Said → Said → Type 0
Comes kept keeps span saying said = ((said ≡ saying) × OnceKept kept keeps span saying) ⊎ ((said ≡ Refused NotKept) × (is_of_journal saying ≡ true))
