-- What a reply may be.
use Rattle.std.specs.Prelude.{◌≡◌, ◌⊎◌, ℕ, List, [], Option, Result, Ok, Err, IfOk, IsSome, Bool, true, false}
use Rattle.std.specs.Arc.{arc_value}
use Rattle.std.specs.declared.alloc.AllocError.{AllocError}
use Rattle.std.specs.declared.sync.ledger.Ledger as Ledger
use Rattle.http.specs.declared.response.Response.{Response}
use Rattle.http_body_util.specs.declared.full.Full.{Full}
use Rattle.allocation_core.specs.State.{State}
use Rattle.journal_entries.specs.declared.entry.Entry.{Entry as Line}
use Rattle.alloc_desk.specs.declared.name.DeskName as DeskName
use Rattle.kept_journal.specs.declared.journal_name.JournalName as JournalName
use Rattle.sd_routes.specs.declared.ask.Ask.{Ask}
use Rattle.sd_routes.specs.declared.ask.Ask.TheVariants as ask
use Rattle.sd_routes.specs.declared.request_error.RequestError.{RequestError}
use Rattle.sd_routes.specs.declared.request_error.RequestError.TheVariants.{TooLong, Shape, Memory}
use Rattle.sd_routes.specs.declared.responding.Said.{Said}
use Rattle.sd_routes.specs.declared.responding.Said.TheVariants.{Refused}
use Rattle.sd_responses.specs.Writing.{Writes}
use Rattle.sd_server.specs.Entries.{Leads, MaySayEntry, OnceKept}
use Rattle.sd_server.specs.Says.{Says}
use Rattle.sd_server.specs.Spans.{Span, Moves}
use Rattle.service_state.specs.declared.config_pages.ConfigPages.{ConfigPages}
use Rattle.sd_server.specs.declared.reply.Reply.{Reply}
use Rattle.sd_server.specs.declared.reply.Stage.{Stage}
use Rattle.sd_server.specs.declared.reply.Stage.TheVariants as stage
use Rattle.sd_server.specs.declared.service.Begun.{Begun}
use Rattle.sd_server.specs.declared.service.Begun.TheVariants as begun

-- what is said once a body was read, or could not be
abbrev pub SaysRead : Span → ConfigPages → Ask → Said → Type 0
SaysRead span pages asked said =
    (said ≡ Refused TooLong) ⊎ ((said ≡ Refused Shape) ⊎ ((said ≡ Refused Memory) ⊎ ((body : List ℕ) × Says span pages asked body said)))

-- the requests whose body is read
abbrev pub has_body : Ask → Bool
has_body ask.Join = true
has_body (ask.Drain id) = true
has_body (ask.SetLimits id) = true
has_body ask.Report = true
has_body _ = false

-- what is said to a request whose body is read, and to another
abbrev pub SaysAsked : Span → ConfigPages → Ask → Said → Type 0
SaysAsked span pages asked said = ((has_body asked ≡ true) × SaysRead span pages asked said) ⊎ ((has_body asked ≡ false) × Says span pages asked [] said)

-- what is said to what a head comes to
abbrev pub SaysRouted : Span → ConfigPages → Result Ask RequestError → Said → Type 0
SaysRouted span pages (Ok asked) said = SaysAsked span pages asked said
SaysRouted span pages (Err error) said = said ≡ Refused error

-- that, or that memory ran out
abbrev pub SaysAtMost : Span → ConfigPages → Result Ask RequestError → Said → Type 0
SaysAtMost span pages came said = SaysRouted span pages came said ⊎ (said ≡ Refused Memory)

module _ {N K : Type 0} where
  -- what the head of a request begins
  abbrev pub BeginsWith : Option K → (List Line → Type 0) → Span → ConfigPages → Ask → Begun N → Type 0
  BeginsWith kept keeps span pages asked (begun.Told entry route) = (has_body asked ≡ false) × Leads keeps (Says span pages asked []) entry × Leads keeps (OnceKept kept keeps span) entry
  BeginsWith kept keeps span pages asked (begun.Reads read) = (read ≡ asked) × (has_body asked ≡ true)

  abbrev pub Begins : Option K → (List Line → Type 0) → Span → ConfigPages → Result Ask RequestError → Begun N → Type 0
  Begins kept keeps span pages came (begun.Told entry route) = Leads keeps (SaysAtMost span pages came) entry × Leads keeps (OnceKept kept keeps span) entry
  Begins kept keeps span pages came (begun.Reads asked) = (came ≡ Ok asked) × (has_body asked ≡ true)

module _ {R L B N I : Type 0} {l : Ledger.Ghosts L} {b : Ledger.Ghosts B} {j : JournalName.Ghosts N} {n : DeskName.Ghosts N} where
  abbrev pub CanGoOn : Stage R L B N I l b j n → Type 0
  CanGoOn (stage.Told entry) = Unit {0}
  CanGoOn (stage.Reading reading) = IsSome reading.body.collected

  -- it was not ready before its body was whole
  abbrev pub CanRead : Reply R L B N I l b j n → Type 0
  CanRead reply = CanGoOn reply.stage

  -- what a stage may still say, once this has been seen of the journal: where a body is awaited, what is said to it then
  abbrev pub MaySay : (List Line → Type 0) → Span → Stage R L B N I l b j n → Said → Type 0
  MaySay keeps seen (stage.Told entry) said = MaySayEntry keeps entry said
  MaySay keeps seen (stage.Reading reading) said =
      (later : Span) × Moves seen later × SaysRead later (arc_value reading.handler.pages) reading.ask said × OnceKept reading.handler.kept keeps later said

  -- the written form of something that it may say
  abbrev pub Gives : (List Line → Type 0) → Reply R L B N I l b j n → Result (Response (Full (List ℕ))) AllocError → Type 0
  Gives keeps reply given = IfOk given (λ response. (said : Said) × MaySay keeps reply.seen reply.stage said × Writes reply.manner said response)

  -- it reads the body of what is asked, and waits where that is to be kept
  abbrev pub Reads : {K : Type 0} → Option K → ConfigPages → Ask → Stage R L B N I l b j n → Type 0
  Reads kept pages asked (stage.Told entry) = ⊥
  Reads kept pages asked (stage.Reading reading) = (reading.ask ≡ asked) × (arc_value reading.handler.pages ≡ pages) × (IsSome kept → IsSome reading.handler.kept)

  -- whatever it says is what is said to such a request; or it reads the body of what is asked
  abbrev pub IsTo : {K : Type 0} → (List Line → Type 0) → Option K → ConfigPages → Result Ask RequestError → Span → Stage R L B N I l b j n → Type 0
  IsTo keeps kept pages came seen (stage.Told entry) = Leads keeps (SaysAtMost seen pages came) entry × Leads keeps (OnceKept kept keeps seen) entry
  IsTo keeps kept pages came seen (stage.Reading reading) =
      (came ≡ Ok reading.ask) × (has_body reading.ask ≡ true) × (arc_value reading.handler.pages ≡ pages) × (IsSome kept → IsSome reading.handler.kept)

  -- a reply to such a request, of the journal of a desk that was opened with a state
  abbrev pub IsReplyTo : {K : Type 0} → State → (List Line → Type 0) → Option K → ConfigPages → Result Ask RequestError → Reply R L B N I l b j n → Type 0
  IsReplyTo opening keeps kept pages came reply = (reply.seen.opening ≡ opening) × IsTo keeps kept pages came reply.seen reply.stage
