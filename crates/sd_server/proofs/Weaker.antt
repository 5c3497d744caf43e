-- What a reply gives that may say less.
use Rattle.std.proofs.Common.{◌≡◌, List, true, Option, Result, Ok, Err, sym, subst}
use Rattle.std.specs.Prelude.{IsSome}
use Rattle.std.specs.declared.sync.ledger.Ledger as Ledger
use Rattle.alloc_desk.specs.declared.name.DeskName as DeskName
use Rattle.kept_journal.specs.declared.journal_name.JournalName as JournalName
use Rattle.journal_entries.specs.declared.entry.Entry.{Entry as Line}
use Rattle.sd_routes.specs.declared.ask.Ask.{Ask}
use Rattle.sd_routes.specs.declared.request_error.RequestError.{RequestError}
use Rattle.sd_routes.specs.declared.responding.Said.{Said}
use Rattle.service_state.specs.declared.config_pages.ConfigPages.{ConfigPages}
use Rattle.sd_server.specs.declared.entry.Entry.{Entry}
use Rattle.sd_server.specs.declared.reply.Reply.{Reply}
use Rattle.sd_server.specs.declared.reply.Stage.{Stage}
use Rattle.sd_server.specs.declared.reply.Stage.TheVariants as stage
use Rattle.sd_server.specs.Entries.{Leads, OnceKept}
use Rattle.sd_server.specs.Replies.{Gives, IsTo, MaySay, Reads, SaysAtMost, has_body}
use Rattle.sd_server.specs.Spans.{Span}

pub gives_weaker :
    {R L B N I : Type 0} {l : Ledger.Ghosts L} {b : Ledger.Ghosts B} {j : JournalName.Ghosts N} {n : DeskName.Ghosts N} (keeps : List Line → Type 0) (before after : Reply R L B N I l b j n)
    → after.manner ≡ before.manner → ((said : Said) → MaySay keeps before.seen before.stage said → MaySay keeps after.seen after.stage said) → (x : _) → Gives keeps before x → Gives keeps after x
gives_weaker keeps before after manner weaker (Ok response) given = rw manner (given.0, weaker given.0 given.1, given.2)
gives_weaker keeps before after manner weaker (Err error) given = given

-- a reply that reads the body of what is asked is one to what asks for it
pub reads_to :
    {R L B N I K J : Type 0} {l : Ledger.Ghosts L} {b : Ledger.Ghosts B} {j : JournalName.Ghosts N} {n : DeskName.Ghosts N} (keeps : List Line → Type 0) (kept : Option K) (inner : Option J) (pages : ConfigPages) (asked : Ask)
    (came : Result Ask RequestError) (seen : Span) (st : Stage R L B N I l b j n) → (IsSome kept → IsSome inner) → came ≡ Ok asked → has_body asked ≡ true → Reads inner pages asked st
    → IsTo keeps kept pages came seen st
reads_to keeps kept inner pages asked came seen (stage.Told entry) some is body reads = absurd reads
reads_to keeps kept inner pages asked came seen (stage.Reading reading) some is body reads =
    (subst (λ (a : Ask). came ≡ Ok a) (sym reads.0) is, subst (λ (a : Ask). has_body a ≡ true) (sym reads.0) body, reads.1, λ k. reads.2 (some k))

-- a reply that says what an entry leads to
pub told_to :
    {R L B N I K : Type 0} {l : Ledger.Ghosts L} {b : Ledger.Ghosts B} {j : JournalName.Ghosts N} {n : DeskName.Ghosts N} (keeps : List Line → Type 0) (kept : Option K) (pages : ConfigPages) (came : Result Ask RequestError)
    (seen other : Span) (entry : Entry N) (st : Stage R L B N I l b j n) → st ≡ stage.Told entry → other ≡ seen
    → Leads keeps (SaysAtMost seen pages came) entry × Leads keeps (OnceKept kept keeps seen) entry → IsTo keeps kept pages came other st
told_to keeps kept pages came seen other entry st is same leads =
    subst (λ s. IsTo keeps kept pages came other s) (sym is)
    (subst (λ (o : Span). Leads keeps (SaysAtMost o pages came) entry × Leads keeps (OnceKept kept keeps o) entry) (sym same) leads)
