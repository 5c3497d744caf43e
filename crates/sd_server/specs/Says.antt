-- What a request is told.
use Rattle.std.specs.Prelude.{◌≡◌, ◌⊎◌, ◌≤◌, ℕ, List, [], ◌∷◌, Option, Some, None, Result, Ok, Err, Bool, true, false, IsSome, length, map, if◌then◌else◌}
use mathlib.Core.List.{IsPrefix}
use Rattle.fleet.specs.Fleet.{id_named}
use Rattle.fleet_events.specs.declared.event.Event.{Event}
use Rattle.fleet_events.specs.declared.event.Event.TheVariants.{Take, Serve}
use Rattle.fleet_events.specs.declared.answer.Answer.{Answer}
use Rattle.fleet_events.specs.declared.answer.Answer.TheVariants.{Taken as HasTaken, Served as HasServed, Not}
use Rattle.fleet_events.specs.declared.refusal.Refusal.TheVariants.{UnknownJob, UnknownCollector}
use Rattle.allocation_core.specs.Idle.{IsIdle}
use Rattle.journal_entries.specs.declared.entry.Entry.{Entry as Line}
use Rattle.alloc_desk.specs.History.{History}
use Rattle.alloc_desk.specs.Reached.{IsFull}
use Rattle.alloc_desk.specs.declared.receipt.Receipt.{Receipt}
use Rattle.target_shares.specs.declared.numbered_target.NumberedTarget.{NumberedTarget}
use Rattle.serde_json.specs.Written.{compact_text}
use Rattle.json_values.specs.Spelling.{list_data}
use Rattle.sd_routes.specs.AllocationPages.{allocation_data}
use Rattle.sd_routes.specs.BooksPages.{books_data}
use Rattle.sd_routes.specs.Changes.{change_event}
use Rattle.sd_routes.specs.CollectorPages.{collector_data}
use Rattle.sd_routes.specs.Events.{event_said}
use Rattle.sd_routes.specs.FoundPages.{found_data}
use Rattle.sd_routes.specs.JobPages.{job_row_data}
use Rattle.sd_routes.specs.Pages.{uncovered_data}
use Rattle.sd_routes.specs.declared.books_row.BooksRow.{BooksRow}
use Rattle.sd_routes.specs.declared.change.Change.{Change}
use Rattle.sd_routes.specs.declared.change.Change.TheVariants.{Release}
use Rattle.sd_routes.specs.declared.change.Wanted.{Wanted}
use Rattle.sd_routes.specs.declared.change.Wanted.TheVariants.{Event as AnEvent, OfNamed, Reports}
use Rattle.sd_routes.specs.declared.collector_row.CollectorRow.{CollectorRow}
use Rattle.sd_routes.specs.declared.found_targets.FoundTarget.{FoundTarget}
use Rattle.sd_routes.specs.declared.job_row.JobRow.{JobRow}
use Rattle.sd_routes.specs.declared.which_collector.WhichCollector.{WhichCollector}
use Rattle.sd_routes.specs.declared.ask.Ask.{Ask}
use Rattle.sd_routes.specs.declared.ask.Ask.TheVariants as ask
use Rattle.sd_routes.specs.declared.list_head.ListHead.{ListHead}
use Rattle.sd_routes.specs.declared.notice.Notice.TheVariants.{Healthy, Broken, Ready, NotReady, Leading, Quitting, NoLifecycle}
use Rattle.sd_routes.specs.declared.request_error.RequestError.{RequestError}
use Rattle.sd_routes.specs.declared.request_error.RequestError.TheVariants.{NoRoute, Shape, UnknownRound, JournalFull, NotKept, Memory}
use Rattle.sd_routes.specs.declared.responding.Said.{Said}
use Rattle.sd_routes.specs.declared.responding.Said.TheVariants.{Answer as Answered, Answers, Page, List as ListOf, Nothing, Refused, Misshapen, Notice as Noticed, Metrics, Document, Reloaded, NotReloaded}
use Rattle.service_pages.specs.declared.notes.AllocationNote.{AllocationNote}
use Rattle.page_rows.specs.Allocations.{allocation_row}
use Rattle.page_rows.specs.Booked.{IsBooks}
use Rattle.page_rows.specs.Meant.{id_meant}
use Rattle.page_rows.specs.declared.found.TheConstants.{MOST_FOUND}
use Rattle.service_state.specs.Jobs.{place_of}
use Rattle.sd_server.specs.Keeping.{FindsKept}
use Rattle.sd_server.specs.Looks.{HeadIs, IsLook}
use Rattle.sd_server.specs.declared.look.Look.{Look}
use Rattle.sd_server.specs.Listing.{IsListText}
use Rattle.sd_server.specs.Spans.{Span, OfSome, IsEntered}
use Rattle.sd_server.specs.Texts.{certificate_text, job_text}
use Rattle.service_state.specs.declared.config_pages.ConfigPages.{ConfigPages}

-- why there is no answer to an event: it was not entered, since the journal is full or memory was wanted; or it may have been entered,
-- and is not kept
abbrev pub SaysNot : Span → RequestError → Type 0
SaysNot span JournalFull = OfSome span IsFull
SaysNot span NotKept = Unit {0}
SaysNot span Memory = Unit {0}
SaysNot span _ = ⊥

-- An answer to an event: that of an event that was entered, or that at a moment at which the event would change nothing.
abbrev pub IsAnswered : Span → Event → Answer → Type 0
IsAnswered span event answer = ((receipt : Receipt) × IsEntered span event receipt × (answer ≡ receipt.answer)) ⊎ OfSome span (λ h. IsIdle h.state event (Some answer))

-- the machine's answer to an event that was entered
abbrev pub IsAnswerTo : Span → Event → Answer → Type 0
IsAnswerTo span event answer = (receipt : Receipt) × IsEntered span event receipt × (answer ≡ receipt.answer)

abbrev pub SaysEvent : Span → Event → Said → Type 0
SaysEvent span event (Answered answer) = IsAnswerTo span event answer
SaysEvent span event (Refused error) = SaysNot span error
SaysEvent span event _ = ⊥

-- to each event its own answer, the entry of each behind those of the events before it
abbrev pub AreAnswers : Span → List Event → List Answer → Type 0
AreAnswers span [] [] = IsPrefix span.before span.after
AreAnswers span [] (answer ∷ answers) = ⊥
AreAnswers span (event ∷ events) [] = ⊥
AreAnswers span (event ∷ events) (answer ∷ answers) =
    (middle : List Line) × IsAnswerTo (record span { after = middle }) event answer × AreAnswers (record span { before = middle }) events answers

-- the answers to all reports of a list, and a round that was open; or why there is none to one of them
abbrev pub SaysReports : Span → List Event → Said → Type 0
SaysReports span events (Answers answers round) = AreAnswers span events answers × OfSome span (λ h. h.state.round ≡ round)
SaysReports span events (Refused error) = SaysNot span error
SaysReports span events _ = ⊥

-- of a collector that left, the lists can be let go, where its number is known
abbrev pub SaysOfLeft : Span → Change → Said → Type 0
SaysOfLeft span Release said = (said ≡ Answered (Not UnknownCollector)) ⊎ ((id : ℕ) × SaysEvent span (change_event Release id) said)
SaysOfLeft span _ said = said ≡ Answered (Not UnknownCollector)

-- what happens to the collector of a name is an event of the live one that has it
unfoldable pub SaysChange : Span → List ℕ → Change → Said → Type 0
SaysChange span name change said =
    (OfSome span (λ h. id_named h.state.fleet.collectors name ≡ None) × SaysOfLeft span change said)
    ⊎ ((id : ℕ) × OfSome span (λ h. id_named h.state.fleet.collectors name ≡ Some id) × SaysEvent span (change_event change id) said)

-- the answer to an event of a collector has these targets, and the head of a list tells the rest of it
abbrev pub IsTold : ℕ → Answer → ListHead → List ℕ → Type 0
IsTold id (HasTaken allocation round held) head targets = HeadIs id allocation round None head × (targets ≡ held)
IsTold id (HasServed allocation round listed others) head targets = HeadIs id allocation round (Some (length others)) head × (targets ≡ listed)
IsTold id _ head targets = ⊥

-- a list with this head and the groups of those of these targets that are of a job, acknowledged where that is told to; unless memory ran
-- out
abbrev pub SaysGroups : Span → Option (List ℕ) → List ℕ → ℕ → ListHead → List ℕ → Said → Type 0
SaysGroups span at job place head targets (ListOf told groups) = (told ≡ head) × IsListText span at job head place targets groups
SaysGroups span at job place head targets (Refused error) = error ≡ Memory
SaysGroups span at job place head targets _ = ⊥

-- where a list is acknowledged: one that is served
abbrev pub at_of : Option (List ℕ) → Answer → Option (List ℕ)
at_of at (HasServed allocation round listed others) = at
at_of at _ = None

-- what the answer to a Take or a Serve of a collector is told as: the groups of a job's targets; unless memory ran out
abbrev pub SaysTold : Span → Option (List ℕ) → List ℕ → ℕ → ℕ → Answer → Said → Type 0
SaysTold span at job place id answer (ListOf head groups) =
    (targets : List ℕ) × IsTold id answer head targets × IsListText span (at_of at answer) job head place targets groups
SaysTold span at job place id answer (Answered told) = told ≡ answer
SaysTold span at job place id answer (Refused error) = error ≡ Memory
SaysTold span at job place id answer _ = ⊥

-- there is no answer to an event
abbrev pub SaysNoAnswer : Span → Said → Type 0
SaysNoAnswer span said = (error : RequestError) × SaysNot span error × (said ≡ Refused error)

-- what a collector is told of a job by the answer to an event
abbrev pub SaysGiven : Span → Option (List ℕ) → List ℕ → ℕ → ℕ → Event → Said → Type 0
SaysGiven span at job place id event said =
    ((answer : Answer) × IsAnswered span event answer × SaysTold span at job place id answer said) ⊎ SaysNoAnswer span said

-- what a look is told as: the groups of a job's targets; unless memory ran out
abbrev pub SaysLookOf : Span → Option (List ℕ) → List ℕ → ℕ → ℕ → Look → Said → Type 0
SaysLookOf span at job place id look (ListOf head groups) =
    HeadIs id look.allocation look.round look.left_out head × IsListText span at job head place look.targets groups
SaysLookOf span at job place id look (Refused error) = error ≡ Memory
SaysLookOf span at job place id look _ = ⊥

-- what is shown to who only looks: what a look finds; unless memory ran out
abbrev pub SaysLook : Span → ℕ → List ℕ → ℕ → Said → Type 0
SaysLook span place job id said =
    ((look : Look) × OfSome span (λ h. IsLook h.state job id look) × SaysLookOf span None job place id look said) ⊎ (said ≡ Refused Memory)

-- what a collector is told of a job whose last list is to let targets go, until it is acknowledged: what that list keeps
abbrev pub SaysKept : Span → Option (List ℕ) → List ℕ → ℕ → ℕ → Said → Type 0
SaysKept span at job place id said =
    IsSome at × ((look : Look) × OfSome span (λ h. FindsKept h.state place id look) × SaysLookOf span at job place id look said)

-- what a collector is served of a job, or what its list keeps
abbrev pub SaysServed : Span → Option (List ℕ) → List ℕ → ℕ → ℕ → Said → Type 0
SaysServed span at job place id said = SaysGiven span at job place id (Serve id job) said ⊎ SaysKept span at job place id said

-- a text that does not change, unless memory ran out
abbrev pub SaysCopy : List ℕ → Said → Type 0
SaysCopy text said = (said ≡ Page text) ⊎ (said ≡ Refused Memory)

-- what is told under a name that nobody has: nothing is to be scraped by a collector that had it, unless its lists could not be let go
-- or memory ran out, and no other is known
abbrev pub SaysGone : Span → Said → Type 0
SaysGone span said = (said ≡ Answered (Not UnknownCollector)) ⊎ ((said ≡ Nothing) ⊎ SaysNoAnswer span said)

-- what a collector is told of a job: it takes, or is served; or it only looks
abbrev pub SaysList : Span → Option (List ℕ) → ℕ → List ℕ → ℕ → Bool → Said → Type 0
SaysList span at place job id true said = SaysGiven span at job place id (Take id) said ⊎ SaysServed span at job place id said
SaysList span at place job id false said = SaysLook span place job id said

-- nobody has the name, or its collector has a list
unfoldable pub SaysHeld : Span → Option (List ℕ) → ℕ → List ℕ → List ℕ → Bool → Said → Type 0
SaysHeld span at place job name takes said =
    (OfSome span (λ h. id_named h.state.fleet.collectors name ≡ None) × SaysGone span said)
    ⊎ ((id : ℕ) × OfSome span (λ h. id_named h.state.fleet.collectors name ≡ Some id) × SaysList span at place job id takes said)

-- a page, unless memory ran out
abbrev pub SaysText : Span → (History → List ℕ) → Said → Type 0
SaysText span text (Page page) = OfSome span (λ h. page ≡ text h)
SaysText span text (Refused error) = error ≡ Memory
SaysText span text _ = ⊥

-- what a job has, where there is such a job
abbrev pub SaysJob : Span → List ℕ → Option ℕ → Said → Type 0
SaysJob span job None said = said ≡ Answered (Not UnknownJob)
SaysJob span job (Some place) said = SaysText span (job_text job place) said

abbrev pub SaysCollector : Span → Option (List ℕ) → List ℕ → List ℕ → Bool → Option ℕ → Said → Type 0
SaysCollector span at job name takes None said = said ≡ Answered (Not UnknownJob)
SaysCollector span at job name takes (Some place) said = SaysHeld span at place job name takes said

-- what a collector is told that follows a list: no figures, or that there is no such path where no list is acknowledged
abbrev pub SaysAcknowledged : Option (List ℕ) → Said → Type 0
SaysAcknowledged None said = said ≡ Refused NoRoute
SaysAcknowledged (Some at) said = said ≡ Metrics []

abbrev pub SaysLive : Said → Type 0
SaysLive said = (said ≡ Noticed Healthy) ⊎ (said ≡ Noticed Broken)

abbrev pub SaysReady : Said → Type 0
SaysReady said = (said ≡ Noticed Ready) ⊎ (said ≡ Noticed NotReady)

-- the configuration is taken, or why it is not, unless memory ran out
abbrev pub SaysReload : Said → Type 0
SaysReload (Noticed notice) = notice ≡ NoLifecycle
SaysReload (Reloaded changes) = Unit {0}
SaysReload (NotReloaded fault) = Unit {0}
SaysReload (Refused error) = error ≡ Memory
SaysReload _ = ⊥

abbrev pub SaysQuit : Said → Type 0
SaysQuit said = (said ≡ Noticed Quitting) ⊎ (said ≡ Noticed NoLifecycle)

-- some figures, unless memory ran out
abbrev pub SaysMetrics : Said → Type 0
SaysMetrics (Metrics text) = Unit {0}
SaysMetrics (Refused error) = error ≡ Memory
SaysMetrics _ = ⊥

-- the page for people, unless memory ran out
abbrev pub SaysDocument : Said → Type 0
SaysDocument (Document text) = Unit {0}
SaysDocument (Refused error) = error ≡ Memory
SaysDocument _ = ⊥

-- the page of some targets that no list has: those that nobody holds and some collector reaches, those that are handed over, and those
-- that nobody reaches
abbrev pub IsUncoveredText : List ℕ → Type 0
IsUncoveredText text =
    (full : List NumberedTarget) × (waiting : List NumberedTarget) × (unreached : List NumberedTarget) × (text ≡ compact_text (uncovered_data full waiting unreached))

abbrev pub SaysUncoveredText : Said → Type 0
SaysUncoveredText (Page page) = IsUncoveredText page
SaysUncoveredText (Refused error) = error ≡ Memory
SaysUncoveredText _ = ⊥

-- which targets of a job nobody holds, where there is such a job
abbrev pub SaysUncovered : Option ℕ → Said → Type 0
SaysUncovered None said = said ≡ Answered (Not UnknownJob)
SaysUncovered (Some place) said = SaysUncoveredText said

-- ---- jobs, collectors, and targets that are searched for

-- what is told of the job of a name
abbrev pub IsJobRowText : List ℕ → List ℕ → Type 0
IsJobRowText job text = (row : JobRow) × (row.name ≡ job) × (text ≡ compact_text (job_row_data row))

-- the same in JSON, or a page for people
abbrev pub SaysJobRow : List ℕ → Said → Type 0
SaysJobRow job (Page page) = IsJobRowText job page
SaysJobRow job (Document text) = Unit {0}
SaysJobRow job (Refused error) = error ≡ Memory
SaysJobRow job _ = ⊥

-- it, where there is such a job
abbrev pub SaysOneJob : List ℕ → Option ℕ → Said → Type 0
SaysOneJob job None said = said ≡ Answered (Not UnknownJob)
SaysOneJob job (Some place) said = SaysJobRow job said

-- the page of some collectors
abbrev pub IsCollectorsText : List ℕ → Type 0
IsCollectorsText text = (rows : List CollectorRow) × (text ≡ compact_text (list_data collector_data rows))

abbrev pub SaysCollectors : Said → Type 0
SaysCollectors (Page page) = IsCollectorsText page
SaysCollectors (Refused error) = error ≡ Memory
SaysCollectors _ = ⊥

-- what is told of the collector that is meant
abbrev pub IsCollectorText : Span → WhichCollector → List ℕ → Type 0
IsCollectorText span which text =
    (row : CollectorRow) × OfSome span (λ h. id_meant h.state which ≡ Some row.id) × (text ≡ compact_text (collector_data row))

-- the same in JSON, or a page for people
abbrev pub SaysCollectorPage : Span → WhichCollector → Said → Type 0
SaysCollectorPage span which (Page page) = IsCollectorText span which page
SaysCollectorPage span which (Document text) = Unit {0}
SaysCollectorPage span which (Answered answer) = answer ≡ Not UnknownCollector
SaysCollectorPage span which (Refused error) = error ≡ Memory
SaysCollectorPage span which _ = ⊥

-- the page of at most 100 targets
abbrev pub IsFoundText : List ℕ → Type 0
IsFoundText text =
    (all : ℕ) × ((found : List FoundTarget) × (length found ≤ MOST_FOUND) × (text ≡ compact_text (found_data all found)))

-- the same in JSON, or a page for people
abbrev pub SaysFound : Said → Type 0
SaysFound (Page page) = IsFoundText page
SaysFound (Document text) = Unit {0}
SaysFound (Refused error) = error ≡ Memory
SaysFound _ = ⊥

-- ---- allocations that were published

-- the page of some noted allocations, with an entry for each
abbrev pub IsAllocationsText : List ℕ → Type 0
IsAllocationsText text = (notes : List AllocationNote) × (text ≡ compact_text (list_data allocation_data (map allocation_row notes)))

abbrev pub SaysAllocations : Said → Type 0
SaysAllocations (Page page) = IsAllocationsText page
SaysAllocations (Refused error) = error ≡ Memory
SaysAllocations _ = ⊥

-- ---- what was booked

-- the page of what some state has booked in the round that is asked for, or in the last one that is over
abbrev pub IsBooksText : Span → Option ℕ → List ℕ → Type 0
IsBooksText span asked text = (row : BooksRow) × OfSome span (λ h. IsBooks h.state asked (Some row)) × (text ≡ compact_text (books_data row))

-- why it is not told: some state has no such round, or memory ran out
abbrev pub SaysNoBooks : Span → Option ℕ → RequestError → Type 0
SaysNoBooks span asked UnknownRound = OfSome span (λ h. IsBooks h.state asked None)
SaysNoBooks span asked Memory = Unit {0}
SaysNoBooks span asked _ = ⊥

-- the same in JSON, or a page for people
abbrev pub SaysBooks : Span → Option ℕ → Said → Type 0
SaysBooks span asked (Page page) = IsBooksText span asked page
SaysBooks span asked (Document text) = Unit {0}
SaysBooks span asked (Refused error) = SaysNoBooks span asked error
SaysBooks span asked _ = ⊥

-- ---- all of them

-- what is told without an event of the body's
abbrev pub SaysPage : Span → ConfigPages → Ask → Said → Type 0
SaysPage span pages (ask.ScrapeConfigs rules) said = SaysCopy (if rules then pages.as_read else pages.scrape_configs) said
SaysPage span pages ask.Jobs said = SaysCopy pages.jobs said
SaysPage span pages ask.Allocations said = SaysAllocations said
SaysPage span pages (ask.Books round) said = SaysBooks span round said
SaysPage span pages ask.Certificate said = SaysText span certificate_text said
SaysPage span pages ask.Healthy said = said ≡ Noticed Healthy
SaysPage span pages ask.Live said = SaysLive said
SaysPage span pages ask.Ready said = SaysReady said
SaysPage span pages ask.Leading said = said ≡ Noticed Leading
SaysPage span pages ask.Metrics said = SaysMetrics said
SaysPage span pages ask.Reload said = SaysReload said
SaysPage span pages ask.Quit said = SaysQuit said
SaysPage span pages ask.Status said = SaysDocument said
SaysPage span pages (ask.Uncovered job) said = SaysUncovered (place_of job pages.names) said
SaysPage span pages (ask.Job job) said = SaysOneJob job (place_of job pages.names) said
SaysPage span pages (ask.JobTargets job) said = SaysJob span job (place_of job pages.names) said
SaysPage span pages (ask.CollectorTargets job name takes) said = SaysCollector span pages.acknowledge job name takes (place_of job pages.names) said
SaysPage span pages ask.Collectors said = SaysCollectors said
SaysPage span pages (ask.Collector which) said = SaysCollectorPage span which said
SaysPage span pages (ask.FindTargets text) said = SaysFound said
SaysPage span pages (ask.Acknowledged told counts) said = SaysAcknowledged pages.acknowledge said
SaysPage span pages _ said = Unit {0}

-- what is asked waits for nothing
abbrev pub IsAtOnce : Ask → Type 0
IsAtOnce ask.Reload = ⊥
IsAtOnce (ask.CollectorTargets job name takes) = ⊥
IsAtOnce _ = Unit {0}

-- and its page is not of what the desk has
abbrev pub IsPlain : Ask → Type 0
IsPlain (ask.Books round) = ⊥
IsPlain ask.Certificate = ⊥
IsPlain (ask.Uncovered job) = ⊥
IsPlain (ask.JobTargets job) = ⊥
IsPlain (ask.Collector which) = ⊥
IsPlain asked = IsAtOnce asked

-- some member is told at which a body is not of the documented shape
abbrev pub IsMisshapen : Said → Type 0
IsMisshapen (Misshapen name) = Unit {0}
IsMisshapen _ = ⊥

-- why a body is refused
abbrev pub SaysRefused : RequestError → Said → Type 0
SaysRefused error said = (said ≡ Refused error) ⊎ ((error ≡ Shape) × IsMisshapen said)

abbrev pub SaysBy : Span → ConfigPages → Ask → Result (Option Wanted) RequestError → Said → Type 0
SaysBy span pages asked (Ok (Some (AnEvent event))) said = SaysEvent span event said
SaysBy span pages asked (Ok (Some (OfNamed name change))) said = SaysChange span name change said
SaysBy span pages asked (Ok (Some (Reports events))) said = SaysReports span events said
SaysBy span pages asked (Ok None) said = SaysPage span pages asked said
SaysBy span pages asked (Err error) said = SaysRefused error said

-- it is an answer, or a list, which may be empty
abbrev pub is_of_journal : Said → Bool
is_of_journal (Answered answer) = true
is_of_journal (Answers answers round) = true
is_of_journal (ListOf head groups) = true
is_of_journal Nothing = true
is_of_journal _ = false

-- there is an answer or a list, and it is not told, since the journal is not kept
abbrev pub IsWithheld : (Said → Type 0) → Said → Type 0
IsWithheld Tells said = (said ≡ Refused NotKept) × ((told : Said) × (is_of_journal told ≡ true) × Tells told)

-- what is told in an epoch to a request with this body: a report of another epoch is refused
unfoldable pub SaysIn : Span → ConfigPages → Ask → ℕ → List ℕ → Said → Type 0
SaysIn span pages asked epoch body said =
    SaysBy span pages asked (event_said asked epoch body) said ⊎ ((said ≡ Refused Memory) ⊎ IsWithheld (SaysBy span pages asked (event_said asked epoch body)) said)

-- what is told to a request with this body, in the epoch that it is
abbrev pub Says : Span → ConfigPages → Ask → List ℕ → Said → Type 0
Says span pages asked body said = (epoch : ℕ) × SaysIn span pages asked epoch body said
