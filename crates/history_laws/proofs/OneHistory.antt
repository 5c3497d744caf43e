-- Journals in which an audit finds no fault are one history.
use Rattle.std.proofs.Common.{◌≡◌, ◌==◌, ℕ, Bool, true, false, cond, List, [], ◌∷◌, Option, Some, None, Result, Ok, Err, length, refl, sym, ap, subst, ◌∙◌}
use Rattle.std.specs.List.{onto_first}
use Rattle.std.specs.Option.{option_map_or}
use Rattle.sealed_lines.specs.Reading.{plain_of}
use Rattle.fleet_events.specs.declared.event.Event.{Event}
use Rattle.fleet_renewal.proofs.Gets.{some_same}
use Rattle.allocation_core.specs.Renewed.{renewed}
use Rattle.allocation_core.specs.Runs.{state_of}
use Rattle.allocation_core.specs.State.{State}
use Rattle.renewal.specs.Histories.{AreGood, AreGranted, Stretch, stretch_end}
use Rattle.renewal.proofs.HistoryLemmas.{books_apart}
use Rattle.replay_lines.specs.AsRuns.{events_of}
use Rattle.replay_lines.specs.Configurations.{opened}
use Rattle.replay_lines.specs.Replays.{lines_in}
use Rattle.replay_lines.specs.Resumes.{damage_at, resumed, resumed_by, resumed_from, resumption_at, unread_from}
use Rattle.replay_lines.specs.declared.resuming.Damage.{Damage}
use Rattle.replay_lines.specs.declared.resuming.Resumption.{Resumption}
use Rattle.audit.specs.Checks.{first_line}
use Rattle.audit.specs.Renewals.{AreRenewalsFrom}
use Rattle.history_laws.specs.Journals.{ArePromised, AreToldBy, ConsistentAreHistories, IsToldBy}
use Rattle.history_laws.specs.Promises.{IsPromised, OpenedAreGood}
use Rattle.history_laws.proofs.Once.{booked_once}

-- ---- a journal by its lines

record StartsWith (first : List ℕ) (all : List (List ℕ)) : Type 0 where
  lines : List (List ℕ)
  is : all ≡ first ∷ lines

split_by : (feed : Bool) (b : ℕ) (bs : List ℕ) → StartsWith (first_line bs) (lines_in bs) → StartsWith (cond feed [] (b ∷ first_line bs)) (cond feed ([] ∷ lines_in bs) (onto_first b (lines_in bs)))
split_by true b bs split = record { lines = lines_in bs; is = refl }
split_by false b bs split = record { lines = split.lines; is = ap (onto_first b) split.is }

split_of : (journal : List ℕ) → StartsWith (first_line journal) (lines_in journal)
split_of [] = record { lines = []; is = refl }
split_of (b ∷ bs) = split_by (b == 10) b bs (split_of bs)

-- what a journal that is read leads to
record LeadsTo (o : Option State) (lines : List (List ℕ)) (end : Resumption) : Type 0 where
  start : State
  opens : o ≡ Some start
  is : end ≡ resumption_at (state_of start (events_of lines)) (length (events_of lines))

ok_same : {A E : Type 0} (a b : A) → ◌≡◌ {A = Result A E} (Ok a) (Ok b) → a ≡ b
ok_same a b e = cc

no_err : {A E : Type 0} (error : E) (a : A) → ◌≡◌ {A = Result A E} (Err error) (Ok a) → ⊥
no_err error a e = cc

read_by : (unread : Option ℕ) (there end : Resumption) → ◌≡◌ {A = Result Resumption Damage} (option_map_or (λ number. Err (damage_at number)) unread (Ok there)) (Ok end) → end ≡ there
read_by None there end e = sym (ok_same there end e)
read_by (Some number) there end e = absurd (no_err (damage_at number) end e)

opened_by : (o : Option State) (lines : List (List ℕ)) (end : Resumption) → option_map_or (λ m. resumed_from m lines) o (Err (damage_at 1)) ≡ Ok end → LeadsTo o lines end
opened_by None lines end e = absurd (no_err (damage_at 1) end e)
opened_by (Some m) lines end e =
    record { start = m; opens = refl; is = read_by (unread_from 2 lines) (resumption_at (state_of m (events_of lines)) (length (events_of lines))) end e }

leads_to : (journal : List ℕ) (end : Resumption) → resumed journal ≡ Ok end → LeadsTo (opened (first_line journal)) (split_of journal).lines end
unfolding resumed
leads_to journal end e = opened_by (opened (first_line journal)) (split_of journal).lines end (ap resumed_by (sym (split_of journal).is) ∙ e)

-- what the journal of a file tells
record TellsOf (file journal : List ℕ) (end : Resumption) : Type 0 where
  start : State
  events : List Event
  opens : opened (first_line journal) ≡ Some start
  told : IsToldBy file start events
  ends : end.core ≡ state_of start events

told_by : (file journal : List ℕ) (end : Resumption) → plain_of file ≡ Ok journal → resumed journal ≡ Ok end → TellsOf file journal end
told_by file journal end plain e =
    let split = split_of journal in
    let leads = leads_to journal end e in
    let events : List Event = events_of split.lines in
    record {
      start = leads.start;
      events = events;
      opens = leads.opens;
      told = record {
        journal = journal;
        first = first_line journal;
        lines = split.lines;
        plain = plain;
        split = split.is;
        opens = leads.opens;
        says = refl;
        leads = e ∙ ap (λ (r : Resumption). (let o : Result Resumption Damage = Ok r in o)) leads.is;
      };
      ends = ap (λ (r : Resumption). r.core) leads.is;
    }

-- ---- the files behind a state

record Stretches (m : State) (files : List (List ℕ)) : Type 0 where
  stretches : List Stretch
  told : AreToldBy m stretches files
  granted : AreGranted m stretches
  promised : ArePromised m stretches

stretches_from : OpenedAreGood → (m : State) (files : List (List ℕ)) → AreRenewalsFrom (Some m) files → Stretches m files
unfolding AreRenewalsFrom
stretches_from law m [] renewals = record { stretches = []; told = tt; granted = tt; promised = tt }
stretches_from law m (file ∷ files) renewals =
    let journal = renewals.0 in
    let end = renewals.1 in
    let begins = renewals.4 in
    let next = told_by file journal end renewals.2 renewals.3 in
    let is : next.start ≡ renewed m begins.0.fleet.jobs begins.0.report_rounds = some_same next.start begins.0 (sym next.opens ∙ begins.1) ∙ begins.2.is in
    let stretch : Stretch = record { jobs = begins.0.fleet.jobs; report_rounds = begins.0.report_rounds; events = next.events } in
    let last : end.core ≡ stretch_end m stretch = next.ends ∙ ap (λ (s : State). state_of s next.events) is in
    let rest = stretches_from law (stretch_end m stretch) files (subst (λ (s : State). AreRenewalsFrom (Some s) files) last renewals.5) in
    record {
      stretches = stretch ∷ rest.stretches;
      told = (subst (λ (s : State). IsToldBy file s next.events) is next.told, rest.told);
      granted = (begins.2.granted, rest.granted);
      promised = (subst (λ (s : State). IsPromised s next.events) is (law (first_line journal) next.start next.events next.opens), rest.promised);
    }

good_of : (m : State) (stretches : List Stretch) → ArePromised m stretches → AreGood m stretches
good_of m [] promised = tt
good_of m (stretch ∷ stretches) promised = (promised.0.good, good_of (stretch_end m stretch) stretches promised.1)

pub consistent_are_histories : OpenedAreGood → ConsistentAreHistories
unfolding AreRenewalsFrom
consistent_are_histories law file files renewals =
    let journal = renewals.0 in
    let end = renewals.1 in
    let first = told_by file journal end renewals.2 renewals.3 in
    let rest = stretches_from law (state_of first.start first.events) files (subst (λ (s : State). AreRenewalsFrom (Some s) files) first.ends renewals.5) in
    let last = state_of first.start first.events in
    let good = law (first_line journal) first.start first.events first.opens in
    let apart = books_apart last rest.stretches good.good.kept (good_of last rest.stretches rest.promised) in
    record {
      start = first.start;
      events = first.events;
      stretches = rest.stretches;
      first = first.told;
      rest = rest.told;
      granted = rest.granted;
      good = good;
      all_good = rest.promised;
      apart = apart;
      once = booked_once last rest.stretches good.good.once rest.promised apart;
    }
