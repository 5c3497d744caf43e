-- What is said once what it rests on is kept.
use Rattle.std.proofs.Common.{◌≡◌, ℕ, List, true, false, ap, sym, subst, inl, inr}
use Rattle.std.specs.Prelude.{Option}
use Rattle.journal_entries.specs.declared.entry.Entry.{Entry as Line}
use Rattle.sd_routes.specs.declared.ask.Ask.{Ask}
use Rattle.sd_routes.specs.declared.request_error.RequestError.TheVariants.{NotKept}
use Rattle.sd_routes.specs.declared.responding.Said.{Said}
use Rattle.sd_routes.specs.declared.responding.Said.TheVariants.{Answer as Answered, Answers, Page, List as ListOf, Nothing, Refused, Misshapen, Notice, Metrics, Document, Reloaded, NotReloaded}
use Rattle.service_state.specs.declared.config_pages.ConfigPages.{ConfigPages}
use Rattle.sd_server.specs.Entries.{Comes, IsPast, KeptPast, OnceKept, WaitsFor}
use Rattle.sd_server.specs.Says.{Says, SaysIn, SaysReload, is_of_journal}
use Rattle.sd_server.specs.Spans.{Span}

-- what a reload comes to waits for nothing
pub reload_waits : (keeps : List Line → Type 0) (span : Span) (said : Said) → SaysReload said → IsPast keeps span said
reload_waits keeps span (Answered answer) says = absurd says
reload_waits keeps span (Answers answers round) says = absurd says
reload_waits keeps span (ListOf head groups) says = absurd says
reload_waits keeps span Nothing says = absurd says
reload_waits keeps span (Page page) says = tt
reload_waits keeps span (Refused error) says = tt
reload_waits keeps span (Misshapen name) says = tt
reload_waits keeps span (Notice notice) says = tt
reload_waits keeps span (Metrics text) says = tt
reload_waits keeps span (Document text) says = tt
reload_waits keeps span (Reloaded changes) says = tt
reload_waits keeps span (NotReloaded fault) says = tt

withheld :
    (span : Span) (pages : ConfigPages) (asked : Ask) (epoch : ℕ) (body : List ℕ) (saying said : Said) → is_of_journal saying ≡ true → said ≡ Refused NotKept
    → SaysIn span pages asked epoch body saying → SaysIn span pages asked epoch body said
unfolding SaysIn
withheld span pages asked epoch body saying said journal is (inl by) = inr (inr (is, (saying, journal, by)))
withheld span pages asked epoch body saying said journal is (inr (inl memory)) = absurd (cc (ap is_of_journal memory, journal))
withheld span pages asked epoch body saying said journal is (inr (inr other)) = absurd (cc (ap is_of_journal other.0, journal))

module _ {K : Type 0} (kept : Option K) (keeps : List Line → Type 0) (span : Span) (saying said : Said) where
  -- it is said, or is not since it is not kept
  pub says_comes : (pages : ConfigPages) (asked : Ask) (body : List ℕ) → Says span pages asked body saying → Comes kept keeps span saying said → Says span pages asked body said
  says_comes pages asked body says (inl x) = subst (λ (s : Said). Says span pages asked body s) (sym x.0) says
  says_comes pages asked body says (inr x) = (says.0, withheld span pages asked says.0 body saying said x.1 x.0 says.1)

  pub kept_comes : Comes kept keeps span saying said → OnceKept kept keeps span said
  kept_comes (inl x) = λ some. subst (λ (s : Said). IsPast keeps span s) (sym x.0) (x.1 some)
  kept_comes (inr x) = λ some. subst (λ (s : Said). IsPast keeps span s) (sym x.0) tt

once_past : (keeps : List Line → Type 0) (span : Span) (said : Said) → KeptPast keeps span.after → IsPast keeps span said
once_past keeps span (Answered answer) past = past
once_past keeps span (Answers answers round) past = past
once_past keeps span (ListOf head groups) past = past
once_past keeps span Nothing past = past
once_past keeps span (Page page) past = tt
once_past keeps span (Refused error) past = tt
once_past keeps span (Misshapen name) past = tt
once_past keeps span (Notice notice) past = tt
once_past keeps span (Metrics text) past = tt
once_past keeps span (Document text) past = tt
once_past keeps span (Reloaded changes) past = tt
once_past keeps span (NotReloaded fault) past = tt

apart_waits : (keeps : List Line → Type 0) (span : Span) (said : Said) → is_of_journal said ≡ false → IsPast keeps span said
apart_waits keeps span (Answered answer) apart = absurd cc
apart_waits keeps span (Answers answers round) apart = absurd cc
apart_waits keeps span (ListOf head groups) apart = absurd cc
apart_waits keeps span Nothing apart = absurd cc
apart_waits keeps span (Page page) apart = tt
apart_waits keeps span (Refused error) apart = tt
apart_waits keeps span (Misshapen name) apart = tt
apart_waits keeps span (Notice notice) apart = tt
apart_waits keeps span (Metrics text) apart = tt
apart_waits keeps span (Document text) apart = tt
apart_waits keeps span (Reloaded changes) apart = tt
apart_waits keeps span (NotReloaded fault) apart = tt

module _ {K : Type 0} (kept : Option K) (keeps : List Line → Type 0) (span : Span) (saying said : Said) where
  pub waits_comes : (front : List Line) → front ≡ span.after → is_of_journal saying ≡ true → WaitsFor keeps front saying said → Comes kept keeps span saying said
  waits_comes front is journal (inl x) = inl (x.0, λ some. once_past keeps span saying (subst (KeptPast keeps) is x.1))
  waits_comes front is journal (inr x) = inr (x, journal)

  -- what is nothing of the journal
  pub apart_comes : is_of_journal saying ≡ false → said ≡ saying → Comes kept keeps span saying said
  apart_comes apart is = inl (is, λ some. apart_waits keeps span saying apart)
