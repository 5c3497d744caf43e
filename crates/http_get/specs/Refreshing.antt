-- A source that is asked once.
use Rattle.std.specs.Prelude.{◌≡◌, ◌⊎◌, ℕ, zero, suc, List, Option, Some, None, Result, Ok, Err, slice_get}
use Rattle.std.specs.Option.{option_map}
use Rattle.sd_documents.specs.declared.config.Job.{Job}
use Rattle.relabel.specs.declared.rule.RuleSettings.{RuleSettings}
use Rattle.fleet_events.specs.declared.event.Event.{Event}
use Rattle.http_get.specs.declared.discovery.Listing.{Listing}
use Rattle.http_get.specs.declared.get.Get.{Get}
use Rattle.http_get.specs.declared.reply.Reply.{Reply}
use Rattle.http_get.specs.declared.reply.FetchFault.{FetchFault}
use Rattle.http_get.specs.declared.error.RefreshError.{RefreshError}
use Rattle.http_get.specs.declared.error.RefreshError.TheVariants.{NoSource, Memory}
use Rattle.http_get.specs.Urls.{url_get}
use Rattle.http_get.specs.Discoveries.{Gives, found_said, listed_said, unanswered}

-- source 1 + i is asked at the i-th URL. Source 0, the static groups, is not asked
abbrev pub source_get : Job → ℕ → Option Get
source_get job zero = None
source_get job (suc index) = option_map url_get (slice_get job.http_urls index)

-- what an answer says, or that there was none
abbrev pub IsRefresh : Job → List RuleSettings → ℕ → Result Reply FetchFault → Result Event RefreshError → Type 0
IsRefresh job rules source (Ok reply) result = Gives result (found_said job rules source reply)
IsRefresh job rules source (Err fault) result = result ≡ Err (unanswered fault)

-- what asking a source came to says what it lists, where there is such a source
abbrev pub IsHeard : Job → List RuleSettings → ℕ → Result Reply FetchFault → Option Get → Result Listing RefreshError → Type 0
IsHeard job rules source (Ok reply) (Some get) result = Gives result (listed_said job rules source reply)
IsHeard job rules source (Err fault) (Some get) result = result ≡ Err (unanswered fault)
IsHeard job rules source came None result = result ≡ Err NoSource

-- no fetch is made of a source that is not asked
abbrev pub RefreshedBy : {S : Type 0} → (S → Get → Result Reply FetchFault → S → Type 0) → S → S → Job → List RuleSettings → ℕ → Option Get → Result Event RefreshError → Type 0
RefreshedBy may old new job rules source (Some get) result = (came : Result Reply FetchFault) × may old get came new × IsRefresh job rules source came result
RefreshedBy may old new job rules source None result = (new ≡ old) × (result ≡ Err NoSource)

-- the result is that of one fetch of the source, or there was no memory to ask
abbrev pub Refreshed : {S : Type 0} → (S → Get → Result Reply FetchFault → S → Type 0) → S → S → Job → List RuleSettings → ℕ → Result Event RefreshError → Type 0
Refreshed may old new job rules source result =
    RefreshedBy may old new job rules source (source_get job source) result ⊎ ((new ≡ old) × (result ≡ Err Memory))
