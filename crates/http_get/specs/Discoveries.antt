-- What the answer of a discovery source says, after Prometheus's HTTP service discovery: a list of target groups as JSON,
-- which is the whole list of the source. Anything else is refused.
use Rattle.std.specs.Prelude.{◌≡◌, ◌≢◌, ◌==◌, ℕ, List, Result, Ok, Err, Bool, map, codes, if◌then◌else◌}
use Rattle.std.specs.Char.{to_ascii_lowercase}
use Rattle.std.specs.Str.{bytes_eq}
use Rattle.sd_documents.specs.Groups.{groups_read}
use Rattle.sd_documents.specs.Media.{media_type}
use Rattle.sd_documents.specs.declared.error.SdError.{SdError}
use Rattle.sd_documents.specs.declared.config.Job.{Job}
use Rattle.sd_documents.specs.declared.group.Group.{Group}
use Rattle.relabel.specs.declared.rule.RuleSettings.{RuleSettings}
use Rattle.relabel.specs.Discovering.{discovered}
use Rattle.fleet_events.specs.declared.event.Event.{Event}
use Rattle.fleet_events.specs.declared.event.Event.TheVariants.{Discover}
use Rattle.http_get.specs.declared.discovery.Listing.{Listing}
use Rattle.http_get.specs.declared.reply.Reply.{Reply}
use Rattle.http_get.specs.declared.reply.FetchFault.{FetchFault}
use Rattle.http_get.specs.declared.reply.FetchFault.TheVariants as fault
use Rattle.http_get.specs.declared.error.RefreshError.{RefreshError}
use Rattle.http_get.specs.declared.error.RefreshError.TheVariants.{NoSource, Status, Media, Document, Device, TooLong, Memory}

-- one after the other, up to the first refusal
infixl 10 ◌>>=◌
abbrev pub ◌>>=◌ : {A B : Type 0} → Result A RefreshError → (A → Result B RefreshError) → Result B RefreshError
(Ok x) >>= f = f x
(Err e) >>= f = Err e

-- what is returned is what is said, unless memory ran out
abbrev pub Gives : {A : Type 0} → Result A RefreshError → Result A RefreshError → Type 0
Gives (Ok x) said = said ≡ Ok x
Gives (Err e) said = e ≢ Memory → said ≡ Err e

-- the media type `application/json`, whatever its parameters
abbrev pub is_json : List ℕ → Bool
is_json media = bytes_eq (map to_ascii_lowercase (media_type media)) (codes "application/json")

-- the fault of a document, as a refusal
abbrev pub or_document : Result (List Group) SdError → Result (List Group) RefreshError
or_document (Ok groups) = Ok groups
or_document (Err fault) = Err (Document fault)

abbrev pub groups_said : List ℕ → Result (List Group) RefreshError
groups_said body = or_document (groups_read body)

-- the groups of an answer: the status is looked at first, then the media type, then the body
abbrev pub groups_answered : Reply → Result (List Group) RefreshError
groups_answered reply =
    if reply.status == 200 then (if is_json reply.media then groups_said reply.body else Err Media)
    else Err (Status reply.status)

-- a source lists the final targets of groups, in order, which have the labels of groups of some source; with how many targets of the groups a rule
-- drops, and how many have no address after the rules
abbrev pub listing_from : Job → List RuleSettings → ℕ → ℕ → List Group → Listing
listing_from job rules from source groups = record {
  event = Discover job.name source (discovered rules job from groups).targets;
  dropped = (discovered rules job from groups).dropped;
  no_address = (discovered rules job from groups).no_address;
}

module _ (job : Job) (rules : List RuleSettings) (source : ℕ) where
  -- the source lists the final targets of the groups, in order
  abbrev pub discover_event : List Group → Event
  discover_event groups = Discover job.name source (discovered rules job source groups).targets

  abbrev pub found_said : Reply → Result Event RefreshError
  found_said reply = groups_answered reply >>= λ groups. Ok (discover_event groups)

  abbrev pub listing : List Group → Listing
  listing groups = listing_from job rules source source groups

  abbrev pub listed_said : Reply → Result Listing RefreshError
  listed_said reply = groups_answered reply >>= λ groups. Ok (listing groups)

  -- those of files have no label of a URL, as those of static groups have none
  abbrev pub files_listing : List Group → Listing
  files_listing groups = listing_from job rules 0 source groups

-- a fetch that brought no answer
abbrev pub unanswered : FetchFault → RefreshError
unanswered fault.Device = Device
unanswered fault.TooLong = TooLong
unanswered fault.Memory = Memory

abbrev pub refusal_name : RefreshError → List ℕ
refusal_name NoSource = codes "NoSource"
refusal_name (Status code) = codes "Status"
refusal_name Media = codes "Media"
refusal_name (Document fault) = codes "Document"
refusal_name Device = codes "Device"
refusal_name TooLong = codes "TooLong"
refusal_name Memory = codes "Memory"
