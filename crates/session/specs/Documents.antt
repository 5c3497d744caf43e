-- The document of a session: an object with all of the members `config`, `collectors`, `rounds`, `serve` and `ask`. Other members
-- don't matter.
use Rattle.std.specs.Prelude.{◌≡◌, ◌≢◌, ℕ, List, ◌&&◌, nat_le, nat_lt, Option, Some, None, option_map, option_and_then, Result, Ok, Err, codes, if◌then◌else◌}
use Rattle.std.specs.Option.{ok_or}
use Rattle.std.specs.Result.{result_ok}
use Rattle.serde_json.specs.Data.{Data}
use Rattle.serde_json.specs.Find.{as_str}
use Rattle.json_values.specs.Texts.{json_of}
use Rattle.json_values.specs.Spelling.{list_in, member_in, number_in}
use Rattle.fleet_events.specs.Reading.{join_in}
use Rattle.fleet_events.specs.declared.event.Event.{Event}
use Rattle.sd_documents.specs.Config.{ConfigData, config_data, config_said}
use Rattle.session.specs.declared.document.Session.{Session}
use Rattle.session.specs.declared.document.TheConstants.{MOST_ROUNDS}
use Rattle.session.specs.declared.error.SessionError.{SessionError}
use Rattle.session.specs.declared.error.SessionError.TheVariants.{NotJson, Shape, Memory}
use Rattle.session.specs.declared.pages.Page.{Page}

-- what a session has, its configuration seen as its data
pub record SessionData : Type 0 where
  pub config : ConfigData
  pub joins : List Event
  pub rounds : ℕ
  pub pages : List Page
  pub asks : List (List ℕ)

abbrev pub session_data : Session → SessionData
session_data s = record { config = config_data s.config; joins = s.joins; rounds = s.rounds; pages = s.pages; asks = s.asks }

-- ---- its members

-- a configuration that is read without a fault
abbrev pub config_of : Data → Option ConfigData
config_of d = result_ok (config_said d)

abbrev pub config_in : Data → Option ConfigData
config_in d = member_in config_of (codes "config") d

-- a list of objects with the members of the event `join`
abbrev pub joins_in : Data → Option (List Event)
joins_in d = member_in (list_in join_in) (codes "collectors") d

abbrev pub few : ℕ → Option ℕ
few n = if nat_le n MOST_ROUNDS then Some n else None

abbrev pub few_rounds : Data → Option ℕ
few_rounds d = option_and_then few (number_in d)

-- a status code of three digits (RFC 9110, section 15)
abbrev pub three_digits : ℕ → Option ℕ
three_digits n = if nat_le 100 n && nat_lt n 1000 then Some n else None

abbrev pub status_of : Data → Option ℕ
status_of d = option_and_then three_digits (number_in d)

abbrev pub page : List ℕ → ℕ → List ℕ → List ℕ → Page
page path status media body = record { path = path; status = status; media = media; body = body }

unfoldable pub page_in : Data → Option Page
page_in d =
    option_and_then
    (λ path. option_and_then (λ status. option_and_then (λ media. option_map (page path status media) (member_in as_str (codes "body") d)) (member_in as_str (codes "media") d)) (member_in status_of (codes "status") d))
    (member_in as_str (codes "path") d)

-- ---- the document

abbrev pub session_with : ConfigData → List Event → ℕ → List Page → List (List ℕ) → SessionData
session_with config joins rounds pages asks = record { config = config; joins = joins; rounds = rounds; pages = pages; asks = asks }

unfoldable pub session_in : Data → Option SessionData
session_in d =
    option_and_then
    (λ config. option_and_then (λ joins. option_and_then (λ rounds. option_and_then (λ pages. option_map (session_with config joins rounds pages) (member_in (list_in as_str) (codes "ask") d)) (member_in (list_in page_in) (codes "serve") d))
    (member_in few_rounds (codes "rounds") d)) (joins_in d)) (config_in d)

abbrev pub shaped : Data → Result SessionData SessionError
shaped d = ok_or (session_in d) Shape

abbrev pub said_by : Option Data → Result SessionData SessionError
said_by None = Err NotJson
said_by (Some d) = shaped d

-- the document's bytes
abbrev pub session_read : List ℕ → Result SessionData SessionError
session_read bytes = said_by (json_of bytes)

-- What is returned, seen by the view, is what is said, unless memory ran out.
abbrev pub Gives : {X Y : Type 0} → (X → Y) → Result X SessionError → Result Y SessionError → Type 0
Gives view (Ok x) said = said ≡ Ok (view x)
Gives view (Err e) said = e ≢ Memory → said ≡ Err e
