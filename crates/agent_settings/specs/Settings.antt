-- The settings of an agent. Null is no absent member.
use Rattle.std.specs.Prelude.{ℕ, List, Option, Result, Ok, codes}
use Rattle.serde_json.specs.Data.{Data}
use Rattle.serde_json.specs.Find.{get}
use Rattle.agent_settings.specs.declared.error.SettingsError.{SettingsError}
use Rattle.agent_settings.specs.declared.error.Member.TheVariants as part
use Rattle.agent_settings.specs.declared.members.Kind.TheVariants as kind
use Rattle.agent_settings.specs.declared.settings.Settings.{Settings}
use Rattle.agent_settings.specs.declared.settings.Tokens.{Tokens}
use Rattle.agent_settings.specs.declared.settings.TheConstants.{DEFAULT_LISTEN}
use Rattle.service_settings.specs.Reading.{member_at}
use Rattle.agent_settings.specs.Members.{known_said, members_said}
use Rattle.agent_settings.specs.Reading.{◌>>=◌, json_said, lease_said, listen_said, path_said, text_said, url_said}

unfoldable pub tokens_said : Option Data → Result Tokens SettingsError
tokens_said found =
    known_said kind.Tokens found >>= λ tokens.
    path_said part.AllocatorToken (member_at (codes "allocator") tokens) >>= λ allocator.
    path_said part.AdminToken (member_at (codes "admin") tokens) >>= λ admin.
    path_said part.PrometheusToken (member_at (codes "prometheus") tokens) >>= λ prometheus.
    Ok (record { allocator = allocator; admin = admin; prometheus = prometheus })

unfoldable pub settings_said : Data → Result Settings SettingsError
settings_said d =
    members_said kind.Document d >>= λ known.
    text_said part.Name (get (codes "name") d) >>= λ name.
    url_said part.Allocator (get (codes "allocator") d) >>= λ allocator.
    url_said part.Prometheus (get (codes "prometheus") d) >>= λ prometheus.
    listen_said DEFAULT_LISTEN part.Listen (get (codes "listen") d) >>= λ listen.
    text_said part.State (get (codes "state") d) >>= λ state.
    lease_said part.Lease (get (codes "lease") d) >>= λ lease.
    tokens_said (get (codes "tokens") d) >>= λ tokens.
    Ok (record { name = name; allocator = allocator; prometheus = prometheus; listen = listen; state = state; lease = lease; tokens = tokens })

abbrev pub settings_read : List ℕ → Result Settings SettingsError
settings_read bytes = json_said bytes >>= settings_said
