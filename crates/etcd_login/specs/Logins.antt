-- How an instance logs in to etcd 3.4, through its JSON gateway.
use Rattle.std.specs.Prelude.{ℕ, ◌==◌, Bool, List, Option, Some, None, codes, option_and_then, if◌then◌else◌}
use Rattle.serde_json.specs.Data.{Data, string, object, member, no_members}
use Rattle.serde_json.specs.Find.{as_str, get}
use Rattle.json_values.specs.Texts.{json_of}

-- POST /v3/auth/authenticate
abbrev pub login_data : List ℕ → List ℕ → Data
login_data name password = object (member (codes "name") (string name) (member (codes "password") (string password) no_members))

abbrev pub token_in : Data → Option (List ℕ)
token_in d = option_and_then as_str (get (codes "token") d)

abbrev pub token_said : ℕ → List ℕ → Option (List ℕ)
token_said status body = if status == 200 then option_and_then token_in (json_of body) else None

-- Unauthorized (RFC 9110, section 15.5.2): `etcdserver: invalid auth token`
abbrev pub is_token_over : ℕ → Bool
is_token_over status = status == 401
