-- What an answer of etcd 3.4's JSON gateway to a transaction says. What is false, 0 or empty is absent.
use Rattle.std.specs.Prelude.{ℕ, ◌==◌, Bool, false, List, [], Option, Some, None, codes, is_some, if◌then◌else◌}
use Rattle.std.specs.Option.{option_and_then, option_map, option_map_or}
use Rattle.base64.specs.Engines.{standard}
use Rattle.base64.specs.GeneralPurpose.{decoded_of}
use Rattle.serde_json.specs.Data.{Data}
use Rattle.serde_json.specs.Find.{as_bool, as_object, as_str, get}
use Rattle.json_values.specs.Spelling.{list_in}
use Rattle.json_values.specs.Texts.{json_of}
use Rattle.etcd_answers.specs.Numbers.{long_in}
use Rattle.etcd_answers.specs.declared.answer.Answer.{Answer}
use Rattle.etcd_answers.specs.declared.answer.Answer.TheVariants.{Told as IsTold, Unknown}
use Rattle.etcd_answers.specs.declared.answer.Told.{Told}
use Rattle.etcd_answers.specs.declared.found.Found.{Found}
use Rattle.etcd_answers.specs.declared.response.Response.{Response}

-- the bytes that standard base64 with padding says (RFC 4648, section 4)
unfoldable pub base64_said : List ℕ → Option (List ℕ)
base64_said text = decoded_of standard text

abbrev pub bytes_of : Data → Option (List ℕ)
bytes_of d = option_and_then base64_said (as_str d)

-- the bytes of a member, which are none where it is absent
abbrev pub bytes_in : List ℕ → Data → Option (List ℕ)
bytes_in name d = option_map_or bytes_of (get name d) (Some [])

-- a key that is there
abbrev pub found_since : ℕ → Data → Option Found
found_since created d = option_and_then (λ key. option_map (λ value. record { key = key; created = created; value = value }) (bytes_in (codes "value") d)) (bytes_in (codes "key") d)

abbrev pub found_in : Data → Option Found
found_in d = option_and_then (λ created. found_since created d) (long_in (codes "create_revision") d)

-- the keys that a read found
abbrev pub range_in : Data → Option (List Found)
range_in d = if is_some (as_object d) then option_map_or (list_in found_in) (get (codes "kvs") d) (Some []) else None

-- what one operation answers: one that writes or removes finds nothing
abbrev pub found_of : Data → Option (List Found)
found_of d = if is_some (as_object d) then option_map_or range_in (get (codes "response_range") d) (Some []) else None

abbrev pub response_in : Data → Option Response
response_in d = option_map (λ found. record { found = found }) (found_of d)

-- a transaction without `succeeded` did not succeed
abbrev pub succeeded_in : Data → Option Bool
succeeded_in d = option_map_or as_bool (get (codes "succeeded") d) (Some false)

abbrev pub responses_in : Data → Option (List Response)
responses_in d = option_and_then (list_in response_in) (get (codes "responses") d)

abbrev pub told_of : Bool → Data → Option Told
told_of succeeded d = option_map (λ responses. record { succeeded = succeeded; responses = responses }) (responses_in d)

abbrev pub told_in : Data → Option Told
told_in d = option_and_then (λ succeeded. told_of succeeded d) (succeeded_in d)

abbrev pub told_by : List ℕ → Option Told
told_by body = option_and_then told_in (json_of body)

-- any status but 200, and what is no such document, is not known
abbrev pub answer_said : ℕ → List ℕ → Answer
answer_said status body = if status == 200 then option_map_or IsTold (told_by body) Unknown else Unknown
