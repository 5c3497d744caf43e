-- What a response says.
use Rattle.std.specs.Prelude.{◌≡◌, ℕ, ◌==◌, List, [], ◌∷◌, ◌++◌, length, codes, Bool, true, false, Option, Some, None, if◌then◌else◌}
use Rattle.http_header.specs.FieldValue.{FieldValue, plain_value}
use Rattle.http_header.specs.HeaderMap.{Entries, insert}
use Rattle.http.specs.declared.response.Response.{Response}
use Rattle.http.specs.declared.response.Parts.{Parts}
use Rattle.http.specs.Response.{head_of, body_of}
use Rattle.http_body_util.specs.declared.full.Full.{Full}
use Rattle.serde_json.specs.Data.{Data, object, string, member, no_members}
use Rattle.serde_json.specs.Written.{compact_text}
use Rattle.fleet_events.specs.declared.answer.Answer.{Answer}
use Rattle.fleet_events.specs.declared.answer.Answer.TheVariants.{Not}
use Rattle.fleet_events.specs.declared.refusal.Refusal.{Refusal}
use Rattle.fleet_events.specs.declared.refusal.Refusal.TheVariants.{UnknownJob, UnknownCollector}
use Rattle.sd_routes.specs.AnswerTexts.{answer_text, answers_text}
use Rattle.sd_routes.specs.Errors.{status_of, name_of}
use Rattle.sd_routes.specs.Fields.{document_headers, json_headers, list_headers, media_headers, page_headers, with_no_other}
use Rattle.sd_routes.specs.Notices.{status_noticed, text_noticed}
use Rattle.sd_routes.specs.Places.{allowed_at}
use Rattle.sd_routes.specs.declared.request_error.RequestError.{RequestError}
use Rattle.sd_routes.specs.declared.request_error.RequestError.TheVariants.{Method, Token}
use Rattle.sd_routes.specs.declared.responding.Said.{Said}
use Rattle.sd_routes.specs.declared.responding.Said.TheVariants.{Answer as Answered, Answers, Page, List as ListOf, Nothing, Refused, Misshapen, Notice as Noticed, Metrics, Document, Reloaded, NotReloaded}

-- a head with this status code and these headers
pub record IsHead (code : ℕ) (fields : Entries FieldValue) (head : Parts) : Type 0 where
  pub status : head.status ≡ code
  pub headers : head.headers ≡ fields

-- a response with this status code, these headers and these bytes
pub record IsResponse (code : ℕ) (fields : Entries FieldValue) (bytes : List ℕ) (response : Response (Full (List ℕ))) : Type 0 where
  pub status : (head_of response).status ≡ code
  pub headers : (head_of response).headers ≡ fields
  pub body : (body_of response).buf ≡ (if length bytes == 0 then None else Some bytes)

-- ---- headers

-- where the path has other methods, these (RFC 9110, section 15.5.6); where a token is needed, how one is shown (section 11.6.1)
abbrev pub refused_headers : RequestError → Entries FieldValue
refused_headers (Method place) = (codes "content-type", plain_value (codes "application/json") ∷ []) ∷ with_no_other ((codes "allow", plain_value (allowed_at place) ∷ []) ∷ [])
refused_headers Token = (codes "content-type", plain_value (codes "application/json") ∷ []) ∷ with_no_other ((codes "www-authenticate", plain_value (codes "Bearer") ∷ []) ∷ [])
refused_headers _ = json_headers

-- the end of the connection is told (RFC 9112, section 9.6)
abbrev pub closing : Bool → Entries FieldValue → Entries FieldValue
closing true fields = insert fields (codes "connection") (plain_value (codes "close"))
closing false fields = fields

-- ---- answers of the allocator

abbrev pub status_refused : Refusal → ℕ
status_refused UnknownJob = 404
status_refused UnknownCollector = 404
status_refused _ = 409

abbrev pub status_answered : Answer → ℕ
status_answered (Not refusal) = status_refused refusal
status_answered _ = 200

abbrev pub refused_text : List ℕ → List ℕ
refused_text name = codes "{\"refused\":\"" ++ name ++ codes "\"}"

-- the object that tells the member at which a body is not of the documented shape
abbrev pub misshapen_data : List ℕ → Data
misshapen_data name = object (member (codes "member") (string name) (member (codes "refused") (string (codes "Shape")) no_members))

-- ---- all that is said

abbrev pub status_said : Said → ℕ
status_said (Answered answer) = status_answered answer
status_said (Answers answers round) = 200
status_said (Page text) = 200
status_said (ListOf head groups) = 200
status_said Nothing = 200
status_said (Refused error) = status_of error
status_said (Misshapen name) = 400
status_said (Noticed notice) = status_noticed notice
status_said (Metrics text) = 200
status_said (Document text) = 200
status_said (Reloaded changes) = 200
status_said (NotReloaded fault) = 500

abbrev pub headers_said : Said → Entries FieldValue
headers_said (Page text) = page_headers
headers_said (ListOf head groups) = list_headers head
headers_said Nothing = page_headers
headers_said (Refused error) = refused_headers error
headers_said (Noticed notice) = media_headers (codes "text/plain; charset=utf-8")
headers_said (Metrics text) = media_headers (codes "text/plain; version=0.0.4; charset=utf-8")
headers_said (Document text) = document_headers
headers_said (Reloaded changes) = media_headers (codes "text/plain; charset=utf-8")
headers_said (NotReloaded fault) = media_headers (codes "text/plain; charset=utf-8")
headers_said _ = json_headers

abbrev pub body_said : Said → List ℕ
body_said (Answered answer) = answer_text answer
body_said (Answers answers round) = answers_text answers round
body_said (Page text) = text
body_said (ListOf head groups) = groups
body_said Nothing = codes "[]"
body_said (Refused error) = refused_text (name_of error)
body_said (Misshapen name) = compact_text (misshapen_data name)
body_said (Noticed notice) = text_noticed notice
body_said (Metrics text) = text
body_said (Document text) = text
body_said (Reloaded changes) = changes
body_said (NotReloaded fault) = fault
