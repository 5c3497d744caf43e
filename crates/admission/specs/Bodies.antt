-- What a head announces of its body.
use Rattle.std.specs.Prelude.{ℕ, ◌==◌, ◌+◌, ◌*◌, ◌-◌, nat_lt, List, [], ◌∷◌, Bool, true, false, not, ◌&&◌, ◌||◌, Option, Some, None, is_some, bytes_eq, codes, if◌then◌else◌}
use Rattle.std.specs.List.{before_first, list_any}
use Rattle.std.specs.Option.{option_map_or}
use Rattle.http_header.specs.FieldValue.{FieldValue}
use Rattle.http_header.specs.HeaderMap.{Entries, get, get_all}
use Rattle.sd_routes.specs.declared.request_error.RequestError.{RequestError}
use Rattle.sd_routes.specs.declared.request_error.RequestError.TheVariants.{MediaType, TransferCoding, Expectation, TooLong}
use Rattle.admission.specs.declared.bodies.TheConstants.{LONGEST_BODY}
use Rattle.admission.specs.Sites.{same_letters}

-- a body is announced (RFC 9112, section 6.3)
abbrev pub has_body : Entries FieldValue → Bool
has_body fields = is_some (get fields (codes "transfer-encoding")) || option_map_or (λ (length : FieldValue). not (bytes_eq length.bytes (codes "0"))) (get fields (codes "content-length")) false

-- in another transfer coding than `chunked` (section 6.1)
abbrev pub is_coded_otherwise : Entries FieldValue → Bool
is_coded_otherwise fields = list_any (λ (coding : FieldValue). not (same_letters coding.bytes (codes "chunked"))) (get_all fields (codes "transfer-encoding"))

-- something other than `100-continue` is expected (RFC 9110, section 10.1.1)
abbrev pub expects_other : Entries FieldValue → Bool
expects_other fields = list_any (λ (expected : FieldValue). not (same_letters expected.bytes (codes "100-continue"))) (get_all fields (codes "expect"))

abbrev pub is_digit : ℕ → Bool
is_digit b = not (nat_lt b 48 || nat_lt 57 b)

-- the number that digits write behind those of this one is greater than the most bytes of a body
abbrev pub is_longer : ℕ → List ℕ → Bool
is_longer number [] = false
is_longer number (b ∷ bs) =
    if is_digit b then (if nat_lt LONGEST_BODY (10 * number + (b - 48)) then true else is_longer (10 * number + (b - 48)) bs) else false

abbrev pub is_too_long : Entries FieldValue → Bool
is_too_long fields = option_map_or (λ (length : FieldValue). is_longer 0 length.bytes) (get fields (codes "content-length")) false

-- a media type without its parameters (RFC 9110, section 8.3)
abbrev pub media_type : List ℕ → List ℕ
media_type value = before_first (λ b. (b == 59) || ((b == 32) || (b == 9))) value

-- there is no body, or it is told to be JSON
abbrev pub is_json : Entries FieldValue → Bool
is_json fields = if has_body fields then option_map_or (λ (value : FieldValue). same_letters (media_type value.bytes) (codes "application/json")) (get fields (codes "content-type")) false else true

abbrev pub body_refusal_of : Entries FieldValue → Option RequestError
body_refusal_of fields =
    if is_coded_otherwise fields then Some TransferCoding
    else (if expects_other fields then Some Expectation
    else (if is_too_long fields then Some TooLong
    else (if is_json fields then None else Some MediaType)))
