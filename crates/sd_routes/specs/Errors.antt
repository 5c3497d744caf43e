-- The status code (RFC 9110, section 15; RFC 4918, section 11.5) and the name of each refusal without an event.
use Rattle.std.specs.Prelude.{ℕ, List, codes}
use Rattle.sd_routes.specs.declared.request_error.RequestError.{RequestError}
use Rattle.sd_routes.specs.declared.request_error.RequestError.TheVariants.{NoRoute, Method, Host, Origin, Token, MediaType, TransferCoding, Expectation, Shape, BadName, TooManyRules, OtherEpoch, UnknownRound, TooLong, JournalFull, NotKept, Memory}

abbrev pub status_of : RequestError → ℕ
status_of NoRoute = 404
status_of (Method place) = 405
status_of Host = 403
status_of Origin = 403
status_of Token = 401
status_of MediaType = 415
status_of TransferCoding = 501
status_of Expectation = 417
status_of Shape = 400
status_of BadName = 400
status_of TooManyRules = 400
status_of OtherEpoch = 409
status_of UnknownRound = 404
status_of TooLong = 413
status_of JournalFull = 507
status_of NotKept = 503
status_of Memory = 503

abbrev pub name_of : RequestError → List ℕ
name_of NoRoute = codes "NoRoute"
name_of (Method place) = codes "Method"
name_of Host = codes "Host"
name_of Origin = codes "Origin"
name_of Token = codes "Token"
name_of MediaType = codes "MediaType"
name_of TransferCoding = codes "TransferCoding"
name_of Expectation = codes "Expectation"
name_of Shape = codes "Shape"
name_of BadName = codes "BadName"
name_of TooManyRules = codes "TooManyRules"
name_of OtherEpoch = codes "OtherEpoch"
name_of UnknownRound = codes "UnknownRound"
name_of TooLong = codes "TooLong"
name_of JournalFull = codes "JournalFull"
name_of NotKept = codes "NotKept"
name_of Memory = codes "Memory"
