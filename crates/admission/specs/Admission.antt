-- Which requests are let in: the first refusal by the head, whatever the body.
use Rattle.std.specs.Prelude.{Option, Some, None, Result, Ok, Err, if◌then◌else◌}
use Rattle.std.specs.Result.{result_ok}
use Rattle.http_header.specs.FieldValue.{FieldValue}
use Rattle.http_header.specs.HeaderMap.{Entries}
use Rattle.sd_routes.specs.declared.ask.Ask.{Ask}
use Rattle.sd_routes.specs.declared.request_error.RequestError.{RequestError}
use Rattle.sd_routes.specs.declared.request_error.RequestError.TheVariants.{Host, Origin, Token}
use Rattle.admission.specs.declared.admission.Admission.{Admission}
use Rattle.admission.specs.Sites.{are_own_hosts, is_foreign}
use Rattle.admission.specs.Authorizing.{is_allowed, shown_token}
use Rattle.admission.specs.Bodies.{body_refusal_of}

abbrev pub refusal_of : Admission → Option Ask → Entries FieldValue → Option RequestError
refusal_of doors asked fields =
    if are_own_hosts doors.hosts fields then (if is_foreign asked fields then Some Origin
    else (if is_allowed doors.admin doors.collectors asked (shown_token fields) then body_refusal_of fields else Some Token)) else Some Host

abbrev pub refused_or : Option RequestError → Result Ask RequestError → Result Ask RequestError
refused_or (Some error) came = Err error
refused_or None came = came

-- what a head comes to, where it is let in
abbrev pub let_in : Admission → Entries FieldValue → Result Ask RequestError → Result Ask RequestError
let_in doors fields came = refused_or (refusal_of doors (result_ok came) fields) came
