-- As what a JSON text is told: a JSON text is a YAML text (YAML 1.2 of 2009, section 1.3), so only the media type is another one.
use Rattle.std.specs.Prelude.{codes, Bool, true, false}
use Rattle.http_header.specs.FieldValue.{FieldValue, plain_value}
use Rattle.http_header.specs.HeaderMap.{Entries, insert}
use Rattle.sd_routes.specs.declared.responding.Said.{Said}
use Rattle.sd_routes.specs.declared.responding.Said.TheVariants.{Page, List as ListOf, Nothing}

-- a page or a list in JSON is said
abbrev pub is_page : Said → Bool
is_page (Page text) = true
is_page (ListOf head groups) = true
is_page Nothing = true
is_page _ = false

-- the media type is YAML's (RFC 9512, section 2.1) where it is told as YAML
abbrev pub told_as : Bool → Entries FieldValue → Entries FieldValue
told_as true fields = insert fields (codes "content-type") (plain_value (codes "application/yaml"))
told_as false fields = fields
