-- The fields of a response's head.
use Rattle.std.specs.Prelude.{ℕ, List, [], ◌∷◌, Option, Some, None, codes}
use Rattle.std.specs.Fmt.{decimal}
use Rattle.http_header.specs.FieldValue.{FieldValue, plain_value}
use Rattle.http_header.specs.HeaderMap.{Entries, insert}
use Rattle.sd_routes.specs.declared.list_head.ListHead.{ListHead}

-- the media type is the one that is told (Fetch Standard, section 3.6), and what follows
abbrev pub with_no_other : Entries FieldValue → Entries FieldValue
with_no_other fields = (codes "x-content-type-options", plain_value (codes "nosniff") ∷ []) ∷ fields

abbrev pub media_headers : List ℕ → Entries FieldValue
media_headers media = (codes "content-type", plain_value media ∷ []) ∷ with_no_other []

-- what is told has the form that is accepted (RFC 9110, section 12.5.5)
abbrev pub with_accept : Entries FieldValue → Entries FieldValue
with_accept fields = insert fields (codes "vary") (plain_value (codes "accept"))

-- a page for people: what it may load, and whom its form asks (Content Security Policy Level 3)
abbrev pub document_headers : Entries FieldValue
document_headers =
    with_accept ((codes "content-type", plain_value (codes "text/html; charset=utf-8") ∷ [])
    ∷ with_no_other ((codes "content-security-policy", plain_value (codes "default-src 'none'; style-src 'unsafe-inline'; form-action 'self'; frame-ancestors 'none'") ∷ []) ∷ []))

abbrev pub json_headers : Entries FieldValue
json_headers = media_headers (codes "application/json")

-- a page or a list in JSON
abbrev pub page_headers : Entries FieldValue
page_headers = with_accept json_headers

-- a number in decimal under this name, behind the others
abbrev pub with_number : List ℕ → ℕ → Entries FieldValue → Entries FieldValue
with_number name number fields = insert fields name (plain_value (decimal number))

-- the number of the allocation, and the round that was open
abbrev pub with_allocation : ListHead → Entries FieldValue → Entries FieldValue
with_allocation head fields = with_number (codes "x-scrape-round") head.round (with_number (codes "x-allocation-number") head.allocation fields)

-- how many targets the list leaves out, where that is told
abbrev pub with_left_out : Option ℕ → Entries FieldValue → Entries FieldValue
with_left_out None fields = fields
with_left_out (Some count) fields = with_number (codes "x-left-out") count fields

-- the collector's number, and the epoch
abbrev pub with_collector : ListHead → Entries FieldValue → Entries FieldValue
with_collector head fields = with_number (codes "x-allocator-epoch") head.epoch (with_number (codes "x-collector") head.collector fields)

-- for how long the round is open, and how long a round is
abbrev pub with_times : ListHead → Entries FieldValue → Entries FieldValue
with_times head fields = with_number (codes "x-scrape-round-length") head.length (with_number (codes "x-scrape-round-age") head.age fields)

-- all but the times of the open round
abbrev pub lasting_headers : ListHead → Entries FieldValue
lasting_headers head = with_collector head (with_left_out head.left_out (with_allocation head page_headers))

abbrev pub list_headers : ListHead → Entries FieldValue
list_headers head = with_times head (lasting_headers head)

-- the same head where the round is open for so long, and is to be so for so long
abbrev pub at_times : ℕ → ℕ → ListHead → ListHead
at_times age length head = record { allocation = head.allocation; round = head.round; left_out = head.left_out; collector = head.collector; epoch = head.epoch; age = age; length = length }
