-- How what is said is written: a list has an entity tag, and is not sent again to who has it.
use Rattle.std.specs.Prelude.{◌≡◌, ◌⊎◌, ℕ, List, [], Option, Some, None, Bool, ◌&&◌, true, false, codes}
use Rattle.http.specs.declared.response.Response.{Response}
use Rattle.http.specs.Response.{head_of, body_of}
use Rattle.http_header.specs.FieldValue.{FieldValue, plain_value}
use Rattle.http_header.specs.HeaderMap.{Entries, insert}
use Rattle.http_body_util.specs.declared.full.Full.{Full}
use Rattle.entity_tags.specs.Tags.{tag_of, Shows}
use Rattle.sd_routes.specs.Responses.{IsResponse, closing, status_said, headers_said, body_said}
use Rattle.sd_routes.specs.declared.responding.Said.{Said}
use Rattle.sd_routes.specs.declared.responding.Said.TheVariants.{List as ListOf}
use Rattle.sd_responses.specs.Yaml.{is_page, told_as}
use Rattle.sd_responses.specs.declared.manner.Manner.{Manner}

-- the entity tag of a list that is told as JSON
abbrev pub tag_said : Bool → Said → Option FieldValue
tag_said false (ListOf head groups) = Some (plain_value (tag_of groups))
tag_said _ _ = None

abbrev pub tagged : Option FieldValue → Entries FieldValue → Entries FieldValue
tagged None fields = fields
tagged (Some tag) fields = insert fields (codes "etag") tag

-- the tag stands in what is shown
abbrev pub IsKnown : Option FieldValue → Option FieldValue → Type 0
IsKnown (Some shown) (Some tag) = Shows shown.bytes tag.bytes true
IsKnown _ _ = ⊥

-- the headers of what is said
abbrev pub fields_said : Manner → Said → Entries FieldValue
fields_said manner said = tagged (tag_said manner.is_yaml said) (told_as (manner.is_yaml && is_page said) (closing manner.closes (headers_said said)))

-- the written form of what is said; or, where its tag is shown, that it is still the same (RFC 9110, section 15.4.5)
abbrev pub Writes : Manner → Said → Response (Full (List ℕ)) → Type 0
Writes manner said response =
    IsResponse (status_said said) (fields_said manner said) (body_said said) response
    ⊎ (IsKnown manner.shown (tag_said manner.is_yaml said) × IsResponse 304 (fields_said manner said) [] response)

-- a response once more, with this tag, or that it is still the same
abbrev pub WritesTagged : Option FieldValue → FieldValue → Response (Full (List ℕ)) → Response (Full (List ℕ)) → Type 0
WritesTagged shown tag before response =
    ((head_of response).headers ≡ tagged (Some tag) (head_of before).headers)
    × (((head_of response).status ≡ (head_of before).status) × ((body_of response).buf ≡ (body_of before).buf)
    ⊎ (IsKnown shown (Some tag) × (((head_of response).status ≡ 304) × ((body_of response).buf ≡ None))))
