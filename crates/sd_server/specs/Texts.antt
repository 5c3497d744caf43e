-- The texts of pages, as functions of a history.
use Rattle.std.specs.Prelude.{ℕ, List, Option, Some, None}
use Rattle.serde_json.specs.Written.{compact_text}
use Rattle.json_values.specs.Spelling.{list_data}
use Rattle.price_certificate.specs.Document.{document_data}
use Rattle.alloc_desk.specs.History.{History}
use Rattle.alloc_desk.specs.Views.{numbered_of, shares_of}
use Rattle.sd_routes.specs.Acknowledging.{acknowledged_data}
use Rattle.sd_routes.specs.Pages.{group_data, shares_data}
use Rattle.sd_routes.specs.declared.list_head.ListHead.{ListHead}

-- the certificate of the last published allocation
abbrev pub certificate_text : History → List ℕ
certificate_text h = compact_text (document_data h.state.problem h.state.plan.pairs h.state.plan.item_prices h.state.plan.bin_prices)

-- what each live collector holds of the job at a place
abbrev pub job_text : List ℕ → ℕ → History → List ℕ
job_text job place h = compact_text (shares_data job (shares_of h.state place))

-- of these targets, the groups of those of the job at a place
abbrev pub groups_text : ℕ → List ℕ → History → List ℕ
groups_text place held h = compact_text (list_data group_data (numbered_of h.state place held))

-- the same in a list with this head, with the service itself before them, to which it is acknowledged
abbrev pub acknowledged_text : List ℕ → List ℕ → ListHead → ℕ → List ℕ → History → List ℕ
acknowledged_text at job head place held h = compact_text (acknowledged_data at job head (numbered_of h.state place held))

-- the text of a list with this head, which is acknowledged where that is told to
abbrev pub list_text : Option (List ℕ) → List ℕ → ListHead → ℕ → List ℕ → History → List ℕ
list_text None job head place held h = groups_text place held h
list_text (Some at) job head place held h = acknowledged_text at job head place held h
