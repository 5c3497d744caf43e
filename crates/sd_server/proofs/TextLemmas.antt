-- The texts of lists.
use Rattle.std.proofs.Common.{◌≡◌, ℕ, List}
use Rattle.std.specs.Prelude.{Result, Ok, Err, IfOk, Some}
use Rattle.serde_json.specs.Written.{compact_text}
use Rattle.json_values.specs.Spelling.{list_data}
use Rattle.alloc_desk.specs.History.{history_of}
use Rattle.alloc_desk.specs.Views.{numbered_of}
use Rattle.target_shares.specs.declared.numbered_target.NumberedTarget.{NumberedTarget}
use Rattle.sd_routes.specs.Acknowledging.{acknowledged_data}
use Rattle.sd_routes.specs.Pages.{group_data}
use Rattle.sd_routes.specs.declared.list_head.ListHead.{ListHead}
use Rattle.sd_server.specs.Listing.{IsGroups, IsListText}
use Rattle.sd_server.specs.Spans.{Span}

-- the text of a list that was made of the text of its groups
pub acknowledged_of :
    {E : Type 0} (span : Span) (at job : List ℕ) (head : ListHead) (place : ℕ) (held groups : List ℕ) (list : Result (List ℕ) E) → IsGroups span place held groups
    → ((targets : List NumberedTarget) → groups ≡ compact_text (list_data group_data targets) → IfOk list (λ text. text ≡ compact_text (acknowledged_data at job head targets)))
    → IfOk list (IsListText span (Some at) job head place held)
acknowledged_of span at job head place held groups (Err e) told is = tt
acknowledged_of span at job head place held groups (Ok text) told is =
    record {
      moment = told.moment;
      begun = told.begun;
      seen = told.seen;
      holds = (is (numbered_of (history_of span.opening told.moment).state place held) told.holds.0, told.holds.1);
    }
