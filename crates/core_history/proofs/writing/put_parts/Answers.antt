use Rattle.std.proofs.Common.{◌≡◌, ℕ, List, Option, Some, ap, sym, ◌∙◌, codes}
use Rattle.std.specs.Prelude.{◌==◌}
use Rattle.std.specs.List.{list_all}
use Rattle.serde_json.specs.Data.{Data, Members, member, no_members, object, put}
use Rattle.serde_json.specs.View.{view}
use Rattle.json_values.specs.Spelling.{list_data, number_data, pair_data}
use Rattle.price_certificate.specs.Document.{shared_document_data}
use Rattle.fleet.specs.Fleet.{FleetState}
use Rattle.core_history.specs.Parts.{fleet_data, parts_of}
use Rattle.core_history.specs.History.{certificate_of, history_by, history_of, parts_in}
use Rattle.allocation_core.specs.State.{current_pairs}
use Rattle.core_history.proofs.Checking.{nothing_said, object_same, parts_back, served_object_same, served_parts_back, something_said}
use Rattle.core_history.proofs.writing.put_parts.Goals as goal

-- the members in the order in which they were put
four : (m0 m1 m2 m3 m4 : Members) (a c f r : Data) → m0 ≡ no_members → m1 ≡ put (codes "allocation") a m0 → m2 ≡ put (codes "certificate") c m1 → m3 ≡ put (codes "fleet") f m2 → m4 ≡ put (codes "round") r m3
    → m4 ≡ member (codes "allocation") a (member (codes "certificate") c (member (codes "fleet") f (member (codes "round") r no_members)))
four m0 m1 m2 m3 m4 a c f r e0 e1 e2 e3 e4 =
    e4 ∙ ap (put (codes "round") r) (e3 ∙ ap (put (codes "fleet") f) (e2 ∙ ap (put (codes "certificate") c) (e1 ∙ ap (put (codes "allocation") a) e0)))

five : (m4 m5 : Members) (a c f r s : Data) → m4 ≡ member (codes "allocation") a (member (codes "certificate") c (member (codes "fleet") f (member (codes "round") r no_members))) → m5 ≡ put (codes "served") s m4
    → m5 ≡ member (codes "allocation") a (member (codes "certificate") c (member (codes "fleet") f (member (codes "round") r (member (codes "served") s no_members))))
five m4 m5 a c f r s is e5 = e5 ∙ ap (put (codes "served") s) is

pub returns-then-is_nothing_served-clause-form : goal.returns-then-is_nothing_served-clause-form
returns-then-is_nothing_served-clause-form c =
    let m = c.args.core.now in
    let members = four _ _ _ _ _ (view c.in_ok-allocation.allocation) (view c.in_ok-certificate.certificate) (view c.in_ok-fleet.fleet) (view c.in_ok-round.round) c.requires c.in_ok-put.ensures.ok c.in_ok-put-2.ensures.ok c.in_ok-put-3.ensures.ok c.in_ok-put-4.ensures.ok in
    let allocation = c.in_ok-allocation.ensures.form ∙ ap (λ (pairs : List (ℕ × ℕ)). list_data pair_data pairs) c.allocation.ensures.pairs in
    let fleet = c.in_ok-fleet.ensures.form ∙ ap (λ (f : FleetState). fleet_data f) c.fleet.ensures in
    let round = c.in_ok-round.ensures.form ∙ ap (λ (n : ℕ). number_data n) c.round.ensures in
    let none = nothing_said m.served.slots (ap (λ (slots : List ℕ). list_all (λ (collector : ℕ). collector == 0) slots) (sym c.slots.ensures.slots) ∙ sym c.if-is_nothing_served.ensures) in
    let said = ap (history_by (list_data pair_data (current_pairs m)) (shared_document_data m.problem m.plan.pairs m.plan.item_prices m.plan.bin_prices) (fleet_data m.fleet) (number_data m.round)) none in
    ap object members ∙ object_same _ _ _ _ _ _ _ _ allocation c.in_ok-certificate.ensures.form fleet round ∙ sym said

pub returns-then-is_nothing_served-clause-parts : goal.returns-then-is_nothing_served-clause-parts
returns-then-is_nothing_served-clause-parts c =
    let m = c.args.core.now in
    let members = four _ _ _ _ _ (view c.in_ok-allocation.allocation) (view c.in_ok-certificate.certificate) (view c.in_ok-fleet.fleet) (view c.in_ok-round.round) c.requires c.in_ok-put.ensures.ok c.in_ok-put-2.ensures.ok c.in_ok-put-3.ensures.ok c.in_ok-put-4.ensures.ok in
    let allocation = c.in_ok-allocation.ensures.reads_back ∙ ap (λ (pairs : List (ℕ × ℕ)). Some pairs) c.allocation.ensures.pairs in
    let fleet = c.in_ok-fleet.ensures.reads_back ∙ ap (λ (f : FleetState). Some (parts_of f)) c.fleet.ensures in
    let round = c.in_ok-round.ensures.reads_back ∙ ap (λ (n : ℕ). Some n) c.round.ensures in
    let none = nothing_said m.served.slots (ap (λ (slots : List ℕ). list_all (λ (collector : ℕ). collector == 0) slots) (sym c.slots.ensures.slots) ∙ sym c.if-is_nothing_served.ensures) in
    let back = parts_back (view c.in_ok-allocation.allocation) (view c.in_ok-certificate.certificate) (view c.in_ok-fleet.fleet) (view c.in_ok-round.round) (current_pairs m) (certificate_of m.problem m.plan) (parts_of m.fleet) m.round allocation c.in_ok-certificate.ensures.parts fleet round in
    let said = ap (λ (served : Option (List ℕ)). Some (history_of (current_pairs m) (certificate_of m.problem m.plan) (parts_of m.fleet) m.round served)) none in
    ap (λ (ms : Members). parts_in (object ms)) members ∙ back ∙ sym said

pub returns-clause-form : goal.returns-clause-form
returns-clause-form c =
    let m = c.args.core.now in
    let members = five _ _ (view c.in_ok-allocation.allocation) (view c.in_ok-certificate.certificate) (view c.in_ok-fleet.fleet) (view c.in_ok-round.round) (view c.in_ok-served.served) (four _ _ _ _ _ (view c.in_ok-allocation.allocation) (view c.in_ok-certificate.certificate) (view c.in_ok-fleet.fleet) (view c.in_ok-round.round) c.requires c.in_ok-put.ensures.ok c.in_ok-put-2.ensures.ok c.in_ok-put-3.ensures.ok c.in_ok-put-4.ensures.ok) c.in_ok-put-5.ensures.ok in
    let allocation = c.in_ok-allocation.ensures.form ∙ ap (λ (pairs : List (ℕ × ℕ)). list_data pair_data pairs) c.allocation.ensures.pairs in
    let fleet = c.in_ok-fleet.ensures.form ∙ ap (λ (f : FleetState). fleet_data f) c.fleet.ensures in
    let round = c.in_ok-round.ensures.form ∙ ap (λ (n : ℕ). number_data n) c.round.ensures in
    let served = c.in_ok-served.ensures.form ∙ ap (λ (slots : List ℕ). list_data number_data slots) c.slots-2.ensures.slots in
    let some = something_said m.served.slots (ap (λ (slots : List ℕ). list_all (λ (collector : ℕ). collector == 0) slots) (sym c.slots.ensures.slots) ∙ sym c.if-is_nothing_served.ensures) in
    let said = ap (history_by (list_data pair_data (current_pairs m)) (shared_document_data m.problem m.plan.pairs m.plan.item_prices m.plan.bin_prices) (fleet_data m.fleet) (number_data m.round)) some in
    ap object members ∙ served_object_same _ _ _ _ _ _ _ _ _ _ allocation c.in_ok-certificate.ensures.form fleet round served ∙ sym said

pub returns-clause-parts : goal.returns-clause-parts
returns-clause-parts c =
    let m = c.args.core.now in
    let members = five _ _ (view c.in_ok-allocation.allocation) (view c.in_ok-certificate.certificate) (view c.in_ok-fleet.fleet) (view c.in_ok-round.round) (view c.in_ok-served.served) (four _ _ _ _ _ (view c.in_ok-allocation.allocation) (view c.in_ok-certificate.certificate) (view c.in_ok-fleet.fleet) (view c.in_ok-round.round) c.requires c.in_ok-put.ensures.ok c.in_ok-put-2.ensures.ok c.in_ok-put-3.ensures.ok c.in_ok-put-4.ensures.ok) c.in_ok-put-5.ensures.ok in
    let allocation = c.in_ok-allocation.ensures.reads_back ∙ ap (λ (pairs : List (ℕ × ℕ)). Some pairs) c.allocation.ensures.pairs in
    let fleet = c.in_ok-fleet.ensures.reads_back ∙ ap (λ (f : FleetState). Some (parts_of f)) c.fleet.ensures in
    let round = c.in_ok-round.ensures.reads_back ∙ ap (λ (n : ℕ). Some n) c.round.ensures in
    let served = c.in_ok-served.ensures.reads_back ∙ ap (λ (slots : List ℕ). Some slots) c.slots-2.ensures.slots in
    let some = something_said m.served.slots (ap (λ (slots : List ℕ). list_all (λ (collector : ℕ). collector == 0) slots) (sym c.slots.ensures.slots) ∙ sym c.if-is_nothing_served.ensures) in
    let back = served_parts_back (view c.in_ok-allocation.allocation) (view c.in_ok-certificate.certificate) (view c.in_ok-fleet.fleet) (view c.in_ok-round.round) (view c.in_ok-served.served) (current_pairs m) (certificate_of m.problem m.plan) (parts_of m.fleet) m.round m.served.slots allocation c.in_ok-certificate.ensures.parts fleet round served in
    let said = ap (λ (s : Option (List ℕ)). Some (history_of (current_pairs m) (certificate_of m.problem m.plan) (parts_of m.fleet) m.round s)) some in
    ap (λ (ms : Members). parts_in (object ms)) members ∙ back ∙ sym said
