-- A line with the history of a state: how deep it is, and what it opens.
use Rattle.std.proofs.Common.{◌≡◌, ◌<◌, ◌≤◌, ℕ, Bool, false, true, ◌&&◌, AllPairs, List, length, Option, Some, None, String, BTreeMap, Global, Result, Ok, refl, sym, ap, subst, ◌∙◌, arith}
use Rattle.std.specs.Prelude.{◌^◌, option_map, option_and_then, codes, if◌then◌else◌, unwrap_or}
use Rattle.std.specs.Option.{ok_or, option_map_or}
use Rattle.std.specs.Result.{result_ok}
use Rattle.std.proofs.lemmas.Bool.{le-leb, lt-ltb}
use Rattle.serde_json.specs.Data.{Data, Members, null, boolean, number, string, array, object, put, depth, members_depth}
use Rattle.serde_json.specs.Find.{get}
use Rattle.serde_json.specs.Read.{max_depth}
use Rattle.serde_json.specs.View.{view, members_view}
use Rattle.serde_json.specs.declared.value.Value.{Value, Object}
use Rattle.serde_json.proofs.Views.{get_member-put, get_member-put_other, view-Object}
use Rattle.json_values.specs.Spelling.{number_data, pair_data, list_data}
use Rattle.json_values.specs.Texts.{json_of}
use Rattle.json_values.proofs.Lists.{levels}
use Rattle.price_certificate.proofs.DocumentForm.{levels-shared_document_data}
use Rattle.fleet.specs.Fleet.{FleetState}
use Rattle.fleet.specs.declared.collector.Collector.{Collector}
use Rattle.fleet.specs.declared.job.JobSpec.{JobSpec}
use Rattle.fleet.specs.declared.known_target.KnownTarget.{KnownTarget}
use Rattle.fleet_events.proofs.Forms.{reach_levels, limits_levels}
use Rattle.allocation_core.specs.Renewed.{renewed}
use Rattle.allocation_core.specs.State.{IsCount, State, counted, current_pairs, restored, with_rounds}
use Rattle.core_history.specs.Parts.{job_data, known_data, collector_data, fleet_data}
use Rattle.price_certificate.specs.Document.{shared_document_data}
use Rattle.core_history.specs.History.{ReadsBack, history_by, history_data, history_in, slots_of, slots_said}
use Rattle.core_history.specs.Laws.{RenewedReadBack}
use Rattle.core_history.specs.Rounds.{rounds_or_one}
use Rattle.core_history.specs.declared.error.HistoryError.{HistoryError}
use Rattle.sd_documents.specs.Config.{config_said}
use Rattle.sd_documents.specs.Reading.{◌>>=◌}
use Rattle.sd_documents.specs.declared.error.SdError.TheVariants.{NotJson}
use Rattle.replay_lines.specs.Configurations.{jobs_in, opened, opened_by, opened_from, resumed_with, same_jobs, specs_of}
use Rattle.durable_journal.specs.Configured.{goes_on, has_jobs, with_history}
use Rattle.durable_journal.specs.Marks.{SaysMarked}
use Rattle.durable_journal.proofs.Marked.{put_levels, says_opens}
use Rattle.durable_journal.proofs.Opening.{opened_data, opened_parts, shallow}

-- ---- how deep it is

known_levels : (known : KnownTarget) → depth (known_data known) ≤ 1
known_levels known = omega arith

collector_levels : (c : Collector) → depth (collector_data c) ≤ 3
collector_levels c = omega (arith, limits_levels c.limits, reach_levels c.reach)

numbers_levels : (numbers : List ℕ) → depth (list_data number_data numbers) ≤ 1
numbers_levels numbers = omega (arith, levels number_data 0 (λ n. omega arith) numbers)

sources_levels : (sources : List (List ℕ)) → depth (list_data (list_data number_data) sources) ≤ 2
sources_levels sources = omega (arith, levels (list_data number_data) 1 numbers_levels sources)

fleet_levels : (fleet : FleetState) → depth (fleet_data fleet) ≤ 5
fleet_levels fleet =
    omega (arith, levels collector_data 3 collector_levels fleet.collectors, levels job_data 1 (λ job. omega arith) fleet.jobs, levels (list_data (list_data number_data)) 2 sources_levels fleet.listed, levels known_data 1 known_levels fleet.known)

rest_levels : (m : State) (slots : Option (List ℕ)) → depth (history_by (list_data pair_data (current_pairs m)) (shared_document_data m.problem m.plan.pairs m.plan.item_prices m.plan.bin_prices) (fleet_data m.fleet) (number_data m.round) slots) ≤ 6
rest_levels m None = omega (arith, levels pair_data 1 (λ q. omega arith) (current_pairs m), levels-shared_document_data m.problem m.plan.pairs m.plan.item_prices m.plan.bin_prices, fleet_levels m.fleet)
rest_levels m (Some slots) =
    omega (arith, levels pair_data 1 (λ q. omega arith) (current_pairs m), levels-shared_document_data m.problem m.plan.pairs m.plan.item_prices m.plan.bin_prices, fleet_levels m.fleet, numbers_levels slots)

history_levels : (m : State) → depth (history_data m) ≤ 6
history_levels m = rest_levels m (slots_said m.served.slots)

-- the members with both of the renewed state
abbrev with_both : State → Members → Members
with_both m ms = put (codes "report_rounds") (number_data m.report_rounds) (put (codes "history") (history_data m) ms)

renewed_levels : (m : State) (d r : Data) → depth d ≤ max_depth → with_history m d ≡ Some r → depth r ≤ max_depth
renewed_levels m null r h e = cc
renewed_levels m (boolean b) r h e = cc
renewed_levels m (number n) r h e = cc
renewed_levels m (string s) r h e = cc
renewed_levels m (array ds) r h e = cc
renewed_levels m (object ms) r h e =
    let inside : members_depth ms ≤ 126 = omega (arith, h) in
    let low : depth (history_data m) ≤ 126 = omega (arith, history_levels m) in
    let told : members_depth (put (codes "history") (history_data m) ms) ≤ 126 = put_levels 126 (codes "history") (history_data m) ms low inside in
    let deep : members_depth (with_both m ms) ≤ 126 = put_levels 126 (codes "report_rounds") (number_data m.report_rounds) (put (codes "history") (history_data m) ms) (omega arith) told in
    subst (λ (x : Data). depth x ≤ max_depth) (ap (λ (o : Option Data). unwrap_or o null) e) (omega (arith, deep))

-- ---- as a value

pub put_form :
    (value : Value) (old new : BTreeMap (String Global) Value) (m : State) → value ≡ Object old
    → members_view new.entries ≡ put (codes "report_rounds") (number_data m.report_rounds) (put (codes "history") (history_data m) (members_view old.entries)) → Some (view (Object new)) ≡ with_history m (view value)
put_form value old new m is both = ap Some (view-Object new ∙ ap object both) ∙ sym (ap (with_history m) (ap view is ∙ view-Object old))

-- ---- what it opens

said_put : (name : List ℕ) (d : Data) (ms : Members) → (codes "scrape_configs" ≡ name → ⊥) → config_said (object (put name d ms)) ≡ config_said (object ms)
unfolding config_said
said_put name d ms other = rw (get_member-put_other (codes "scrape_configs") name d ms other) refl

said_same : (m : State) (ms : Members) → config_said (object (with_both m ms)) ≡ config_said (object ms)
said_same m ms =
    said_put (codes "report_rounds") (number_data m.report_rounds) (put (codes "history") (history_data m) ms) (λ e. omega (arith, ap length e)) ∙ said_put (codes "history") (history_data m) ms (λ e. omega (arith, ap length e))

history_told : (m : State) (ms : Members) → get (codes "history") (object (with_both m ms)) ≡ Some (history_data m)
history_told m ms =
    get_member-put_other (codes "history") (codes "report_rounds") (number_data m.report_rounds) (put (codes "history") (history_data m) ms) (λ e. omega (arith, ap length e)) ∙ get_member-put (codes "history") (history_data m) ms

rounds_told : (m : State) (ms : Members) → get (codes "report_rounds") (object (with_both m ms)) ≡ Some (number_data m.report_rounds)
rounds_told m ms = get_member-put (codes "report_rounds") (number_data m.report_rounds) (put (codes "history") (history_data m) ms)

-- a number of rounds reads back
count_read : (n : ℕ) → IsCount n → rounds_or_one (Some (number_data n)) ≡ Some n
count_read n count =
    ap (λ (b : Bool). option_and_then counted (if b then Some n else None)) (lt-ltb n (2 ^ 32) (omega (arith, count.1)))
    ∙ (λ i. if le-leb 1 n count.0 i && le-leb n 64 count.1 i then Some n else None)

opened_with_history : (document : List ℕ) (m : State) (ms : Members) → IsCount m.report_rounds → json_of document ≡ Some (object ms) → opened_data (Some (object (with_both m ms))) ≡ goes_on m document
opened_with_history document m ms count before =
    (λ i. opened_parts (history_told m ms i) (rounds_told m ms i) (option_map specs_of (result_ok (said_same m ms i))))
    ∙ ap (λ (o : Option ℕ). option_and_then (λ js. opened_by o (opened_from (Some (history_data m)) js)) (option_map specs_of (result_ok (config_said (object ms))))) (count_read m.report_rounds count)
    ∙ ap (λ (o : Option Data). option_and_then (λ js. opened_by (Some m.report_rounds) (opened_from (Some (history_data m)) js)) (option_map specs_of (result_ok (ok_or o NotJson >>= config_said)))) (sym before)

opened_renewed : (document : List ℕ) (m : State) (d r : Data) → IsCount m.report_rounds → json_of document ≡ Some d → with_history m d ≡ Some r → opened_data (Some r) ≡ goes_on m document
opened_renewed document m null r count before e = cc
opened_renewed document m (boolean b) r count before e = cc
opened_renewed document m (number n) r count before e = cc
opened_renewed document m (string s) r count before e = cc
opened_renewed document m (array ds) r count before e = cc
opened_renewed document m (object ms) r count before e = ap opened_data (sym e) ∙ opened_with_history document m ms count before

pub renewed_opens : (line document : List ℕ) (m : State) (d r : Data) → IsCount m.report_rounds → json_of document ≡ Some d → with_history m d ≡ Some r → SaysMarked r line → opened line ≡ goes_on m document
renewed_opens line document m d r count before e says = says_opens line r (renewed_levels m d r (shallow document d before) e) says ∙ opened_renewed document m d r count before e

pub again_by : (m : State) (document : List ℕ) (said : Result State HistoryError) (jobs : List JobSpec) → said ≡ Ok (restored m.fleet (current_pairs m) (slots_of m.fleet (slots_said m.served.slots)) m.problem m.plan m.round 1) → jobs_in document ≡ Some jobs → same_jobs m.fleet.jobs jobs ≡ true
    → option_and_then (λ jobs. opened_by (Some m.report_rounds) (resumed_with jobs said)) (jobs_in document) ≡ Some (restored m.fleet (current_pairs m) (slots_of m.fleet (slots_said m.served.slots)) m.problem m.plan m.round m.report_rounds)
again_by m document said jobs reads jobs_are same =
    let read : State = restored m.fleet (current_pairs m) (slots_of m.fleet (slots_said m.served.slots)) m.problem m.plan m.round 1 in
    ap (λ (o : Option (List JobSpec)). option_and_then (λ js. opened_by (Some m.report_rounds) (resumed_with js said)) o) jobs_are ∙ ap (λ (s : Result State HistoryError). opened_by (Some m.report_rounds) (resumed_with jobs s)) reads
    ∙ ap (λ b. opened_by (Some m.report_rounds) (if b then Some read else None)) same

-- ---- what the line of a renewed state opens

rounds_last : (m : State) (jobs : List JobSpec) (report_rounds : ℕ) → with_rounds report_rounds (renewed m jobs 1) ≡ renewed m jobs report_rounds
unfolding renewed
rounds_last m jobs report_rounds = refl

same_fleet : (m : State) (jobs : List JobSpec) (report_rounds : ℕ) → (renewed m jobs report_rounds).fleet ≡ (renewed m jobs 1).fleet
unfolding renewed
same_fleet m jobs report_rounds = refl

resumed_as : (n : State) (report_rounds : ℕ) (said : Result State HistoryError) (found : Option (List JobSpec)) → said ≡ Ok n → option_map_or (same_jobs n.fleet.jobs) found false ≡ true
    → option_and_then (λ jobs. opened_by (Some report_rounds) (resumed_with jobs said)) found ≡ Some (with_rounds report_rounds n)
resumed_as n report_rounds said None reads has = cc
resumed_as n report_rounds said (Some jobs) reads has =
    ap (λ (s : Result State HistoryError). opened_by (Some report_rounds) (resumed_with jobs s)) reads ∙ ap (λ b. opened_by (Some report_rounds) (if b then Some n else None)) has

pub renewed_goes_on :
    RenewedReadBack → (document : List ℕ) (m before : State) (jobs : List JobSpec) → has_jobs m.fleet.jobs document ≡ true → ReadsBack m (history_in (history_data m)) → AllPairs (λ (a b : ℕ × ℕ). a.0 < b.0) (current_pairs before)
    → m ≡ renewed before jobs m.report_rounds → goes_on m document ≡ Some m
renewed_goes_on back document m before jobs has reads ascending is =
    let n : State = renewed before jobs 1 in
    let said : Result State HistoryError = history_in (history_data m) in
    let one : said ≡ Ok n = back before jobs m.report_rounds said ascending (subst (λ (x : State). ReadsBack x said) is reads) in
    let fleet : m.fleet ≡ n.fleet = ap (λ (x : State). x.fleet) is ∙ same_fleet before jobs m.report_rounds in
    let own : has_jobs n.fleet.jobs document ≡ true = subst (λ (x : FleetState). has_jobs x.jobs document ≡ true) fleet has in
    resumed_as n m.report_rounds said (jobs_in document) one own ∙ ap (λ (x : State). Some x) (rounds_last before jobs m.report_rounds ∙ sym is)
