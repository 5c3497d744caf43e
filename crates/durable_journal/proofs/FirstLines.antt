-- The first line of a journal that is written in pieces: what it opens, how it begins, and what then stands in the file.
use Rattle.std.proofs.Common.{◌≡◌, ℕ, ◌+◌, true, List, [], ◌∷◌, ◌++◌, length, Option, Some, None, IfSome, Result, Ok, Err, IfOk, refl, sym, ap, subst, ◌∙◌, arith, append_assoc, append-nil, length-append}
use Rattle.std.specs.Prelude.{option_and_then, option_map, codes, nat_eq, if◌then◌else◌}
use Rattle.std.specs.Io.Buffered.{writer_contents}
use Rattle.std.specs.Io.Iter.{u64_saturate}
use Rattle.std.specs.Io.KnownBytes.{Appends, append_known}
use Rattle.std.specs.List.{starts_with}
use Rattle.json.specs.Json as json
use Rattle.json.specs.Print.{escape_byte, print, print_from}
use Rattle.json.specs.Tree.{json_tokens}
use Rattle.serde_json.specs.Data.{Data, Members, no_members, member, null, boolean, number, string, array, object, put}
use Rattle.serde_json.specs.Written.{blank, members_outline, outline}
use Rattle.json_values.specs.Texts.{json_of}
use Rattle.json_pieces.specs.Texts.{IsTextOf}
use Rattle.allocation_core.specs.State.{IsCount, State}
use Rattle.core_history.specs.History.{ReadsBack, history_data, history_in}
use Rattle.core_history.specs.Laws.{RenewedReadBack}
use Rattle.replay_lines.specs.Configurations.{opened}
use Rattle.sealed_lines.specs.Chains.{behind, seal, sealed, start}
use Rattle.sealed_lines.specs.Running.{Digests, EndsAs}
use Rattle.durable_journal.specs.Beginnings.{BeginsMarked, IsBegun, Opens, OpensRenewed, OpensWhole, value_of}
use Rattle.durable_journal.specs.Configured.{goes_on, has_jobs, renewed_value, with_history}
use Rattle.durable_journal.specs.Marks.{SaysMarked, mark_data, mark_name, mark_text, marked}
use Rattle.durable_journal.specs.Pieces.{Grows, appends_join}
use Rattle.durable_journal.specs.declared.beginning.Begun.{Begun}
use Rattle.durable_journal.specs.declared.beginning.FirstLine.{FirstLine}
use Rattle.durable_journal.specs.declared.sealing.Sealing.{Sealing}
use Rattle.durable_journal.proofs.Histories.{again_by, renewed_goes_on, renewed_opens}
use Rattle.durable_journal.proofs.Marked.{marked_levels, says_opens}
use Rattle.durable_journal.proofs.Opening.{opened_as, opened_data, shallow}

-- ---- how it begins

-- the mark comes first
mark_first : (ms : Members) → (rest : Members) × (put mark_name mark_data ms ≡ member mark_name mark_data rest)
mark_first no_members = (no_members, refl)
mark_first (member [] d ms) = (ms, refl)
mark_first (member (c ∷ cs) d ms) = (member (c ∷ cs) d ms, refl)

printed_begins : (k s : List ℕ) (ms : json.Members) → k ≡ mark_name → s ≡ codes "allocd journal" → starts_with nat_eq (print (json_tokens (json.object (json.member k (json.string s) ms)))) mark_text ≡ true
unfolding escape_byte print_from
printed_begins k s ms named said = rw (named, said) refl

string_begins : (k : List ℕ) (j : json.Json) (ms : json.Members) → k ≡ mark_name → blank j ≡ json.string (codes "allocd journal") → starts_with nat_eq (print (json_tokens (json.object (json.member k j ms)))) mark_text ≡ true
string_begins k json.null ms named same = cc
string_begins k (json.boolean b) ms named same = cc
string_begins k (json.number s) ms named same = cc
string_begins k (json.string s) ms named same = let said : s ≡ codes "allocd journal" = cc in printed_begins k s ms named said
string_begins k (json.array js) ms named same = cc
string_begins k (json.object inner) ms named same = cc

tree_begins : (j : json.Json) (rest : json.Members) → blank j ≡ json.object (json.member mark_name (json.string (codes "allocd journal")) rest) → starts_with nat_eq (print (json_tokens j)) mark_text ≡ true
tree_begins json.null rest same = cc
tree_begins (json.boolean b) rest same = cc
tree_begins (json.number s) rest same = cc
tree_begins (json.string s) rest same = cc
tree_begins (json.array js) rest same = cc
tree_begins (json.object json.no_members) rest same = cc
tree_begins (json.object (json.member k j ms)) rest same =
    let named : k ≡ mark_name = cc in
    let said : blank j ≡ json.string (codes "allocd journal") = cc in
    string_begins k j ms named said

text_begins : (d m : Data) (line : List ℕ) → marked d ≡ Some m → IsTextOf m line → starts_with nat_eq line mark_text ≡ true
text_begins null m line is text = cc
text_begins (boolean b) m line is text = cc
text_begins (number n) m line is text = cc
text_begins (string s) m line is text = cc
text_begins (array ds) m line is text = cc
text_begins (object ms) m line is text =
    let first = mark_first ms in
    let same : object (put mark_name mark_data ms) ≡ m = cc in
    let whole : line ≡ print (json_tokens text.order.0) = text.compact ∙ ap print text.order.1 in
    ap (λ (t : List ℕ). starts_with nat_eq t mark_text) whole
    ∙ tree_begins text.order.0 (members_outline first.0) (text.order.2 ∙ ap outline (sym same) ∙ ap (λ (x : Members). outline (object x)) first.1)

-- ---- what it opens

parts : {A B : Type 0} (f : A → Option B) (o : Option A) (r : B) → option_and_then f o ≡ Some r → (x : A) × (o ≡ Some x) × (f x ≡ Some r)
parts f None r e = cc
parts f (Some x) r e = (x, refl, e)

firsts : {E : Type 0} (r : Result (Option FirstLine) E) (o : Option Data) (P : FirstLine → Type 0) → ((first : FirstLine) → o ≡ Some (value_of first) → P first) → IfOk r (λ x. option_map value_of x ≡ o) → IfOk r (λ x. IfSome x P)
firsts (Err e) o P f given = tt
firsts (Ok None) o P f given = tt
firsts (Ok (Some first)) o P f given = f first (sym given)

says_marked : (d m : Data) (line : List ℕ) → marked d ≡ Some m → IsTextOf m line → SaysMarked d line
says_marked d m line is text = record { value = m; is = is; says = λ low. text.reads_back (marked_levels d m is low) }

pub first_begins : {E : Type 0} (r : Result (Option FirstLine) E) (o : Option Data) → IfOk r (λ x. option_map value_of x ≡ option_and_then marked o) → IfOk r (λ x. IfSome x BeginsMarked)
first_begins r o given = firsts r (option_and_then marked o) BeginsMarked (λ first is line text. let p = parts marked o (value_of first) is in text_begins p.0 (value_of first) line p.2 text) given

pub configured_opens : {E : Type 0} (document : List ℕ) (r : Result (Option FirstLine) E) → IfOk r (λ x. option_map value_of x ≡ option_and_then marked (json_of document)) → IfOk r (λ x. IfSome x (Opens (opened document)))
configured_opens document r given =
    firsts r (option_and_then marked (json_of document)) (Opens (opened document))
    (λ first is line text.
    let p = parts marked (json_of document) (value_of first) is in
    says_opens line p.0 (shallow document p.0 p.1) (says_marked p.0 (value_of first) line p.2 text) ∙ ap opened_data (sym p.1) ∙ sym (opened_as document))
    given

renewed_line_opens : (document : List ℕ) (m : State) (first : FirstLine) → IsCount m.report_rounds → option_and_then marked (option_and_then (with_history m) (json_of document)) ≡ Some (value_of first) → Opens (goes_on m document) first
renewed_line_opens document m first count is line text =
    let p = parts marked (option_and_then (with_history m) (json_of document)) (value_of first) is in
    let q = parts (with_history m) (json_of document) p.0 p.1 in
    renewed_opens line document m q.0 p.0 count q.1 q.2 (says_marked p.0 (value_of first) line p.2 text)

pub renewed_first_opens : {E : Type 0} (document : List ℕ) (m : State) (r : Result (Option FirstLine) E) → IsCount m.report_rounds → IfOk r (λ x. option_map value_of x ≡ option_and_then marked (option_and_then (with_history m) (json_of document))) → IfOk r (λ x. IfSome x (Opens (goes_on m document)))
renewed_first_opens document m r count given = firsts r _ (Opens (goes_on m document)) (λ first is. renewed_line_opens document m first count is) given

pub renewed_first_again : {E : Type 0} (document : List ℕ) (m : State) (r : Result (Option FirstLine) E) → IsCount m.report_rounds → IfOk r (λ x. option_map value_of x ≡ option_and_then marked (option_and_then (with_history m) (json_of document)))
    → IfOk r (λ x. IfSome x (λ first. ReadsBack m (history_in (history_data m)))) → IfOk r (λ x. IfSome x (OpensWhole m document))
renewed_first_again document m (Err e) count given reads = tt
renewed_first_again document m (Ok None) count given reads = tt
renewed_first_again document m (Ok (Some first)) count given reads =
    λ line text jobs good jobs_are same. renewed_line_opens document m first count (sym given) line text ∙ again_by m document (history_in (history_data m)) jobs (reads good) jobs_are same

pub renewed_first_whole :
    {E : Type 0} (document : List ℕ) (m : State) (r : Result (Option FirstLine) E) → RenewedReadBack → has_jobs m.fleet.jobs document ≡ true → IsCount m.report_rounds → IfOk r (λ x. option_map value_of x ≡ option_and_then marked (option_and_then (with_history m) (json_of document)))
    → IfOk r (λ x. IfSome x (λ first. ReadsBack m (history_in (history_data m)))) → IfOk r (λ x. IfSome x (OpensRenewed m))
renewed_first_whole document m (Err e) back has count given reads = tt
renewed_first_whole document m (Ok None) back has count given reads = tt
renewed_first_whole document m (Ok (Some first)) back has count given reads =
    λ before jobs ascending is line text. renewed_line_opens document m first count (sym given) line text ∙ renewed_goes_on back document m before jobs has reads ascending is

-- the value, where the jobs of the document are the state's
pub renewed_given :
    {E : Type 0} (document : List ℕ) (m : State) (r : Result (Option FirstLine) E) → has_jobs m.fleet.jobs document ≡ true → IfOk r (λ x. option_map value_of x ≡ option_and_then marked (option_and_then (with_history m) (json_of document)))
    → IfOk r (λ x. option_map value_of x ≡ renewed_value m document)
renewed_given document m r has given =
    subst (λ (v : Option Data). IfOk r (λ x. option_map value_of x ≡ v)) (sym (ap (λ b. if b then option_and_then marked (option_and_then (with_history m) (json_of document)) else None) has)) given

-- ---- what stands in the file

appends_from : (known c : Option (List ℕ)) (text : List ℕ) → Appends (append_known known []) c text → Appends known c text
appends_from None c text h = tt
appends_from (Some x) None text h = absurd h
appends_from (Some x) (Some z) text h = h ∙ ap (λ (w : List ℕ). w ++ text) (append-nil x)

begun_with : {F : Type 0} (contents : F → Option (List ℕ)) (first : FirstLine) (old : F) (a b : Sealing F) (end : Begun F) (text : List ℕ) → writer_contents contents a.file ≡ append_known (contents old) [] → Digests a.digest start []
    → a.bytes ≡ 0 → Grows contents a b text → IsTextOf (value_of first) text → EndsAs b.digest end.chain → Appends (writer_contents contents b.file) (contents end.file) (seal end.chain ++ 10 ∷ [])
    → end.bytes ≡ u64_saturate (b.bytes + length (seal end.chain ++ 10 ∷ [])) → IsBegun contents first old end
begun_with contents first old a b end text is none zero grows says ends more count =
    let last : end.chain ≡ behind start text = ends start text (grows.digest start [] none) in
    let whole : text ++ (seal end.chain ++ 10 ∷ []) ≡ sealed start (text ∷ []) = ap (λ c. text ++ (seal c ++ 10 ∷ [])) last ∙ sym (append_assoc text (seal (behind start text)) (10 ∷ [])) in
    let joined : Appends (writer_contents contents a.file) (contents end.file) (text ++ (seal end.chain ++ 10 ∷ [])) = appends_join (writer_contents contents a.file) (writer_contents contents b.file) (contents end.file) text (seal end.chain ++ 10 ∷ []) grows.file more in
    let moved : Appends (append_known (contents old) []) (contents end.file) (sealed start (text ∷ [])) = subst (λ k. Appends k (contents end.file) (sealed start (text ∷ []))) is (subst (Appends (writer_contents contents a.file) (contents end.file)) whole joined) in
    record {
      line = text;
      says = says;
      form = appends_from (contents old) (contents end.file) (sealed start (text ∷ [])) moved;
      chain = last;
      bytes = omega (arith, count, grows.bytes, zero, ap length whole, length-append text (seal end.chain ++ 10 ∷ []));
    }

pub begun : {F E : Type 0} (contents : F → Option (List ℕ)) (first : FirstLine) (old : F) (a b : Sealing F) (r : Result (Begun F) E) (text : List ℕ) → writer_contents contents a.file ≡ append_known (contents old) [] → Digests a.digest start []
    → a.bytes ≡ 0 → Grows contents a b text → IsTextOf (value_of first) text → IfOk r (λ e. EndsAs b.digest e.chain) → IfOk r (λ e. Appends (writer_contents contents b.file) (contents e.file) (seal e.chain ++ 10 ∷ []))
    → IfOk r (λ e. e.bytes ≡ u64_saturate (b.bytes + length (seal e.chain ++ 10 ∷ []))) → IfOk r (IsBegun contents first old)
begun contents first old a b (Err e) text is none zero grows says ends more count = tt
begun contents first old a b (Ok end) text is none zero grows says ends more count = begun_with contents first old a b end text is none zero grows says ends more count
