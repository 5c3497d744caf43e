-- The form in which a document is written: it has no float and few levels, so its text is known and reads back.
use Rattle.std.proofs.Common.{◌≡◌, ◌+◌, ◌≤◌, ℕ, Bool, true, false, List, Some, Result, Ok, Err, Vec, Global, IfOk, IsUtf8, map, refl, sym, ap, subst, ◌∙◌, arith}
use Rattle.std.proofs.lemmas.Bool.{or_from}
use Rattle.std.specs.declared.alloc.AllocError.{AllocError}
use Rattle.serde_json.specs.Data.{Data, depth}
use Rattle.serde_json.specs.Read.{read, max_depth}
use Rattle.serde_json.specs.Written.{has_float, compact_text}
use Rattle.json_values.proofs.Lists.{no_float, levels}
use Rattle.json_values.proofs.Texts.{json_of-text}
use Rattle.price_certificate.specs.Problem.{Problem, row_of}
use Rattle.price_certificate.specs.Reach.{reach_data, sharing_of}
use Rattle.price_certificate.specs.declared.version.Version.{Version}
use Rattle.price_certificate.specs.declared.version.Version.TheVariants.{One, Two}
use Rattle.json_values.specs.Spelling.{number_data, pair_data, list_data}
use Rattle.price_certificate.specs.Document.{pairs_from, marked_from, object_of, data_by, document_data, shared_document_data, SpellsInstance, SpellsPlan, IsDocument}

no_float_by : (version : Version) (before bin_prices bins draining item_prices pairs reach : Data) → has_float before ≡ false → has_float bin_prices ≡ false → has_float bins ≡ false → has_float draining ≡ false → has_float item_prices ≡ false → has_float pairs ≡ false → has_float reach ≡ false → has_float (object_of version before bin_prices bins draining item_prices pairs reach) ≡ false
no_float_by One before bin_prices bins draining item_prices pairs reach a b c d e f g = or_from _ _ a (or_from _ _ b (or_from _ _ c (or_from _ _ e (or_from _ _ f (or_from _ _ g refl)))))
no_float_by Two before bin_prices bins draining item_prices pairs reach a b c d e f g = or_from _ _ a (or_from _ _ b (or_from _ _ c (or_from _ _ d (or_from _ _ e (or_from _ _ f (or_from _ _ g refl))))))

levels_by : (version : Version) (before bin_prices bins draining item_prices pairs reach : Data) (n : ℕ) → depth before ≤ n → depth bin_prices ≤ n → depth bins ≤ n → depth draining ≤ n → depth item_prices ≤ n → depth pairs ≤ n → depth reach ≤ n → depth (object_of version before bin_prices bins draining item_prices pairs reach) ≤ n + 1
levels_by One before bin_prices bins draining item_prices pairs reach n a b c d e f g = omega (arith, a, b, c, e, f, g)
levels_by Two before bin_prices bins draining item_prices pairs reach n a b c d e f g = omega (arith, a, b, c, d, e, f, g)

reach_no_float : (shares : Bool) (p : Problem) → has_float (reach_data shares p) ≡ false
reach_no_float false p = no_float (list_data number_data) (no_float number_data (λ n. refl)) p.rows
reach_no_float true p =
    let numbers = no_float number_data (λ n. refl) in
    or_from _ _ (numbers (sharing_of p).list_of) (or_from _ _ (no_float (list_data number_data) numbers (map (row_of p) (sharing_of p).firsts)) refl)

has_float-data : (shares : Bool) (p : Problem) (pairs : List (ℕ × ℕ)) (item_prices bin_prices : List ℕ) → has_float (data_by shares p pairs item_prices bin_prices) ≡ false
has_float-data shares p pairs item_prices bin_prices =
    let numbers = no_float number_data (λ n. refl) in
    let both = no_float pair_data (λ q. refl) in
    no_float_by p.version _ _ _ _ _ _ _ (both (pairs_from 0 p.before)) (numbers bin_prices) (numbers p.limits) (numbers (marked_from 0 p.draining)) (numbers item_prices) (both pairs) (reach_no_float shares p)

pub has_float-shared_document_data : (p : Problem) (pairs : List (ℕ × ℕ)) (item_prices bin_prices : List ℕ) → has_float (shared_document_data p pairs item_prices bin_prices) ≡ false
has_float-shared_document_data p pairs item_prices bin_prices = has_float-data true p pairs item_prices bin_prices

pub has_float-document_data : (p : Problem) (pairs : List (ℕ × ℕ)) (item_prices bin_prices : List ℕ) → has_float (document_data p pairs item_prices bin_prices) ≡ false
has_float-document_data p pairs item_prices bin_prices = has_float-data false p pairs item_prices bin_prices

rows_levels : (rows : List (List ℕ)) → depth (list_data (list_data number_data) rows) ≤ 2
rows_levels rows = omega (arith, levels (list_data number_data) 1 (λ row. omega (arith, levels number_data 0 (λ n. omega arith) row)) rows)

reach_levels : (shares : Bool) (p : Problem) → depth (reach_data shares p) ≤ 3
reach_levels false p = omega (arith, rows_levels p.rows)
reach_levels true p = omega (arith, levels number_data 0 (λ n. omega arith) (sharing_of p).list_of, rows_levels (map (row_of p) (sharing_of p).firsts))

levels-data : (shares : Bool) (p : Problem) (pairs : List (ℕ × ℕ)) (item_prices bin_prices : List ℕ) → depth (data_by shares p pairs item_prices bin_prices) ≤ 4
levels-data shares p pairs item_prices bin_prices =
    let numbers = levels number_data 0 (λ n. omega arith) in
    let both = levels pair_data 1 (λ q. omega arith) in
    let low = λ (xs : List ℕ). (let r : depth (list_data number_data xs) ≤ 3 = omega (arith, numbers xs) in r) in
    let two = λ (qs : List (ℕ × ℕ)). (let r : depth (list_data pair_data qs) ≤ 3 = omega (arith, both qs) in r) in
    let most = levels_by p.version (list_data pair_data (pairs_from 0 p.before)) (list_data number_data bin_prices) (list_data number_data p.limits) (list_data number_data (marked_from 0 p.draining)) (list_data number_data item_prices) (list_data pair_data pairs) (reach_data shares p) 3 (two (pairs_from 0 p.before)) (low bin_prices) (low p.limits) (low (marked_from 0 p.draining)) (low item_prices) (two pairs) (reach_levels shares p) in
    omega (arith, most)

pub levels-shared_document_data : (p : Problem) (pairs : List (ℕ × ℕ)) (item_prices bin_prices : List ℕ) → depth (shared_document_data p pairs item_prices bin_prices) ≤ 4
levels-shared_document_data p pairs item_prices bin_prices = levels-data true p pairs item_prices bin_prices

pub levels-document_data : (p : Problem) (pairs : List (ℕ × ℕ)) (item_prices bin_prices : List ℕ) → depth (document_data p pairs item_prices bin_prices) ≤ 3
levels-document_data p pairs item_prices bin_prices =
    let numbers = levels number_data 0 (λ n. omega arith) in
    let both = levels pair_data 1 (λ q. omega arith) in
    let low = λ (xs : List ℕ). (let r : depth (list_data number_data xs) ≤ 2 = omega (arith, numbers xs) in r) in
    let two = λ (qs : List (ℕ × ℕ)). (let r : depth (list_data pair_data qs) ≤ 2 = omega (arith, both qs) in r) in
    let table = rows_levels p.rows in
    let most = levels_by p.version (list_data pair_data (pairs_from 0 p.before)) (list_data number_data bin_prices) (list_data number_data p.limits) (list_data number_data (marked_from 0 p.draining)) (list_data number_data item_prices) (list_data pair_data pairs) (list_data (list_data number_data) p.rows) 2 (two (pairs_from 0 p.before)) (low bin_prices) (low p.limits) (low (marked_from 0 p.draining)) (low item_prices) (two pairs) table in
    omega (arith, most)

pub depth-document_data : (p : Problem) (pairs : List (ℕ × ℕ)) (item_prices bin_prices : List ℕ) → depth (document_data p pairs item_prices bin_prices) ≤ max_depth
depth-document_data p pairs item_prices bin_prices = omega (arith, levels-document_data p pairs item_prices bin_prices)

-- the text of what has the form
pub text_of_form : (b : List ℕ) (p : Problem) (pairs : List (ℕ × ℕ)) (item_prices bin_prices : List ℕ) (d : Data) → d ≡ document_data p pairs item_prices bin_prices → (has_float d ≡ false → b ≡ compact_text d) → b ≡ compact_text (document_data p pairs item_prices bin_prices)
text_of_form b p pairs item_prices bin_prices d form text = text (ap has_float form ∙ has_float-document_data p pairs item_prices bin_prices) ∙ ap compact_text form

pub is_document : (r : Result (Vec ℕ Global) AllocError) (p : Problem) (pairs : List (ℕ × ℕ)) (item_prices bin_prices : List ℕ) (d : Data) → d ≡ document_data p pairs item_prices bin_prices → SpellsInstance d p → SpellsPlan d pairs item_prices bin_prices → IfOk r (λ b. IsUtf8 b.items) → IfOk r (λ b. depth d ≤ max_depth → read b.items ≡ Some d) → IfOk r (λ b. IsDocument b.items p pairs item_prices bin_prices)
is_document (Ok b) p pairs item_prices bin_prices d form instance plan utf8 back =
    let shallow : depth d ≤ max_depth = subst (λ (e : Data). depth e ≤ max_depth) (sym form) (depth-document_data p pairs item_prices bin_prices) in
    record { says = d; json = json_of-text b.items d utf8 (back shallow); instance = instance; plan = plan }
is_document (Err e) p pairs item_prices bin_prices d form instance plan utf8 back = tt
