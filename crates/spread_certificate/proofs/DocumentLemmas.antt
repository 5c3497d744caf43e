-- What is written of an instance and a spread has no float and few levels, so its text is known and reads back.
use Rattle.std.proofs.Common.{◌≡◌, ◌+◌, ◌≤◌, ℕ, false, List, Option, Some, None, option_map, option_and_then, Result, Ok, Err, Vec, Global, IfOk, IsUtf8, refl, sym, ap, subst, ◌∙◌, arith, codes}
use Rattle.std.proofs.lemmas.Bool.{or_from}
use Rattle.std.specs.declared.alloc.AllocError.{AllocError}
use Rattle.serde_json.specs.Data.{Data, depth}
use Rattle.serde_json.specs.Find.{get}
use Rattle.serde_json.specs.Read.{read, max_depth}
use Rattle.serde_json.specs.Written.{has_float, compact_text}
use Rattle.json_values.specs.Spelling.{number_data, pair_data, list_data}
use Rattle.json_values.specs.Texts.{ReadsAs}
use Rattle.json_values.proofs.Lists.{no_float, levels}
use Rattle.json_values.proofs.Texts.{json_of-text}
use Rattle.price_certificate.specs.Problem.{Problem}
use Rattle.price_certificate.specs.Instances.{problem_in}
use Rattle.price_certificate.specs.Plan.{plan_of, plan_in}
use Rattle.price_certificate.specs.Document.{pairs_from, marked_from, object_of, document_data, SpellsPlan, IsDocument}
use Rattle.price_certificate.specs.declared.plan.Plan.{Plan}
use Rattle.price_certificate.specs.declared.version.Version.{Version}
use Rattle.price_certificate.specs.declared.version.Version.TheVariants.{One, Two}
use Rattle.price_certificate.proofs.InstanceLemmas.{in_spelled}
use Rattle.spread_certificate.specs.Document.{certificate_by, certificate_in, spread_in, even_object, spread_object, spread_data, with_spread, spread_document_data, IsCertificateDocument}
use Rattle.spread_certificate.specs.declared.even.Even.{Even}
use Rattle.spread_certificate.specs.declared.spread.Spread.{Spread}
use Rattle.spread_certificate.specs.declared.certificate.Certificate.{Certificate}
use Rattle.spread_certificate.specs.declared.certificate.Certificate.TheVariants as certificate

-- ---- a text says one value

one_value : (bytes : List ℕ) (d e : Data) → ReadsAs bytes d → ReadsAs bytes e → d ≡ e
one_value bytes d e h k = cc

some_same : {A : Type 0} (o : Option A) (x y : A) → o ≡ Some x → o ≡ Some y → x ≡ y
some_same o x y e f = cc

not_both : {A : Type 0} (o : Option A) (x : A) → o ≡ None → o ≡ Some x → ⊥
not_both o x e f = cc

pub no_certificate : (bytes : List ℕ) (d : Data) (p : Problem) (said : Certificate) → ReadsAs bytes d → certificate_in d ≡ None → IsCertificateDocument bytes p said → ⊥
no_certificate bytes d p said h none document =
    not_both (certificate_in d) said none (subst (λ (e : Data). certificate_in e ≡ Some said) (one_value bytes document.says d document.json h) document.certificate)

pub no_instance : (bytes : List ℕ) (d : Data) (p : Problem) (said : Certificate) → ReadsAs bytes d → problem_in d ≡ None → IsCertificateDocument bytes p said → ⊥
no_instance bytes d p said h none document =
    not_both (problem_in d) p none (subst (λ (e : Data). problem_in e ≡ Some p) (one_value bytes document.says d document.json h) document.instance)

pub one_certificate : (bytes : List ℕ) (p q : Problem) (one other : Certificate) → IsCertificateDocument bytes p one → IsCertificateDocument bytes q other → (p ≡ q) × (one ≡ other)
one_certificate bytes p q one other h k =
    let same = one_value bytes k.says h.says k.json h.json in
    (some_same (problem_in h.says) p q h.instance (subst (λ (d : Data). problem_in d ≡ Some q) same k.instance), some_same (certificate_in h.says) one other h.certificate (subst (λ (d : Data). certificate_in d ≡ Some other) same k.certificate))

-- ---- a plan

spelled_by : (o : Option (List (ℕ × ℕ))) (p q : Option (List ℕ)) (plan : Plan) → option_and_then (λ pairs. option_and_then (λ item_prices. option_map (plan_of pairs item_prices) q) p) o ≡ Some plan → (o ≡ Some plan.pairs) × (p ≡ Some plan.item_prices) × (q ≡ Some plan.bin_prices)
spelled_by None p q plan e = cc
spelled_by (Some pairs) None q plan e = cc
spelled_by (Some pairs) (Some item_prices) None plan e = cc
spelled_by (Some pairs) (Some item_prices) (Some bin_prices) plan e =
    let same : plan_of pairs item_prices bin_prices ≡ plan = cc in
    (ap (λ (x : Plan). Some x.pairs) same, ap (λ (x : Plan). Some x.item_prices) same, ap (λ (x : Plan). Some x.bin_prices) same)

spelled_plan : (d : Data) (plan : Plan) → plan_in d ≡ Some plan → SpellsPlan d plan.pairs plan.item_prices plan.bin_prices
unfolding plan_in
spelled_plan d plan e =
    let parts = spelled_by _ _ _ plan e in
    record { pairs = parts.0; item_prices = parts.1; bin_prices = parts.2 }

no_plan : (o : Option Spread) (plan : Plan) → option_map certificate.Spread o ≡ Some (certificate.Plan plan) → ⊥
no_plan None plan e = cc
no_plan (Some spread) plan e = cc

plan_by : (d : Data) (o : Option Plan) (found : Option Data) (plan : Plan) → option_and_then (λ p. certificate_by p found) o ≡ Some (certificate.Plan plan) → o ≡ Some plan
plan_by d None found plan e = cc
plan_by d (Some p) None plan e = (let same : p ≡ plan = cc in ap (λ (x : Plan). Some x) same)
plan_by d (Some p) (Some s) plan e = absurd (no_plan (spread_in p s) plan e)

pub plan_documents_stay : (bytes : List ℕ) (p : Problem) (plan : Plan) → IsCertificateDocument bytes p (certificate.Plan plan) → IsDocument bytes p plan.pairs plan.item_prices plan.bin_prices
unfolding certificate_in
plan_documents_stay bytes p plan h = record {
  says = h.says;
  json = h.json;
  instance = in_spelled h.says p h.instance;
  plan = spelled_plan h.says plan (plan_by h.says (plan_in h.says) (get (codes "spread") h.says) plan h.certificate);
}

-- ---- the form

abbrev numbers_of : List ℕ → Data
numbers_of xs = list_data number_data xs

abbrev both_of : List (ℕ × ℕ) → Data
both_of qs = list_data pair_data qs

numbers_no_float : (xs : List ℕ) → has_float (numbers_of xs) ≡ false
numbers_no_float = no_float number_data (λ n. refl)

both_no_float : (qs : List (ℕ × ℕ)) → has_float (both_of qs) ≡ false
both_no_float = no_float pair_data (λ q. refl)

even_no_float : (even : Even) (witness : Option (List (ℕ × ℕ))) → has_float (even_object even witness) ≡ false
even_no_float even None = or_from _ _ (numbers_no_float even.bin_prices) (or_from _ _ (numbers_no_float even.item_prices) (or_from _ _ (numbers_no_float even.levels) refl))
even_no_float even (Some pairs) = or_from _ _ (numbers_no_float even.bin_prices) (or_from _ _ (numbers_no_float even.item_prices) (or_from _ _ (numbers_no_float even.levels) (or_from _ _ (both_no_float pairs) refl)))

spread_no_float : (spread : Spread) (told : Option Even) → has_float (spread_object spread told) ≡ false
spread_no_float spread None = or_from _ _ (numbers_no_float spread.caps) (or_from _ _ (numbers_no_float spread.free_bin_prices) (or_from _ _ (numbers_no_float spread.free_item_prices) refl))
spread_no_float spread (Some even) = or_from _ _ (numbers_no_float spread.caps) (or_from _ _ (even_no_float even even.witness) (or_from _ _ (numbers_no_float spread.free_bin_prices) (or_from _ _ (numbers_no_float spread.free_item_prices) refl)))

no_float_by : (version : Version) (x before bin_prices bins draining item_prices pairs reach : Data) → has_float x ≡ false → has_float before ≡ false → has_float bin_prices ≡ false → has_float bins ≡ false → has_float draining ≡ false → has_float item_prices ≡ false → has_float pairs ≡ false → has_float reach ≡ false → has_float (with_spread x (object_of version before bin_prices bins draining item_prices pairs reach)) ≡ false
no_float_by One x before bin_prices bins draining item_prices pairs reach h a b c d e f g = or_from _ _ a (or_from _ _ b (or_from _ _ c (or_from _ _ e (or_from _ _ f (or_from _ _ g (or_from _ _ h refl))))))
no_float_by Two x before bin_prices bins draining item_prices pairs reach h a b c d e f g = or_from _ _ a (or_from _ _ b (or_from _ _ c (or_from _ _ d (or_from _ _ e (or_from _ _ f (or_from _ _ g (or_from _ _ h refl)))))))

document_no_float : (p : Problem) (spread : Spread) → has_float (spread_document_data p spread) ≡ false
document_no_float p spread =
    no_float_by p.version _ _ _ _ _ _ _ _ (spread_no_float spread spread.even) (both_no_float (pairs_from 0 p.before)) (numbers_no_float spread.plan.bin_prices) (numbers_no_float p.limits) (numbers_no_float (marked_from 0 p.draining)) (numbers_no_float spread.plan.item_prices) (both_no_float spread.plan.pairs)
    (no_float (list_data number_data) numbers_no_float p.rows)

numbers_levels : (xs : List ℕ) → depth (numbers_of xs) ≤ 1
numbers_levels xs = omega (arith, levels number_data 0 (λ n. omega arith) xs)

both_levels : (qs : List (ℕ × ℕ)) → depth (both_of qs) ≤ 2
both_levels qs = omega (arith, levels pair_data 1 (λ q. omega arith) qs)

rows_levels : (rows : List (List ℕ)) → depth (list_data (list_data number_data) rows) ≤ 2
rows_levels rows = omega (arith, levels (list_data number_data) 1 numbers_levels rows)

even_levels : (even : Even) (witness : Option (List (ℕ × ℕ))) → depth (even_object even witness) ≤ 3
even_levels even None = omega (arith, numbers_levels even.bin_prices, numbers_levels even.item_prices, numbers_levels even.levels)
even_levels even (Some pairs) = omega (arith, numbers_levels even.bin_prices, numbers_levels even.item_prices, numbers_levels even.levels, both_levels pairs)

spread_levels : (spread : Spread) (told : Option Even) → depth (spread_object spread told) ≤ 4
spread_levels spread None = omega (arith, numbers_levels spread.caps, numbers_levels spread.free_bin_prices, numbers_levels spread.free_item_prices)
spread_levels spread (Some even) = omega (arith, numbers_levels spread.caps, even_levels even even.witness, numbers_levels spread.free_bin_prices, numbers_levels spread.free_item_prices)

levels_by : (version : Version) (x before bin_prices bins draining item_prices pairs reach : Data) (n : ℕ) → depth x ≤ n → depth before ≤ n → depth bin_prices ≤ n → depth bins ≤ n → depth draining ≤ n → depth item_prices ≤ n → depth pairs ≤ n → depth reach ≤ n → depth (with_spread x (object_of version before bin_prices bins draining item_prices pairs reach)) ≤ n + 1
levels_by One x before bin_prices bins draining item_prices pairs reach n h a b c d e f g = omega (arith, h, a, b, c, e, f, g)
levels_by Two x before bin_prices bins draining item_prices pairs reach n h a b c d e f g = omega (arith, h, a, b, c, d, e, f, g)

document_levels : (p : Problem) (spread : Spread) → depth (spread_document_data p spread) ≤ max_depth
document_levels p spread =
    let low = λ (xs : List ℕ). (let r : depth (numbers_of xs) ≤ 4 = omega (arith, numbers_levels xs) in r) in
    let two = λ (qs : List (ℕ × ℕ)). (let r : depth (both_of qs) ≤ 4 = omega (arith, both_levels qs) in r) in
    let table : depth (list_data (list_data number_data) p.rows) ≤ 4 = omega (arith, rows_levels p.rows) in
    let most = levels_by p.version (spread_data spread) (both_of (pairs_from 0 p.before)) (numbers_of spread.plan.bin_prices) (numbers_of p.limits) (numbers_of (marked_from 0 p.draining)) (numbers_of spread.plan.item_prices) (both_of spread.plan.pairs) (list_data (list_data number_data) p.rows) 4 (spread_levels spread spread.even) (two (pairs_from 0 p.before)) (low spread.plan.bin_prices) (low p.limits) (low (marked_from 0 p.draining)) (low spread.plan.item_prices) (two spread.plan.pairs) table in
    omega (arith, most)

-- ---- it reads back

same_instance : (version : Version) (x before bin_prices bins draining item_prices pairs reach : Data) → problem_in (with_spread x (object_of version before bin_prices bins draining item_prices pairs reach)) ≡ problem_in (object_of version before bin_prices bins draining item_prices pairs reach)
unfolding problem_in
same_instance One x before bin_prices bins draining item_prices pairs reach = refl
same_instance Two x before bin_prices bins draining item_prices pairs reach = refl

same_plan : (version : Version) (x before bin_prices bins draining item_prices pairs reach : Data) → plan_in (with_spread x (object_of version before bin_prices bins draining item_prices pairs reach)) ≡ plan_in (object_of version before bin_prices bins draining item_prices pairs reach)
unfolding plan_in
same_plan One x before bin_prices bins draining item_prices pairs reach = refl
same_plan Two x before bin_prices bins draining item_prices pairs reach = refl

spread_there : (version : Version) (x before bin_prices bins draining item_prices pairs reach : Data) → get (codes "spread") (with_spread x (object_of version before bin_prices bins draining item_prices pairs reach)) ≡ Some x
spread_there One x before bin_prices bins draining item_prices pairs reach = refl
spread_there Two x before bin_prices bins draining item_prices pairs reach = refl

pub instance_back : (p : Problem) (spread : Spread) → problem_in (document_data p spread.plan.pairs spread.plan.item_prices spread.plan.bin_prices) ≡ Some p → problem_in (spread_document_data p spread) ≡ Some p
instance_back p spread e = same_instance p.version (spread_data spread) _ _ _ _ _ _ _ ∙ e

found_by : (plan : Plan) (spread : Spread) (o : Option Plan) (found : Option Data) (x : Data) → o ≡ Some plan → found ≡ Some x → spread_in plan x ≡ Some spread → option_and_then (λ p. certificate_by p found) o ≡ Some (certificate.Spread spread)
found_by plan spread o found x e f g = rw e (rw f (rw g refl))

pub certificate_back : (p : Problem) (spread : Spread) → plan_in (document_data p spread.plan.pairs spread.plan.item_prices spread.plan.bin_prices) ≡ Some spread.plan → spread_in spread.plan (spread_data spread) ≡ Some spread → certificate_in (spread_document_data p spread) ≡ Some (certificate.Spread spread)
unfolding certificate_in
certificate_back p spread e f =
    found_by spread.plan spread _ _ (spread_data spread) (same_plan p.version (spread_data spread) _ _ _ _ _ _ _ ∙ e) (spread_there p.version (spread_data spread) _ _ _ _ _ _ _) f

-- the text of what has the form
pub text_of_form : (b : List ℕ) (p : Problem) (spread : Spread) (d : Data) → d ≡ spread_document_data p spread → (has_float d ≡ false → b ≡ compact_text d) → b ≡ compact_text (spread_document_data p spread)
text_of_form b p spread d form text = text (ap has_float form ∙ document_no_float p spread) ∙ ap compact_text form

pub is_document : (r : Result (Vec ℕ Global) AllocError) (p : Problem) (spread : Spread) (d : Data) → d ≡ spread_document_data p spread → problem_in d ≡ Some p → certificate_in d ≡ Some (certificate.Spread spread) → IfOk r (λ b. IsUtf8 b.items) → IfOk r (λ b. depth d ≤ max_depth → read b.items ≡ Some d)
    → IfOk r (λ b. IsCertificateDocument b.items p (certificate.Spread spread))
is_document (Ok b) p spread d form instance said utf8 back =
    let shallow : depth d ≤ max_depth = subst (λ (e : Data). depth e ≤ max_depth) (sym form) (document_levels p spread) in
    record { says = d; json = json_of-text b.items d utf8 (back shallow); instance = instance; certificate = said }
is_document (Err e) p spread d form instance said utf8 back = tt
