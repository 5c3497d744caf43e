-- A text is the document of one instance and one plan at most.
use Rattle.std.proofs.Common.{◌≡◌, ℕ, ◌<◌, Bool, false, List, Option, Some, None, length, refl, sym, subst, ◌∙◌, arith}
use Rattle.std.proofs.lemmas.List.{same_lists, get_or_default}
use Rattle.serde_json.specs.Data.{Data}
use Rattle.price_certificate.specs.Problem.{Problem, IsMarked, IsPlaced, IsProblemOf}
use Rattle.price_certificate.specs.declared.version.Version.{Version}
use Rattle.price_certificate.specs.declared.version.Version.TheVariants.{One, Two}
use Rattle.price_certificate.specs.Document.{draining_in, version_number, SpellsInstance, SpellsPlan, IsInstanceDocument, IsDocument}
use Rattle.price_certificate.proofs.DocumentValues.{one_value}

some_same : {A : Type 0} (o : Option A) (x y : A) → o ≡ Some x → o ≡ Some y → x ≡ y
some_same o x y e f = cc

same_places : (items : ℕ) (pairs : List (ℕ × ℕ)) (xs ys : List (Option ℕ)) → IsPlaced items pairs xs → IsPlaced items pairs ys → xs ≡ ys
same_places items pairs xs ys h k =
    same_lists xs ys (h.each ∙ sym k.each) (λ i d l.
    let below : i < items = omega (arith, h.each) in
    let other : i < length ys = omega (arith, h.each, k.each) in
    get_or_default xs i d None l ∙ h.bins i below ∙ sym (k.bins i below) ∙ get_or_default ys i None d other)

same_marks : (bins : ℕ) (draining : List ℕ) (xs ys : List Bool) → IsMarked bins draining xs → IsMarked bins draining ys → xs ≡ ys
same_marks bins draining xs ys h k =
    same_lists xs ys (h.each ∙ sym k.each) (λ i d l.
    let below : i < bins = omega (arith, h.each) in
    let other : i < length ys = omega (arith, h.each, k.each) in
    get_or_default xs i d false l ∙ h.at i below ∙ sym (k.at i below) ∙ get_or_default ys i false d other)

same_parts : (v w : Version) (limits ls : List ℕ) (marks ms : List Bool) (rows rs : List (List ℕ)) (places ps : List (Option ℕ)) → v ≡ w → limits ≡ ls → marks ≡ ms → rows ≡ rs → places ≡ ps → ◌≡◌ {A = Problem} (record { version = v; limits = limits; draining = marks; rows = rows; before = places }) (record { version = w; limits = ls; draining = ms; rows = rs; before = ps })
same_parts v w limits ls marks ms rows rs places ps d e f g h = cc

pub one_problem : (version : Version) (limits draining : List ℕ) (rows : List (List ℕ)) (pairs : List (ℕ × ℕ)) (p q : Problem) → IsProblemOf p version limits draining rows pairs → IsProblemOf q version limits draining rows pairs → p ≡ q
one_problem version limits draining rows pairs p q h k =
    same_parts p.version q.version p.limits q.limits p.draining q.draining p.rows q.rows p.before q.before (h.same_version ∙ sym k.same_version) (h.same_limits ∙ sym k.same_limits) (same_marks (length limits) draining p.draining q.draining h.same_draining k.same_draining) (h.same_rows ∙ sym k.same_rows) (same_places (length rows) pairs p.before q.before h.before k.before)

one_version : (v w : Version) → version_number v ≡ version_number w → v ≡ w
one_version One One e = refl
one_version One Two e = absurd (omega (arith, e))
one_version Two One e = absurd (omega (arith, e))
one_version Two Two e = refl

pub one_spelled : (d : Data) (p q : Problem) → SpellsInstance d p → SpellsInstance d q → p ≡ q
one_spelled d p q h k =
    let version = one_version k.version h.version (some_same _ (version_number k.version) (version_number h.version) k.parts.number h.parts.number) in
    let limits = some_same _ k.limits h.limits k.parts.bins h.parts.bins in
    let draining = some_same _ k.draining h.draining (subst (λ (v : Version). draining_in v d ≡ Some k.draining) version k.parts.drains) h.parts.drains in
    let rows = some_same _ k.rows h.rows k.parts.reach h.parts.reach in
    let preceding = some_same _ k.preceding h.preceding k.parts.before h.parts.before in
    let first = subst (λ (v : Version). IsProblemOf q v k.limits k.draining k.rows k.preceding) version k.same in
    let second = subst (λ (ls : List ℕ). IsProblemOf q h.version ls k.draining k.rows k.preceding) limits first in
    let third = subst (λ (ds : List ℕ). IsProblemOf q h.version h.limits ds k.rows k.preceding) draining second in
    let fourth = subst (λ (rs : List (List ℕ)). IsProblemOf q h.version h.limits h.draining rs k.preceding) rows third in
    one_problem h.version h.limits h.draining h.rows h.preceding p q h.same (subst (λ (ps : List (ℕ × ℕ)). IsProblemOf q h.version h.limits h.draining h.rows ps) preceding fourth)

pub one_instance : (bytes : List ℕ) (p q : Problem) → IsInstanceDocument bytes p → IsInstanceDocument bytes q → p ≡ q
one_instance bytes p q h k = one_spelled h.says p q h.instance (subst (λ (d : Data). SpellsInstance d q) (one_value bytes k.says h.says k.json h.json) k.instance)

pub one_document : (bytes : List ℕ) (p q : Problem) (ps qs : List (ℕ × ℕ)) (us vs ws xs : List ℕ) → IsDocument bytes p ps us ws → IsDocument bytes q qs vs xs → (p ≡ q) × (ps ≡ qs) × (us ≡ vs) × (ws ≡ xs)
one_document bytes p q ps qs us vs ws xs h k =
    let same = one_value bytes k.says h.says k.json h.json in
    let plan = subst (λ (d : Data). SpellsPlan d qs vs xs) same k.plan in (
      one_spelled h.says p q h.instance (subst (λ (d : Data). SpellsInstance d q) same k.instance),
      some_same _ ps qs h.plan.pairs plan.pairs,
      some_same _ us vs h.plan.item_prices plan.item_prices,
      some_same _ ws xs h.plan.bin_prices plan.bin_prices,
    )
