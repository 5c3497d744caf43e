-- The names of a scrape's parameters ascend, and are those of its job and of the target's labels.
use Rattle.std.proofs.Common.{◌≡◌, ◌<◌, ℕ, zero, suc, List, [], ◌∷◌, ◌++◌, length, get_or, map, drop, Bool, true, false, ◌&&◌, ◌||◌, cond, eqb, Option, Some, None, Ordering, Less, Equal, Greater, is_lt, refl, sym, ap, ◌∙◌, arith, codes, unwrap_or}
use Rattle.std.specs.Ordering.{match_ordering, ordering_reverse, is_eq}
use Rattle.std.specs.List.{list_all, list_any, starts_with}
use Rattle.std.specs.Str.{bytes_eq}
use Rattle.std.specs.FinMap.{find, slice_cmp-IsAntisymmetric, nat_cmp-IsAntisymmetric}
use Rattle.std.proofs.lemmas.Bool.{and_parts}
use Rattle.std.proofs.lemmas.Cmp.{nat_list_cmp_total}
use Rattle.std.proofs.lemmas.List.Folds.{list_any-append}
use Rattle.std.proofs.lemmas.Map.Text.{is_eq-slice_cmp}
use Rattle.std.specs.Option.{option_map_or}
use Rattle.label_sets.specs.Labels.{LabelList, byte_cmp, label_text, IsAscending, is_some_text}
use Rattle.sd_documents.specs.declared.config.Param.{Param}
use Rattle.sd_documents.specs.FirstLabels.{param_label}
use Rattle.http_get.specs.Prefixes.{behind}
use Rattle.http_get.specs.Queries.{with_name, with_names, labelled_names, parameter_names}
use Rattle.http_get.specs.Laws.{NamesAreAll}

-- ---- the order

-- the name is below all of the names
abbrev below : List ℕ → List (List ℕ) → Bool
below name names = list_all (λ other. is_lt (byte_cmp name other)) names

-- each is below those behind it
abbrev ascend : List (List ℕ) → Bool
ascend [] = true
ascend (name ∷ names) = below name names && ascend names

less_is : (o : Ordering) → is_lt o ≡ true → o ≡ Less
less_is Less e = refl
less_is Equal e = cc
less_is Greater e = cc

turned : (x y : List ℕ) (o : Ordering) → byte_cmp x y ≡ o → byte_cmp y x ≡ ordering_reverse o
turned x y o e = nat_list_cmp_total.antisymm y x ∙ ap ordering_reverse e

same_name : (x y : List ℕ) → byte_cmp x y ≡ Equal → x ≡ y
same_name x y e = slice_cmp-IsAntisymmetric nat_cmp-IsAntisymmetric x y e

below_through : (x y : List ℕ) (names : List (List ℕ)) → byte_cmp x y ≡ Less → below y names ≡ true → below x names ≡ true
below_through x y [] lt h = refl
below_through x y (name ∷ names) lt h =
    let parts = and_parts _ _ h in
    let first : byte_cmp x name ≡ Less = nat_list_cmp_total.trans x y name lt (less_is _ parts.0) in
    rw first (below_through x y names lt parts.1)

below_with : (x name : List ℕ) (names : List (List ℕ)) → byte_cmp x name ≡ Less → below x names ≡ true → below x (with_name names name) ≡ true
below_with x name [] lt h = rw lt refl
below_with x name (y ∷ names) lt h =
    let parts = and_parts _ _ h in
    let rest = below_with x name names lt parts.1 in
    elim (byte_cmp name y) as (λ o. below x (match_ordering o (name ∷ y ∷ names) (y ∷ names) (y ∷ with_name names name)) ≡ true) [
      | Less ↦ rw lt h
      | Equal ↦ h
      | Greater ↦ rw (less_is _ parts.0) rest
    ]

ascend_with : (name : List ℕ) (names : List (List ℕ)) → ascend names ≡ true → ascend (with_name names name) ≡ true
ascend_with name [] h = refl
ascend_with name (x ∷ names) h =
    let parts = and_parts _ _ h in
    let rest = ascend_with name names parts.1 in
    elim (byte_cmp name x) as (λ o. byte_cmp name x ≡ o → ascend (match_ordering o (name ∷ x ∷ names) (x ∷ names) (x ∷ with_name names name)) ≡ true) [
      | Less ↦ λ e. rw (e, below_through name x names e parts.0) h
      | Equal ↦ λ e. h
      | Greater ↦ λ e. rw (below_with x name names (turned name x Greater e) parts.0) rest
    ] refl

ascend_all : (names more : List (List ℕ)) → ascend names ≡ true → ascend (with_names names more) ≡ true
ascend_all names [] h = h
ascend_all names (name ∷ more) h = ascend_all (with_name names name) more (ascend_with name names h)

below_at : (name : List ℕ) (names : List (List ℕ)) (i : ℕ) (d : List ℕ) → below name names ≡ true → i < length names → byte_cmp name (get_or names i d) ≡ Less
below_at name [] i d h lt = absurd (omega arith)
below_at name (x ∷ names) zero d h lt = less_is _ (and_parts _ _ h).0
below_at name (x ∷ names) (suc i) d h lt = below_at name names i d (and_parts _ _ h).1 (omega arith)

ascending : (names : List (List ℕ)) → ascend names ≡ true → IsAscending names
ascending [] h i j d lt within = absurd (omega arith)
ascending (x ∷ names) h zero zero d lt within = absurd (omega arith)
ascending (x ∷ names) h zero (suc j) d lt within = below_at x names j d (and_parts _ _ h).0 (omega arith)
ascending (x ∷ names) h (suc i) zero d lt within = absurd (omega arith)
ascending (x ∷ names) h (suc i) (suc j) d lt within = ascending names (and_parts _ _ h).1 i j d (omega arith) (omega arith)

-- ---- the members

or_swap : (a b c : Bool) → (a || (b || c)) ≡ (b || (a || c))
or_swap true true c = refl
or_swap true false c = refl
or_swap false b c = refl

or_again : (a c : Bool) → (a || c) ≡ (a || (a || c))
or_again true c = refl
or_again false c = refl

or_end : (a : Bool) → (a || false) ≡ a
or_end true = refl
or_end false = refl

or_group : (a b c : Bool) → (a || b) || c ≡ a || (b || c)
or_group true b c = refl
or_group false b c = refl

module _ (test : List ℕ → Bool) where
  any_with : (names : List (List ℕ)) (name : List ℕ) → list_any test (with_name names name) ≡ (test name || list_any test names)
  any_with [] name = refl
  any_with (x ∷ names) name =
      let rest = any_with names name in
      elim (byte_cmp name x) as (λ o. byte_cmp name x ≡ o → list_any test (match_ordering o (name ∷ x ∷ names) (x ∷ names) (x ∷ with_name names name)) ≡ (test name || (test x || list_any test names))) [
        | Less ↦ λ e. refl
        | Equal ↦ λ e. rw (same_name name x e) (or_again (test x) (list_any test names))
        | Greater ↦ λ e. ap (λ b. test x || b) rest ∙ or_swap (test x) (test name) (list_any test names)
      ] refl

  any_all : (names more : List (List ℕ)) → list_any test (with_names names more) ≡ (list_any test more || list_any test names)
  any_all names [] = refl
  any_all names (name ∷ more) =
      any_all (with_name names name) more
      ∙ ap (λ b. list_any test more || b) (any_with names name)
      ∙ or_swap (list_any test more) (test name) (list_any test names)
      ∙ sym (or_group (test name) (list_any test more) (list_any test names))

-- ---- the labels

and_group : (a b c : Bool) → a && (b && c) ≡ (a && b) && c
and_group true b c = refl
and_group false b c = refl

begins : (front rest text : List ℕ) → bytes_eq (front ++ rest) text ≡ (starts_with eqb text front && bytes_eq rest (drop (length front) text))
begins [] rest text = refl
begins (x ∷ front) rest [] = refl
begins (x ∷ front) rest (y ∷ text) = ap (λ b. eqb x y && b) (begins front rest text) ∙ and_group (eqb x y) (starts_with eqb text front) (bytes_eq rest (drop (length front) text))

behind_is : (b : Bool) (name rest : List ℕ) → option_map_or (bytes_eq name) (cond b (Some rest) None) false ≡ (b && bytes_eq name rest)
behind_is true name rest = refl
behind_is false name rest = refl

-- the label is that of the name
label_is : (name label : List ℕ) → is_eq (byte_cmp (param_label name) label) ≡ option_map_or (bytes_eq name) (behind (codes "__param_") label) false
label_is name label =
    is_eq-slice_cmp (param_label name) label
    ∙ begins (codes "__param_") name label
    ∙ sym (behind_is (starts_with eqb label (codes "__param_")) name (drop (length (codes "__param_")) label))

one_label : (test : List ℕ → Bool) (found : Option (List ℕ)) (names : List (List ℕ)) → list_any test (option_map_or (λ name. name ∷ names) found names) ≡ (option_map_or test found false || list_any test names)
one_label test (Some name) names = refl
one_label test None names = refl

found_or : (b : Bool) (text : List ℕ) (found : Option (List ℕ)) → is_some_text text ≡ true → is_some_text (unwrap_or (cond b (Some text) found) []) ≡ (b || is_some_text (unwrap_or found []))
found_or true text found some = some
found_or false text found some = refl

labelled : (name : List ℕ) (labels : LabelList) → list_all (λ (l : List ℕ × List ℕ). is_some_text l.1) labels ≡ true → list_any (bytes_eq name) (labelled_names labels) ≡ is_some_text (label_text labels (param_label name))
labelled name [] filled = refl
labelled name (l ∷ labels) filled =
    let parts = and_parts _ _ filled in
    one_label (bytes_eq name) (behind (codes "__param_") l.0) (labelled_names labels)
    ∙ ap (λ b. b || list_any (bytes_eq name) (labelled_names labels)) (sym (label_is name l.0))
    ∙ ap (λ b. is_eq (byte_cmp (param_label name) l.0) || b) (labelled name labels parts.1)
    ∙ sym (found_or (is_eq (byte_cmp (param_label name) l.0)) l.1 (find byte_cmp (param_label name) labels) parts.0)

-- ---- all of them

any_map : (name : List ℕ) (params : List Param) → list_any (bytes_eq name) (map (λ (p : Param). p.name) params) ≡ list_any (λ (p : Param). bytes_eq name p.name) params
any_map name [] = refl
any_map name (param ∷ params) = ap (λ b. bytes_eq name param.name || b) (any_map name params)

pub names_are_all : NamesAreAll
names_are_all params labels set = record {
  ascending = ascending (parameter_names params labels) (ascend_all [] (map (λ (p : Param). p.name) params ++ labelled_names labels) refl);
  members = λ name.
      any_all (bytes_eq name) [] (map (λ (p : Param). p.name) params ++ labelled_names labels)
      ∙ or_end _
      ∙ list_any-append (bytes_eq name) (map (λ (p : Param). p.name) params) (labelled_names labels)
      ∙ ap (λ b. b || list_any (bytes_eq name) (labelled_names labels)) (any_map name params)
      ∙ ap (λ b. list_any (λ (p : Param). bytes_eq name p.name) params || b) (labelled name labels set.filled);
}
