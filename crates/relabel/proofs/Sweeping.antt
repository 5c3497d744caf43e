-- Taking out one after the other the names that pass a test leaves the labels whose names do not.
use Rattle.std.proofs.Common.{◌≡◌, ℕ, Bool, true, false, not, ◌&&◌, ◌||◌, cond, List, [], ◌∷◌, filter, is_eq, refl, ap, ap₂, sym, ◌∙◌, drop, length, ◌≤◌}
use Rattle.std.proofs.lemmas.List.{drop_all}
use Rattle.std.specs.List.{list_any}
use Rattle.std.specs.Ordering.{eq_by_cmp}
use Rattle.std.specs.FinMap.{slice_cmp-IsAntisymmetric, nat_cmp-IsAntisymmetric}
use Rattle.std.proofs.lemmas.Cmp.{nat_list_cmp_total, tied_itself}
use Rattle.std.proofs.lemmas.Map.Views.{tells_apart}
use mathlib.Core.Path.{fun_ext}
use Rattle.label_sets.specs.Labels.{LabelList, byte_cmp, without, names_of}

abbrev swept : (List ℕ → Bool) → List (List ℕ) → LabelList → LabelList
swept p [] labels = labels
swept p (name ∷ names) labels = swept p names (cond (p name) (without labels name) labels)

abbrev is_same : List ℕ → List ℕ → Bool
is_same = eq_by_cmp byte_cmp

-- the name is one of these that pass
abbrev is_taken : (List ℕ → Bool) → List (List ℕ) → List ℕ → Bool
is_taken p names x = list_any (λ name. p name && is_same name x) names

all_pass : (labels : LabelList) → labels ≡ filter (λ l. true) labels
all_pass [] = refl
all_pass (l ∷ labels) = ap (λ ls. l ∷ ls) (all_pass labels)

filter_both_by : (b c : Bool) (l : List ℕ × List ℕ) (f : List ℕ × List ℕ → Bool) (rest : LabelList) (kept : LabelList) → f l ≡ c → filter f rest ≡ kept →
    filter f (cond b (l ∷ rest) rest) ≡ cond (b && c) (l ∷ kept) kept
filter_both_by true true l f rest kept here more = rw (here, more) refl
filter_both_by true false l f rest kept here more = rw (here, more) refl
filter_both_by false c l f rest kept here more = more

filter_both : (f g : List ℕ × List ℕ → Bool) (labels : LabelList) → filter f (filter g labels) ≡ filter (λ l. g l && f l) labels
filter_both f g [] = refl
filter_both f g (l ∷ labels) = filter_both_by (g l) (f l) l f (filter g labels) (filter (λ x. g x && f x) labels) refl (filter_both f g labels)

neither : (a b : Bool) → not (a || b) ≡ (not a && not b)
neither true b = refl
neither false b = refl

swept_more : (b : Bool) (p : List ℕ → Bool) (name : List ℕ) (names : List (List ℕ)) (labels : LabelList) →
    swept p names (cond b (without labels name) labels) ≡ filter (λ l. not (is_taken p names l.0)) (cond b (without labels name) labels) →
    swept p names (cond b (without labels name) labels) ≡ filter (λ l. not ((b && is_same name l.0) || is_taken p names l.0)) labels
swept_more true p name names labels h =
    h ∙ filter_both (λ l. not (is_taken p names l.0)) (λ l. not (is_same name l.0)) labels
    ∙ ap (λ f. filter f labels) (fun_ext (λ (l : List ℕ × List ℕ). sym (neither (is_same name l.0) (is_taken p names l.0))))
swept_more false p name names labels h = h

swept_is : (p : List ℕ → Bool) (names : List (List ℕ)) (labels : LabelList) → swept p names labels ≡ filter (λ l. not (is_taken p names l.0)) labels
swept_is p [] labels = all_pass labels
swept_is p (name ∷ names) labels = swept_more (p name) p name names labels (swept_is p names (cond (p name) (without labels name) labels))

-- ---- the names of a set

same : (x y : List ℕ) → is_same x y ≡ true → x ≡ y
same = tells_apart (slice_cmp-IsAntisymmetric nat_cmp-IsAntisymmetric)

itself : (x : List ℕ) → is_same x x ≡ true
itself x = ap is_eq (tied_itself nat_list_cmp_total x)

one_taken : (a b c q : Bool) → (b ≡ true → a ≡ q) → ((a && b) || c) ≡ ((b && q) || c)
one_taken a true c q h = rw (h refl) (cond_true q c)
  where
    cond_true : (q c : Bool) → ((q && true) || c) ≡ (q || c)
    cond_true true c = refl
    cond_true false c = refl
one_taken true false c q h = refl
one_taken false false c q h = refl

either_way : (b c q : Bool) → ((b && q) || (c && q)) ≡ ((b || c) && q)
either_way true true true = refl
either_way true true false = refl
either_way true false true = refl
either_way true false false = refl
either_way false c q = refl

-- a name is taken if it is among the names and passes
taken_is : (p : List ℕ → Bool) (x : List ℕ) (names : List (List ℕ)) → is_taken p names x ≡ (list_any (λ name. is_same name x) names && p x)
taken_is p x [] = refl
taken_is p x (name ∷ names) =
    one_taken (p name) (is_same name x) (is_taken p names x) (p x) (λ is. ap p (same name x is))
    ∙ ap (λ c. (is_same name x && p x) || c) (taken_is p x names)
    ∙ either_way (is_same name x) (list_any (λ other. is_same other x) names) (p x)

either : (a b : Bool) → b ≡ true → (a || b) ≡ true
either true b h = refl
either false b h = h

-- all of the rest are among the names
swept_rest : (p : List ℕ → Bool) (names : List (List ℕ)) (rest : LabelList) →
    ((x : List ℕ) → list_any (λ name. is_same name x) (names_of rest) ≡ true → list_any (λ name. is_same name x) names ≡ true) →
    filter (λ l. not (is_taken p names l.0)) rest ≡ filter (λ l. not (p l.0)) rest
swept_rest p names [] h = refl
swept_rest p names (l ∷ rest) h =
    let among : list_any (λ name. is_same name l.0) names ≡ true = h l.0 (rw (itself l.0) refl) in
    let here : is_taken p names l.0 ≡ p l.0 = taken_is p l.0 names ∙ rw among refl in
    let later = swept_rest p names rest (λ x is. h x (either (is_same l.0 x) _ is)) in
    ap₂ (λ (b : Bool) (kept : LabelList). cond (not b) (l ∷ kept) kept) here later

swept_all : (p : List ℕ → Bool) (labels : LabelList) → swept p (names_of labels) labels ≡ filter (λ l. not (p l.0)) labels
swept_all p labels = swept_is p (names_of labels) labels ∙ swept_rest p (names_of labels) labels (λ x is. is)

-- ---- the names that pass, collected first

abbrev pub taken_out : List (List ℕ) → LabelList → LabelList
taken_out [] labels = labels
taken_out (name ∷ names) labels = taken_out names (without labels name)

taken_out_by : (b : Bool) (p : List ℕ → Bool) (name : List ℕ) (rest names : List (List ℕ)) (labels : LabelList) →
    ((others : LabelList) → taken_out rest others ≡ swept p names others) → taken_out (cond b (name ∷ rest) rest) labels ≡ swept p names (cond b (without labels name) labels)
taken_out_by true p name rest names labels more = more (without labels name)
taken_out_by false p name rest names labels more = more labels

-- taking out those that pass is sweeping all
taken_out_is : (p : List ℕ → Bool) (names : List (List ℕ)) (labels : LabelList) → taken_out (filter p names) labels ≡ swept p names labels
taken_out_is p [] labels = refl
taken_out_is p (name ∷ names) labels = taken_out_by (p name) p name (filter p names) names labels (taken_out_is p names)

-- once the names that pass are taken out
pub swept_end : (p : List ℕ → Bool) (names : List (List ℕ)) (i : ℕ) (old new : LabelList) → length names ≤ i → names ≡ filter p (names_of old) →
    taken_out (drop i names) new ≡ taken_out names old → new ≡ filter (λ l. not (p l.0)) old
swept_end p names i old new past is h =
    (rw (drop_all i names past, is) at h) ∙ taken_out_is p (names_of old) old ∙ swept_all p old

not_not : (b : Bool) → not (not b) ≡ b
not_not true = refl
not_not false = refl

-- the same, where those that fail the test are taken out
pub kept_end : (p : List ℕ → Bool) (names : List (List ℕ)) (i : ℕ) (old new : LabelList) → length names ≤ i → names ≡ filter (λ name. not (p name)) (names_of old) →
    taken_out (drop i names) new ≡ taken_out names old → new ≡ filter (λ l. p l.0) old
kept_end p names i old new past is h =
    swept_end (λ name. not (p name)) names i old new past is h ∙ ap (λ f. filter f old) (fun_ext (λ (l : List ℕ × List ℕ). not_not (p l.0)))
