-- The laws of a finite map, proved.
use Rattle.std.proofs.Common.{◌≡◌, ◌≢◌, ℕ, Bool, true, false, cond, not, T, List, [], ◌∷◌, Option, Some, None, Ordering, Less, Equal, Greater, is_eq, unwrap_or, refl, sym, ap, ◌∙◌, subst}
use Rattle.std.specs.Ordering.{eq_by_cmp}
use Rattle.std.specs.List.{list_all}
use Rattle.std.specs.FinMap.{find, put, slice_cmp-IsAntisymmetric, nat_cmp-IsAntisymmetric}
use Rattle.std.specs.FinMap.Entries.{find-put, find-where_key, same_entries}
use Rattle.std.proofs.lemmas.Bool.{and_parts}
use Rattle.std.proofs.lemmas.Cmp.{nat_list_cmp_total, tied_itself, alike_right}
use Rattle.label_sets.specs.Labels.{LabelList, byte_cmp, without, is_some_text}
use Rattle.label_sets.specs.Laws.{GivesText, SetGivesText, RemoveGivesNoText, SetKeepsSets, RemoveKeepsSets, AlikeAreEqual}
use Rattle.label_sets.proofs.Kept.{as_T, IsLabelSet-with_label, IsLabelSet-without}

pub same_name : (x y : List ℕ) → byte_cmp x y ≡ Equal → x ≡ y
same_name = slice_cmp-IsAntisymmetric nat_cmp-IsAntisymmetric

equal : (o : Ordering) → is_eq o ≡ true → o ≡ Equal
equal Less e = cc
equal Equal e = refl
equal Greater e = cc

-- a test that two names are the same fails of two that differ
apart : (x y : List ℕ) → x ≢ y → eq_by_cmp byte_cmp x y ≡ false
apart x y ne = go (eq_by_cmp byte_cmp x y) refl
  where
    go : (b : Bool) → eq_by_cmp byte_cmp x y ≡ b → b ≡ false
    go true e = absurd (ne (same_name x y (equal _ e)))
    go false e = refl

itself : (x : List ℕ) → eq_by_cmp byte_cmp x x ≡ true
itself x = ap is_eq (tied_itself nat_list_cmp_total x)

pub put_gives : (labels : LabelList) (name text : List ℕ) → GivesText labels (put byte_cmp name text labels) name text
put_gives labels name text = record {
  this = ap (λ (o : Option (List ℕ)). unwrap_or o []) (find-put byte_cmp nat_list_cmp_total name name text labels ∙ ap (λ b. cond b (Some text) (find byte_cmp name labels)) (itself name));
  others = λ other ne. ap (λ (o : Option (List ℕ)). unwrap_or o []) (find-put byte_cmp nat_list_cmp_total other name text labels ∙ ap (λ b. cond b (Some text) (find byte_cmp other labels)) (apart other name ne));
}

find-without : (labels : LabelList) (name q : List ℕ) → find byte_cmp q (without labels name) ≡ cond (not (eq_by_cmp byte_cmp name q)) (find byte_cmp q labels) None
find-without labels name q = find-where_key byte_cmp (λ n. not (eq_by_cmp byte_cmp name n)) q (λ x tied. ap (λ o. not (is_eq o)) (sym (alike_right nat_list_cmp_total q x name tied))) labels

pub without_gives : (labels : LabelList) (name : List ℕ) → GivesText labels (without labels name) name []
without_gives labels name = record {
  this = ap (λ (o : Option (List ℕ)). unwrap_or o []) (find-without labels name name ∙ ap (λ b. cond (not b) (find byte_cmp name labels) None) (itself name));
  others = λ other ne. ap (λ (o : Option (List ℕ)). unwrap_or o []) (find-without labels name other ∙ ap (λ b. cond (not b) (find byte_cmp other labels) None) (apart name other (λ e. ne (sym e))));
}

pub set_gives_text : SetGivesText
set_gives_text labels name [] = without_gives labels name
set_gives_text labels name (b ∷ bs) = put_gives labels name (b ∷ bs)

pub remove_gives_no_text : RemoveGivesNoText
remove_gives_no_text = without_gives

pub set_keeps_sets : SetKeepsSets
set_keeps_sets = IsLabelSet-with_label

pub remove_keeps_sets : RemoveKeepsSets
remove_keeps_sets = IsLabelSet-without

-- a text that is found is not empty
abbrev IsFilled : Option (List ℕ) → Type 0
IsFilled None = Unit {0}
IsFilled (Some t) = is_some_text t ≡ true

filled-cond : (b : Bool) (t : List ℕ) (o : Option (List ℕ)) → is_some_text t ≡ true → IsFilled o → IsFilled (cond b (Some t) o)
filled-cond true t o h k = h
filled-cond false t o h k = k

filled-find : (labels : LabelList) (name : List ℕ) → list_all (λ (l : List ℕ × List ℕ). is_some_text l.1) labels ≡ true → IsFilled (find byte_cmp name labels)
filled-find [] name h = tt
filled-find (l ∷ labels) name h =
    let parts = and_parts _ _ h in
    filled-cond (eq_by_cmp byte_cmp name l.0) l.1 _ parts.0 (filled-find labels name parts.1)

same_found : (o p : Option (List ℕ)) → IsFilled o → IsFilled p → unwrap_or o [] ≡ unwrap_or p [] → o ≡ p
same_found None None h k e = refl
same_found None (Some t) h k e = absurd (subst T (sym (ap is_some_text e) ∙ refl) (subst T (sym k) tt))
same_found (Some t) None h k e = absurd (subst T (ap is_some_text e) (subst T (sym h) tt))
same_found (Some t) (Some u) h k e = ap Some e

pub alike_are_equal : AlikeAreEqual
alike_are_equal a b set_a set_b alike = same_entries byte_cmp nat_list_cmp_total same_name a b (as_T _ set_a.ordered) (as_T _ set_b.ordered)
    (λ name. same_found _ _ (filled-find a name set_a.filled) (filled-find b name set_b.filled) (alike name))
