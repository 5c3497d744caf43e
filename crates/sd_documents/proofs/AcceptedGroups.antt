-- Groups that are read have the shape of target groups, and say what their members say.
use Rattle.std.proofs.Common.{◌≡◌, ◌≢◌, ◌⊎◌, inl, inr, ℕ, Bool, true, false, cond, List, [], ◌∷◌, Option, Some, None, Result, Ok, Err, refl, sym, ap, ◌∙◌, subst}
use Rattle.std.specs.Prelude.{is_some, codes, nat_le, sum_by, length}
use Rattle.std.specs.Option.{ok_or, MatchOption}
use Rattle.std.specs.Str.{bytes_eq}
use Rattle.std.proofs.lemmas.Bool.{leb-true}
use Rattle.std.proofs.lemmas.Slice.Eq.{bytes_eq-Decides}
use Rattle.serde_json.specs.Data.{Data, null, boolean, number, string, array, object, Items, no_items, item, Members, no_members, member}
use Rattle.serde_json.specs.Find.{get, as_str, as_array, as_object}
use Rattle.json_values.specs.Spelling.{list_data, items_data}
use Rattle.label_sets.specs.Name.{is_label_name}
use Rattle.label_sets.specs.Labels.{LabelList, label_text, with_label}
use Rattle.label_sets.specs.Laws.{SetGivesText}
use Rattle.sd_documents.specs.declared.limits.TheConstants.{MOST_TARGETS}
use Rattle.sd_documents.specs.declared.error.SdError.{SdError}
use Rattle.sd_documents.specs.declared.error.SdError.TheVariants.{Shape, BadLabelName, TooMany}
use Rattle.sd_documents.specs.declared.error.Limit.TheVariants.{Targets}
use Rattle.sd_documents.specs.declared.error.Member.{Member}
use Rattle.sd_documents.specs.declared.group.Group.{Group}
use Rattle.sd_documents.specs.Reading.{◌>>=◌, each_said, text_said, texts_said}
use Rattle.sd_documents.specs.Groups.{filled, targets_said, label_said, labels_from, labels_said, parts_said, group_said, few_targets, groups_said}
use Rattle.sd_documents.specs.Documents.{AreEach, HasMember, AreLabels, IsGroup, AreGroups}
use Rattle.sd_documents.proofs.NoFloat.{bind_ok}
use Rattle.sd_documents.proofs.Within.{passed}

-- ---- values

pub is_text : (d : Data) (e : SdError) (text : List ℕ) → ok_or (as_str d) e ≡ Ok text → d ≡ string text
is_text null e text is = cc
is_text (boolean b) e text is = cc
is_text (number n) e text is = cc
is_text (string s) e text is = cc
is_text (array ds) e text is = cc
is_text (object ms) e text is = cc

pub is_array : (d : Data) (e : SdError) (ds : Items) → ok_or (as_array d) e ≡ Ok ds → d ≡ array ds
is_array null e ds is = cc
is_array (boolean b) e ds is = cc
is_array (number n) e ds is = cc
is_array (string s) e ds is = cc
is_array (array others) e ds is = cc
is_array (object ms) e ds is = cc

pub is_object : (d : Data) (e : SdError) (ms : Members) → ok_or (as_object d) e ≡ Ok ms → d ≡ object ms
is_object null e ms is = cc
is_object (boolean b) e ms is = cc
is_object (number n) e ms is = cc
is_object (string s) e ms is = cc
is_object (array ds) e ms is = cc
is_object (object others) e ms is = cc

pub some_object : (d : Data) → is_some (as_object d) ≡ true → (ms : Members) × (d ≡ object ms)
some_object null is = cc
some_object (boolean b) is = cc
some_object (number n) is = cc
some_object (string s) is = cc
some_object (array ds) is = cc
some_object (object ms) is = (ms, refl)

pub tested : {A : Type 0} (b : Bool) (r : Result A SdError) (y : A) (e : SdError) → cond b r (Err e) ≡ Ok y → (b ≡ true) × (r ≡ Ok y)
tested true r y e is = (refl, is)
tested false r y e is = cc

-- ---- lists

pub each_is : {A : Type 0} (what : Data → Result A SdError) (Is : Data → A → Type 0) → ((d : Data) (x : A) → what d ≡ Ok x → Is d x) → (ds : Items) (xs : List A) → each_said what ds ≡ Ok xs → AreEach Is ds xs
each_is {A} what Is one no_items xs is = let none : [] ≡ xs = cc in subst (λ (ys : List A). AreEach Is no_items ys) none tt
each_is {A} what Is one (item d ds) xs is =
    let first = bind_ok (what d) (λ x. each_said what ds >>= λ ys. Ok (x ∷ ys)) xs is in
    let rest = bind_ok (each_said what ds) (λ ys. Ok (first.0 ∷ ys)) xs first.2 in
    let whole : first.0 ∷ rest.0 ≡ xs = let e : Ok (first.0 ∷ rest.0) ≡ Ok xs = rest.2 in cc in
    subst (λ (ys : List A). AreEach Is (item d ds) ys) whole (one d first.0 first.1, each_is what Is one ds rest.0 rest.1)

each_text : (ds : Items) (texts : List (List ℕ)) → AreEach (λ d text. d ≡ string text) ds texts → ds ≡ items_data string texts
each_text no_items [] each = refl
each_text no_items (t ∷ texts) each = absurd each
each_text (item d ds) [] each = absurd each
each_text (item d ds) (t ∷ texts) each = let rest = each_text ds texts each.1 in let first : d ≡ string t = each.0 in cc

pub are_texts : (index : ℕ) (part : Member) (d : Data) (texts : List (List ℕ)) → texts_said index part d ≡ Ok texts → d ≡ list_data string texts
are_texts index part d texts is =
    let items = bind_ok (ok_or (as_array d) (Shape index part)) (each_said (text_said index part)) texts is in
    is_array d (Shape index part) items.0 items.1
    ∙ ap array (each_text items.0 texts (each_is (text_said index part) (λ e text. e ≡ string text) (λ e text. is_text e (Shape index part) text) items.0 texts items.2))

-- ---- labels

same_or_not : (x y : List ℕ) → (x ≡ y) ⊎ (x ≢ y)
same_or_not x y = go (bytes_eq x y) refl
  where
    go : (b : Bool) → bytes_eq x y ≡ b → (x ≡ y) ⊎ (x ≢ y)
    go true e = inl ((bytes_eq-Decides x y).0 e)
    go false e = inr (λ same. let is : bytes_eq x y ≡ true = (bytes_eq-Decides x y).1 same in let off : true ≡ false = sym is ∙ e in cc)

record LabelRead (labels : LabelList) (name : List ℕ) (d : Data) (more : LabelList) : Type 0 where
  named : is_label_name name ≡ true
  text : List ℕ
  is_text_of : d ≡ string text
  is : more ≡ with_label labels name text

label_read : (index : ℕ) (part : Member) (labels : LabelList) (name : List ℕ) (d : Data) (more : LabelList) → label_said index part labels name d ≡ Ok more → LabelRead labels name d more
label_read index part labels name d more is =
    let test = tested (is_label_name name) (text_said index part d >>= λ text. Ok (with_label labels name text)) more BadLabelName is in
    let text = bind_ok (text_said index part d) (λ text. Ok (with_label labels name text)) more test.1 in
    record { named = test.0; text = text.0; is_text_of = is_text d (Shape index part) text.0 text.1; is = let e : Ok (with_label labels name text.0) ≡ Ok more = text.2 in cc }

record LabelsRead (labels : LabelList) (ms : Members) (more : LabelList) : Type 0 where
  named : (name : List ℕ) (d : Data) → HasMember name d ms → is_label_name name ≡ true
  texts : (name : List ℕ) (d : Data) → HasMember name d ms → (text : List ℕ) × (d ≡ string text)
  members : (name : List ℕ) → (label_text more name ≡ label_text labels name) ⊎ HasMember name (string (label_text more name)) ms
  all : (name text : List ℕ) → ((d : Data) → HasMember name d ms → d ≡ string text) → (label_text labels name ≡ text) ⊎ HasMember name (string text) ms → label_text more name ≡ text

first_named : (name other : List ℕ) (d e : Data) (ms : Members) → is_label_name other ≡ true → (HasMember name d ms → is_label_name name ≡ true) → HasMember name d (member other e ms) → is_label_name name ≡ true
first_named name other d e ms named rest (inl same) = ap is_label_name same.0 ∙ named
first_named name other d e ms named rest (inr has) = rest has

first_text : (name other : List ℕ) (d e : Data) (ms : Members) (t : List ℕ) → e ≡ string t → (HasMember name d ms → (text : List ℕ) × (d ≡ string text)) → HasMember name d (member other e ms) → (text : List ℕ) × (d ≡ string text)
first_text name other d e ms t is rest (inl same) = (t, same.1 ∙ is)
first_text name other d e ms t is rest (inr has) = rest has

-- a name's text after a step, and after the rest
first_member : SetGivesText → (labels next more : LabelList) (name other : List ℕ) (e : Data) (ms : Members) → LabelRead labels other e next → (label_text more name ≡ label_text next name) ⊎ HasMember name (string (label_text more name)) ms
    → (label_text more name ≡ label_text labels name) ⊎ HasMember name (string (label_text more name)) (member other e ms)
first_member set labels next more name other e ms read (inr has) = inr (inr has)
first_member set labels next more name other e ms read (inl same) = elim (same_or_not name other) as (λ _. (label_text more name ≡ label_text labels name) ⊎ HasMember name (string (label_text more name)) (member other e ms)) [
  | inl is ↦ inr (inl (is, ap string (same ∙ ap (label_text next) is ∙ ap (λ (l : LabelList). label_text l other) read.is ∙ (set labels other read.text).this) ∙ sym read.is_text_of))
  | inr ne ↦ inl (same ∙ ap (λ (l : LabelList). label_text l name) read.is ∙ (set labels other read.text).others name ne)
]

first_all : SetGivesText → (labels next : LabelList) (name other text : List ℕ) (e : Data) (ms : Members) → LabelRead labels other e next → ((d : Data) → HasMember name d (member other e ms) → d ≡ string text) → (label_text labels name ≡ text) ⊎ HasMember name (string text) (member other e ms)
    → (label_text next name ≡ text) ⊎ HasMember name (string text) ms
first_all set labels next name other text e ms read only given = elim (same_or_not name other) as (λ _. (label_text next name ≡ text) ⊎ HasMember name (string text) ms) [
  | inl is ↦
      let spelled : string read.text ≡ string text = sym read.is_text_of ∙ only e (inl (is, refl)) in
      let same : read.text ≡ text = cc in
      inl (ap (label_text next) is ∙ ap (λ (l : LabelList). label_text l other) read.is ∙ (set labels other read.text).this ∙ same)
  | inr ne ↦ go ne given
]
  where
    go : name ≢ other → (label_text labels name ≡ text) ⊎ HasMember name (string text) (member other e ms) → (label_text next name ≡ text) ⊎ HasMember name (string text) ms
    go ne (inl had) = inl (ap (λ (l : LabelList). label_text l name) read.is ∙ (set labels other read.text).others name ne ∙ had)
    go ne (inr (inl same)) = absurd (ne same.0)
    go ne (inr (inr has)) = inr has

labels_read : SetGivesText → (index : ℕ) (part : Member) (labels : LabelList) (ms : Members) (more : LabelList) → labels_from index part labels ms ≡ Ok more → LabelsRead labels ms more
labels_read set index part labels no_members more is =
    let same : labels ≡ more = cc in
    record {
      named = λ name d has. absurd has;
      texts = λ name d has. absurd has;
      members = λ name. inl (ap (λ (l : LabelList). label_text l name) (sym same));
      all = λ name text only given. elim given as (λ _. label_text more name ≡ text) [
        | inl had ↦ ap (λ (l : LabelList). label_text l name) (sym same) ∙ had
        | inr has ↦ absurd has
      ];
    }
labels_read set index part labels (member n e ms) more is =
    let next = bind_ok (label_said index part labels n e) (λ (l : LabelList). labels_from index part l ms) more is in
    let one = label_read index part labels n e next.0 next.1 in
    let rest = labels_read set index part next.0 ms more next.2 in
    record {
      named = λ name d has. first_named name n d e ms one.named (rest.named name d) has;
      texts = λ name d has. first_text name n d e ms one.text one.is_text_of (rest.texts name d) has;
      members = λ name. first_member set labels next.0 more name n e ms one (rest.members name);
      all = λ name text only given. rest.all name text (λ d has. only d (inr has)) (first_all set labels next.0 name n text e ms one only given);
    }

are_labels : SetGivesText → (index : ℕ) (part : Member) (ms : Members) (labels : LabelList) → labels_from index part [] ms ≡ Ok labels → AreLabels ms labels
are_labels set index part ms labels is =
    let read = labels_read set index part [] ms labels is in
    record {
      named = read.named;
      texts = read.texts;
      members = λ name filled. elim (read.members name) as (λ _. HasMember name (string (label_text labels name)) ms) [
        | inl none ↦ absurd (filled none)
        | inr has ↦ has
      ];
      all = λ name text has only. read.all name text only (inr has);
    }

-- ---- groups

targets_are : (index : ℕ) (part : Member) (o : Option Data) (targets : List (List ℕ)) → targets_said index part o ≡ Ok targets → MatchOption o (targets ≡ []) (λ v. v ≡ list_data string targets)
targets_are index part None targets is = cc
targets_are index part (Some d) targets is = are_texts index part d targets is

labels_are : SetGivesText → (index : ℕ) (part : Member) (o : Option Data) (labels : LabelList) → labels_said index part o ≡ Ok labels → MatchOption o (labels ≡ []) (λ v. (ms : Members) × (v ≡ object ms) × AreLabels ms labels)
labels_are set index part None labels is = cc
labels_are set index part (Some d) labels is =
    let ms = bind_ok (ok_or (as_object d) (Shape index part)) (labels_from index part []) labels is in
    (ms.0, is_object d (Shape index part) ms.0 ms.1, are_labels set index part ms.0 labels ms.2)

is_group : SetGivesText → (index : ℕ) (part : Member) (d : Data) (group : Group) → group_said index part d ≡ Ok group → IsGroup d group
is_group set index part d group is =
    let test = tested (is_some (as_object d)) (parts_said index part d) group (Shape index part) is in
    let made : List (List ℕ) → LabelList → Group = λ targets labels. record { targets = targets; labels = labels } in
    let targets = bind_ok (targets_said index part (filled (get (codes "targets") d))) (λ targets. labels_said index part (filled (get (codes "labels") d)) >>= λ labels. Ok (made targets labels)) group test.1 in
    let labels = bind_ok (labels_said index part (filled (get (codes "labels") d))) (λ labels. Ok (made targets.0 labels)) group targets.2 in
    let same : made targets.0 labels.0 ≡ group = let e : Ok (made targets.0 labels.0) ≡ Ok group = labels.2 in cc in
    let whole : IsGroup d (made targets.0 labels.0) = record {
      shape = some_object d test.0;
      targets = targets_are index part (filled (get (codes "targets") d)) targets.0 targets.1;
      labels = labels_are set index part (filled (get (codes "labels") d)) labels.0 labels.1;
    } in
    subst (λ (g : Group). IsGroup d g) same whole

pub are_groups : SetGivesText → (index : ℕ) (part : Member) (d : Data) (groups : List Group) → groups_said index part d ≡ Ok groups → AreGroups d groups
are_groups set index part d groups is =
    let all = bind_ok (ok_or (as_array d) (Shape index part) >>= each_said (group_said index part)) few_targets groups is in
    let items = bind_ok (ok_or (as_array d) (Shape index part)) (each_said (group_said index part)) all.0 all.1 in
    let test = passed (nat_le (sum_by (λ (group : Group). length group.targets) all.0) MOST_TARGETS) all.0 groups (TooMany Targets) all.2 in
    let whole : AreGroups d all.0 = record {
      each = (items.0, is_array d (Shape index part) items.0 items.1, each_is (group_said index part) IsGroup (is_group set index part) items.0 all.0 items.2);
      few = leb-true (sum_by (λ (group : Group). length group.targets) all.0) MOST_TARGETS test.0;
    } in
    subst (λ (gs : List Group). AreGroups d gs) test.1 whole
