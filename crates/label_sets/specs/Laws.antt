-- The laws of a finite map, of label sets.
use Rattle.std.specs.Prelude.{◌≡◌, ◌≢◌, List, ℕ, [], ◌∷◌, ◌++◌, IsTrue, codes}
use Rattle.label_sets.specs.Name.{is_label_name}
use Rattle.label_sets.specs.Labels.{LabelList, label_text, without, with_label, IsLabelSet}
use Rattle.label_sets.specs.Finish.{finished}
use Rattle.label_sets.specs.Target.{FinalTarget, IsFinal, target_label, target_text}
use Rattle.label_sets.specs.declared.target.Finished.TheVariants.{Target}

-- the name has the text, and every other name what it had
pub record GivesText (old new : LabelList) (name text : List ℕ) : Type 0 where
  pub this : label_text new name ≡ text
  pub others : (other : List ℕ) → other ≢ name → label_text new other ≡ label_text old other

abbrev pub SetGivesText : Type 0
SetGivesText = (labels : LabelList) (name text : List ℕ) → GivesText labels (with_label labels name text) name text

abbrev pub RemoveGivesNoText : Type 0
RemoveGivesNoText = (labels : LabelList) (name : List ℕ) → GivesText labels (without labels name) name []

abbrev pub SetKeepsSets : Type 0
SetKeepsSets = (labels : LabelList) (name text : List ℕ) → IsLabelSet labels → IsTrue (is_label_name name) → IsLabelSet (with_label labels name text)

abbrev pub RemoveKeepsSets : Type 0
RemoveKeepsSets = (labels : LabelList) (name : List ℕ) → IsLabelSet labels → IsLabelSet (without labels name)

-- two sets that answer alike for every name are equal
abbrev pub AlikeAreEqual : Type 0
AlikeAreEqual = (a b : LabelList) → IsLabelSet a → IsLabelSet b → ((name : List ℕ) → label_text a name ≡ label_text b name) → a ≡ b

-- a label behind all others of a set is put last, so a set is made of its labels one by one
abbrev pub LastIsPutLast : Type 0
LastIsPutLast = (front rest : LabelList) (name text : List ℕ) → IsLabelSet (front ++ (name, text) ∷ rest) → with_label front name text ≡ front ++ (name, text) ∷ []

-- a target's labels, finished again at its address, give the target
abbrev pub FinishesAgain : Type 0
FinishesAgain = (target : FinalTarget) → IsFinal target → finished (with_label target.labels (codes "__address__") target.address) ≡ Target target

-- the text of a target's group is the target's identity
abbrev pub TextDecides : Type 0
TextDecides = (a b : FinalTarget) → target_text a ≡ target_text b → a ≡ b

-- so targets of equal texts answer alike for every name
abbrev pub TextDecidesAnswers : Type 0
TextDecidesAnswers = (a b : FinalTarget) → target_text a ≡ target_text b → (name : List ℕ) → target_label a name ≡ target_label b name
