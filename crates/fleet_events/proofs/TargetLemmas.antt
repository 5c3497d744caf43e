-- A target's group is read as the target.
use Rattle.std.proofs.Common.{◌≡◌, ℕ, true, List, [], ◌∷◌, ◌++◌, Some, Result, Ok, refl, sym, ap, subst, ◌∙◌, append_assoc, append-nil}
use Rattle.std.specs.Prelude.{option_and_then}
use Rattle.std.specs.Result.{result_ok}
use Rattle.std.specs.List.{list_all}
use Rattle.std.proofs.lemmas.Bool.{and_parts}
use Rattle.label_sets.specs.Name.{is_label_name}
use Rattle.label_sets.specs.Labels.{LabelList, is_some_text, IsLabelSet}
use Rattle.label_sets.specs.Laws.{LastIsPutLast, FinishesAgain}
use Rattle.label_sets.specs.Target.{FinalTarget, IsFinal, target_data}
use Rattle.label_sets.specs.Written.{label_members}
use Rattle.sd_documents.specs.Reading.{◌>>=◌}
use Rattle.sd_documents.specs.Groups.{labels_from, group_said}
use Rattle.sd_documents.specs.declared.error.SdError.{SdError}
use Rattle.sd_documents.specs.declared.error.Member.TheVariants.{Groups}
use Rattle.sd_documents.specs.declared.group.Group.{Group}
use Rattle.fleet_events.specs.Targets.{filled_text, finished_target, target_at, target_of, target_in}

named_here : (front rest : LabelList) (l : List ℕ × List ℕ) → list_all (λ (m : List ℕ × List ℕ). is_label_name m.0) (front ++ l ∷ rest) ≡ true → is_label_name l.0 ≡ true
named_here [] rest l h = (and_parts _ _ h).0
named_here (m ∷ front) rest l h = named_here front rest l (and_parts _ _ h).1

-- the members of a set, read one by one
labels_back : LastIsPutLast → (front rest : LabelList) → IsLabelSet (front ++ rest) → labels_from 0 Groups front (label_members rest) ≡ Ok (front ++ rest)
labels_back last front [] set = ap Ok (sym (append-nil front))
labels_back last front (l ∷ rest) set =
    let named : is_label_name l.0 ≡ true = named_here front rest l set.named in
    let split : (front ++ l ∷ []) ++ rest ≡ front ++ l ∷ rest = append_assoc front (l ∷ []) rest in
    rw named (ap (λ (ls : LabelList). labels_from 0 Groups ls (label_members rest)) (last front rest l.0 l.1 set)
    ∙ labels_back last (front ++ l ∷ []) rest (subst IsLabelSet (sym split) set) ∙ ap Ok split)

with_labels : List ℕ → Result LabelList SdError → Result Group SdError
with_labels address r = r >>= λ labels. Ok (record { targets = address ∷ []; labels = labels })

group_back : LastIsPutLast → (target : FinalTarget) → IsLabelSet target.labels → group_said 0 Groups (target_data target) ≡ Ok (record { targets = target.address ∷ []; labels = target.labels })
unfolding with_labels
group_back last target set = ap (with_labels target.address) (labels_back last [] target.labels set)

filled_back : (text : List ℕ) → is_some_text text ≡ true → filled_text text ≡ Some text
filled_back [] some = cc
filled_back (b ∷ bs) some = refl

pub target_back : LastIsPutLast → FinishesAgain → (target : FinalTarget) → IsFinal target → target_in (target_data target) ≡ Some target
unfolding target_in
target_back last again target final =
    ap (λ (r : Result Group SdError). option_and_then target_of (result_ok r)) (group_back last target final.labels)
    ∙ ap (option_and_then (target_at target.labels)) (filled_back target.address final.address)
    ∙ ap finished_target (again target final)
