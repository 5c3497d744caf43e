-- A target's text, as JSON, reads as the target's group.
use Rattle.std.proofs.Common.{◌≡◌, ℕ, zero, suc, ◌+◌, ◌<◌, true, [], length, take, drop, Some, refl, ap, ◌∙◌, arith, take_all}
use Rattle.std.specs.FinMap.{is_sorted}
use Rattle.std.proofs.lemmas.List.{drop_all, drop_more}
use Rattle.serde_json.specs.Data.{Members}
use Rattle.serde_json.specs.Read.{of_members}
use Rattle.serde_json.specs.Written.{members_outline}
use Rattle.json_values.specs.Texts.{ReadsTokens}
use Rattle.label_sets.specs.Labels.{LabelList, byte_cmp}
use Rattle.label_sets.specs.Target.{FinalTarget, target_data}
use Rattle.label_sets.specs.Written.{label_members}
use Rattle.label_sets.proofs.Objects.{put-last}

-- members in order are put one behind the other
members_from : (labels : LabelList) (i n : ℕ) → is_sorted byte_cmp labels ≡ true → i + n ≡ length labels → of_members (members_outline (label_members (drop i labels))) (label_members (take i labels)) ≡ Some (label_members labels)
members_from labels i zero sorted end =
    ap (λ (rest : LabelList). of_members (members_outline (label_members rest)) (label_members (take i labels))) (drop_all i labels (omega (arith, end)))
    ∙ ap (λ (all : LabelList). Some (label_members all)) (take_all i labels (omega (arith, end)))
members_from labels i (suc n) sorted end =
    let within : i < length labels = omega (arith, end) in
    let next : suc i ≡ i + 1 = omega arith in
    ap (λ (rest : LabelList). of_members (members_outline (label_members rest)) (label_members (take i labels))) (drop_more labels i ([], []) within)
    ∙ ap (λ (found : Members). of_members (members_outline (label_members (drop (i + 1) labels))) found) (put-last labels i ([], []) sorted within ∙ ap (λ (k : ℕ). label_members (take k labels)) next)
    ∙ members_from labels (i + 1) n sorted (omega (arith, end))

pub target_reads : (target : FinalTarget) → is_sorted byte_cmp target.labels ≡ true → ReadsTokens (target_data target)
target_reads target sorted = rw (members_from target.labels 0 (length target.labels) sorted (omega arith)) refl
