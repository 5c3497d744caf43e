-- Each target is found, dropped or without an address.
use Rattle.std.proofs.Common.{◌≡◌, ℕ, ◌+◌, List, [], ◌∷◌, length, arith, length-append, ap, sym, ◌∙◌}
use Rattle.std.proofs.lemmas.List.Sums.{sum_by-cons}
use Rattle.std.specs.Prelude.{sum_by}
use Rattle.label_sets.specs.Finish.{finished}
use Rattle.label_sets.specs.declared.target.Finished.{Finished}
use Rattle.label_sets.specs.declared.target.Finished.TheVariants.{Target, NoAddress}
use Rattle.sd_documents.specs.FirstLabels.{first_labels}
use Rattle.sd_documents.specs.declared.config.Job.{Job}
use Rattle.sd_documents.specs.declared.group.Group.{Group}
use Rattle.relabel.specs.declared.rule.RuleSettings.{RuleSettings}
use Rattle.relabel.specs.declared.rules.Relabelled.{Relabelled}
use Rattle.relabel.specs.declared.rules.Relabelled.TheVariants.{Kept, Dropped}
use Rattle.relabel.specs.declared.discovery.Found.{Found}
use Rattle.relabel.specs.Applying.{relabelled}
use Rattle.relabel.specs.Discovering.{count_of, with_finished, with_relabelled, with_targets, with_groups, discovered, nothing_found}

one_finished : (found : Found) (f : Finished) → count_of (with_finished found f) ≡ count_of found + 1
one_finished found (Target target) = omega (arith, length-append found.targets (target ∷ []))
one_finished found NoAddress = omega arith

one_more : (found : Found) (r : Relabelled) → count_of (with_relabelled found r) ≡ count_of found + 1
one_more found (Kept labels) = one_finished found (finished labels)
one_more found (Dropped number) = omega arith

regrouped : (a b c : ℕ) → (a + b) + c ≡ a + (b + c)
regrouped a b c = omega arith

module _ (rules : List RuleSettings) (job : Job) (source : ℕ) where
  all_targets : (group : Group) (targets : List (List ℕ)) (found : Found) → count_of (with_targets rules job source group targets found) ≡ count_of found + length targets
  all_targets group [] found = omega arith
  all_targets group (target ∷ targets) found =
      let r = relabelled rules (first_labels job group target source) in
      let here : count_of (with_relabelled found r) ≡ count_of found + 1 = one_more found r in
      let rest = all_targets group targets (with_relabelled found r) in
      omega (arith, here, rest)

  all_groups : (groups : List Group) (found : Found) → count_of (with_groups rules job source groups found) ≡ count_of found + sum_by (λ (g : Group). length g.targets) groups
  all_groups [] found = omega arith
  all_groups (group ∷ groups) found =
      all_groups groups (with_targets rules job source group group.targets found)
      ∙ ap (λ n. n + sum_by (λ (g : Group). length g.targets) groups) (all_targets group group.targets found)
      ∙ regrouped (count_of found) (length group.targets) (sum_by (λ (g : Group). length g.targets) groups)
      ∙ ap (λ n. count_of found + n) (sym (sum_by-cons (λ (g : Group). length g.targets) group groups))

  pub all_counted : (groups : List Group) → count_of (discovered rules job source groups) ≡ sum_by (λ (g : Group). length g.targets) groups
  all_counted groups = let all = all_groups groups nothing_found in omega (arith, all)
