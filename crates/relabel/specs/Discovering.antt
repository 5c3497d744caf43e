-- What is made of the targets of a job's groups: the first labels of each, the rules, and what is finished of them.
use Rattle.std.specs.Prelude.{ℕ, ◌+◌, List, [], ◌∷◌, ◌++◌, length}
use Rattle.label_sets.specs.Finish.{finished}
use Rattle.label_sets.specs.declared.target.Finished.{Finished}
use Rattle.label_sets.specs.declared.target.Finished.TheVariants.{Target, NoAddress}
use Rattle.sd_documents.specs.FirstLabels.{first_labels}
use Rattle.sd_documents.specs.declared.config.Job.{Job}
use Rattle.sd_documents.specs.declared.group.Group.{Group}
use Rattle.relabel.specs.declared.rule.RuleSettings.{RuleSettings}
use Rattle.relabel.specs.declared.rules.Relabelled.{Relabelled}
use Rattle.relabel.specs.declared.rules.Relabelled.TheVariants.{Kept, Dropped}
use Rattle.relabel.specs.declared.discovery.Found.{Found}
use Rattle.relabel.specs.Applying.{relabelled}

abbrev pub nothing_found : Found
nothing_found = record { targets = []; dropped = 0; no_address = 0 }

-- how many targets it tells of
abbrev pub count_of : Found → ℕ
count_of found = length found.targets + found.dropped + found.no_address

-- one more target, or one more without an address
abbrev pub with_finished : Found → Finished → Found
with_finished found (Target target) = record found { targets = found.targets ++ target ∷ [] }
with_finished found NoAddress = record found { no_address = found.no_address + 1 }

abbrev pub with_relabelled : Found → Relabelled → Found
with_relabelled found (Kept labels) = with_finished found (finished labels)
with_relabelled found (Dropped number) = record found { dropped = found.dropped + 1 }

module _ (rules : List RuleSettings) (job : Job) (source : ℕ) where
  -- the targets of a group, in order
  abbrev pub with_targets : Group → List (List ℕ) → Found → Found
  with_targets group [] found = found
  with_targets group (target ∷ targets) found = with_targets group targets (with_relabelled found (relabelled rules (first_labels job group target source)))

  -- the groups, in order
  abbrev pub with_groups : List Group → Found → Found
  with_groups [] found = found
  with_groups (group ∷ groups) found = with_groups groups (with_targets group group.targets found)

  abbrev pub discovered : List Group → Found
  discovered groups = with_groups groups nothing_found
