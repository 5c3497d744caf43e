-- A discovery that was written token by token says the discovery.
use Rattle.std.proofs.Common.{◌≡◌, ℕ, suc, ◌<◌, ◌^◌, ◌++◌, List, [], ◌∷◌, Some, refl, ap, ◌∙◌, append_assoc, arith}
use Rattle.std.proofs.lemmas.Bool.{lt-ltb}
use Rattle.serde_json.specs.Read.{of_items}
use Rattle.serde_json.specs.Written.{items_outline}
use Rattle.serde_json.proofs.Numbers.{number_of-decimal}
use Rattle.json_values.specs.Spelling.{all_in, items_data}
use Rattle.json_values.specs.Texts.{ReadsTokens}
use Rattle.label_sets.specs.Target.{FinalTarget, target_data}
use Rattle.fleet_events.specs.Reading.{discover_in, event_in}
use Rattle.fleet_events.specs.Targets.{AreReadBack, target_in}
use Rattle.fleet_events.specs.Writing.{discover_data}
use Rattle.fleet_events.specs.declared.event.Event.TheVariants.{Discover}

items_read : (targets : List FinalTarget) → AreReadBack targets → of_items (items_outline (items_data target_data targets)) ≡ Some (items_data target_data targets)
items_read [] said = refl
items_read (target ∷ targets) said = rw ((said 0 target (omega arith)).0, items_read targets (λ i d less. said (suc i) d (omega (arith, less)))) refl

items_said : (targets : List FinalTarget) → AreReadBack targets → all_in target_in (items_data target_data targets) ≡ Some targets
items_said [] said = refl
items_said (target ∷ targets) said = rw ((said 0 target (omega arith)).1, items_said targets (λ i d less. said (suc i) d (omega (arith, less)))) refl

pub discover_reads : (job : List ℕ) (source : ℕ) (targets : List FinalTarget) → source < 2 ^ 32 → AreReadBack targets → ReadsTokens (discover_data job source targets)
discover_reads job source targets fits said = rw (number_of-decimal source (omega (arith, fits)), items_read targets said) refl

pub discover_event : (job : List ℕ) (source : ℕ) (targets : List FinalTarget) → source < 2 ^ 32 → AreReadBack targets → event_in (discover_data job source targets) ≡ Some (Discover job source targets)
unfolding event_in discover_in
discover_event job source targets fits said = rw (items_said targets said, lt-ltb source (2 ^ 32) fits) refl

-- what was written behind what was written
pub written_more : {X : Type 0} (before done more first second : List X) → first ≡ before ++ done → second ≡ first ++ more → second ≡ before ++ (done ++ more)
written_more {X = X} before done more first second f s = s ∙ ap (λ (xs : List X). xs ++ more) f ∙ append_assoc before done more
