use Rattle.std.proofs.Common.{◌≡◌, ◌<◌, ◌∷◌, ◌++◌, ℕ, drop, get_or}
use Rattle.json.specs.Token.{begin_array}
use Rattle.json.specs.Tree.{items_tokens}
use Rattle.json_values.specs.Spelling.{items_data}
use Rattle.serde_json.specs.Written.{items_outline}
use Rattle.label_sets.specs.Target.{FinalTarget, target_data}
use Rattle.fleet_events.specs.Targets.{IsReadBack}
use Rattle.fleet_events.proofs.writing.put_targets.Given as goal

abbrev pub invariant-loop-target : goal.invariant-loop-target
invariant-loop-target l =
    record {
      tokens : l.out.tokens ++ items_tokens (items_outline (items_data target_data (drop l.target-index l.targets))) ≡ l.fn.out.tokens ++ begin_array ∷ items_tokens (items_outline (items_data target_data l.targets));
      before : l.out.before ≡ l.fn.out.before;
      said : (i : ℕ) (d : FinalTarget) → i < l.target-index → IsReadBack (get_or l.targets i d);
    }
