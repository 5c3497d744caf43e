use Rattle.std.proofs.Common.{◌≡◌, ◌∷◌, ◌++◌, drop}
use Rattle.json.specs.Token.{begin_object}
use Rattle.json.specs.Tree.{members_tokens}
use Rattle.serde_json.specs.Written.{members_outline}
use Rattle.label_sets.specs.Written.{label_members}
use Rattle.label_sets.proofs.texts.put_labels.Given as goal

abbrev pub invariant-loop-entry : goal.invariant-loop-entry
invariant-loop-entry l =
    record {
      tokens : l.out.tokens ++ members_tokens (members_outline (label_members (drop l.entry-index l.entries))) ≡ l.fn.out.tokens ++ begin_object ∷ members_tokens (members_outline (label_members l.entries));
      before : l.out.before ≡ l.fn.out.before;
    }
