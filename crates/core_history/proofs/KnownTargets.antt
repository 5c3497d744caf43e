-- An entry of a job's number and a group's text says the target.
use Rattle.std.proofs.Common.{◌≡◌, ◌≢◌, ℕ, List, [], ◌∷◌, length, Some, None, IsUtf8, refl, sym, ap, subst, ◌∙◌, arith}
use Rattle.std.specs.Prelude.{option_and_then}
use Rattle.json.specs.Lex.{tokens}
use Rattle.json.specs.Print.{print}
use Rattle.serde_json.proofs.Texts.{print-outline}
use Rattle.serde_json.specs.View.{items_view}
use Rattle.serde_json.specs.declared.value.Value.{Value}
use Rattle.json_values.specs.Texts.{ReadsTokens, json_of, tokens_of}
use Rattle.json_values.proofs.Texts.{said_by_tokens}
use Rattle.label_sets.specs.Target.{FinalTarget, target_data, target_text}
use Rattle.fleet_events.specs.Targets.{target_in}
use Rattle.fleet_events.proofs.Forms.{target_levels}
use Rattle.core_history.specs.Parts.{known_by_text, target_said}

-- the text of a target's group is read as the group
pub text_says : (target : FinalTarget) → IsUtf8 (target_text target) → tokens (target_text target) ≡ tokens_of (target_data target) → ReadsTokens (target_data target) → json_of (target_text target) ≡ Some (target_data target)
text_says target utf8 same reads =
    let d = target_data target in
    let printed : print (tokens_of d) ≡ target_text target = print-outline d in
    ap json_of (sym printed) ∙ said_by_tokens [] (tokens_of d) d refl refl (ap tokens printed ∙ same) (subst IsUtf8 (sym printed) utf8) reads (omega (arith, target_levels target))

pub said_back : (text : List ℕ) (target : FinalTarget) → json_of text ≡ Some (target_data target) → target_in (target_data target) ≡ Some target → target_said text ≡ Some target
unfolding target_said
said_back text target says back = ap (option_and_then target_in) says ∙ back

pub no_pair : (vs : List Value) → length vs ≢ 2 → None ≡ known_by_text (items_view vs)
no_pair [] h = refl
no_pair (v ∷ []) h = refl
no_pair (v ∷ w ∷ []) h = absurd (h refl)
no_pair (v ∷ w ∷ u ∷ vs) h = refl
