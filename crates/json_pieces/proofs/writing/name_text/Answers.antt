use Rattle.std.proofs.Common.{◌≡◌, [], ◌∷◌, ◌++◌, ap, ap₂, ◌∙◌, subst, rules}
use Rattle.std.specs.Prelude.{IsUtf8}
use Rattle.json.specs.Print.{print}
use Rattle.json.specs.Token.{key}
use Rattle.serde_json.specs.Written.{comma_if}
use Rattle.json_pieces.proofs.Steps.{name_alone}
use Rattle.json_pieces.proofs.writing.name_text.Goals as goal

pub returns-clause-text : goal.returns-clause-text
returns-clause-text c =
    let name = c.args.name.now in
    let before : c.key.new.self.before ≡ comma_if c.args.is_later = search rules in
    let tokens : c.key.new.self.tokens ≡ key name ∷ [] = search rules in
    c.into_inner.ensures.items ∙ ap₂ (λ b ts. b ++ print ts) before tokens ∙ ap (λ t. comma_if c.args.is_later ++ t) (name_alone name)

pub returns-clause-utf8 : goal.returns-clause-utf8
returns-clause-utf8 c =
    let name = c.args.name.now in
    let tokens : c.key.new.self.tokens ≡ key name ∷ [] = search rules in
    subst IsUtf8 (ap print tokens ∙ name_alone name) c.into_inner.ensures.utf8
