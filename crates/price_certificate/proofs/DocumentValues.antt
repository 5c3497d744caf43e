-- A text says one value, and what that is no document of is no document.
use Rattle.std.proofs.Common.{◌≡◌, ℕ, List, subst}
use Rattle.serde_json.specs.Data.{Data}
use Rattle.json_values.specs.Texts.{ReadsAs}
use Rattle.price_certificate.specs.Problem.{Problem}
use Rattle.price_certificate.specs.Document.{SpellsPlan, SpellsInstance, IsInstanceDocument, IsDocument}

-- a text says one value
pub one_value : (bytes : List ℕ) (d e : Data) → ReadsAs bytes d → ReadsAs bytes e → d ≡ e
one_value bytes d e h k = cc

pub no_document : (bytes : List ℕ) (d : Data) (p : Problem) (pairs : List (ℕ × ℕ)) (item_prices bin_prices : List ℕ) → ReadsAs bytes d → (SpellsPlan d pairs item_prices bin_prices → ⊥) → IsDocument bytes p pairs item_prices bin_prices → ⊥
no_document bytes d p pairs item_prices bin_prices h none document =
    none (subst (λ (e : Data). SpellsPlan e pairs item_prices bin_prices) (one_value bytes document.says d document.json h) document.plan)

pub no_instance : (bytes : List ℕ) (d : Data) (p : Problem) → ReadsAs bytes d → (SpellsInstance d p → ⊥) → IsInstanceDocument bytes p → ⊥
no_instance bytes d p h none document =
    none (subst (λ (e : Data). SpellsInstance e p) (one_value bytes document.says d document.json h) document.instance)

pub is_instance : (bytes : List ℕ) (p : Problem) (pairs : List (ℕ × ℕ)) (item_prices bin_prices : List ℕ) → IsDocument bytes p pairs item_prices bin_prices → IsInstanceDocument bytes p
is_instance bytes p pairs item_prices bin_prices document = record { says = document.says; json = document.json; instance = document.instance }
