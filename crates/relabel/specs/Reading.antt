-- Reading a rule: what it says, or its first fault.
use Rattle.std.specs.Prelude.{◌≡◌, ◌≢◌, ◌⊎◌, ℕ, List, Bool, Result, Ok, Err}
use Rattle.relabel.specs.declared.error.RuleError.{RuleError}
use Rattle.relabel.specs.declared.error.RuleError.TheVariants.{Shape, UnknownAction, NoTargetLabel, ZeroModulus, BadPattern, Memory}
use Rattle.relabel.specs.declared.rule.RuleSettings.{RuleSettings}
use Rattle.relabel.specs.Compiling.{IsTooBig}

-- one after the other, up to the first fault
infixl 10 ◌>>=◌
abbrev pub ◌>>=◌ : {A B : Type 0} → Result A RuleError → (A → Result B RuleError) → Result B RuleError
(Ok x) >>= f = f x
(Err e) >>= f = Err e

-- what is returned is what is said, unless memory ran out
abbrev pub Gives : {A : Type 0} → Result A RuleError → Result A RuleError → Type 0
Gives (Ok x) said = said ≡ Ok x
Gives (Err e) said = e ≢ Memory → said ≡ Err e

-- Each refusal is the first fault, but a pattern that the grammar reads is refused too where the compiler may say that it
-- is too big.
abbrev pub Refuses : (List ℕ → Bool) → RuleError → Result RuleSettings RuleError → Type 0
Refuses too_big Memory said = Unit {0}
Refuses too_big BadPattern said = (said ≡ Err BadPattern) ⊎ ((rule : RuleSettings) × (said ≡ Ok rule) × IsTooBig too_big rule.pattern)
Refuses too_big Shape said = said ≡ Err Shape
Refuses too_big UnknownAction said = said ≡ Err UnknownAction
Refuses too_big NoTargetLabel said = said ≡ Err NoTargetLabel
Refuses too_big ZeroModulus said = said ≡ Err ZeroModulus

-- what is returned is what is said
abbrev pub Reads : (List ℕ → Bool) → Result RuleSettings RuleError → Result RuleSettings RuleError → Type 0
Reads too_big (Ok rule) said = said ≡ Ok rule
Reads too_big (Err e) said = Refuses too_big e said
