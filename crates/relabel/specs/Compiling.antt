-- What is kept of a compiled pattern, and why a text is not compiled.
use Rattle.std.specs.Prelude.{◌≡◌, ◌<◌, ◌⊎◌, ℕ, List, All, Bool, true, false, Some, option_map}
use Rattle.regex.specs.Patterns.{find_str}
use Rattle.regex.specs.Strings.{regex_pattern, regex_names}
use Rattle.regex.specs.declared.string.regex.Regex.{Regex}
use Rattle.relabel.specs.declared.pattern.PatternError.{PatternError}
use Rattle.relabel.specs.declared.pattern.PatternError.TheVariants.{NoPattern, TooBig, Memory}
use Rattle.regex.specs.Strings.{IsReadFrom}
use Rattle.regex.specs.declared.string.template.Template.{Template}
use Rattle.relabel.specs.declared.error.RuleError.{RuleError}
use Rattle.relabel.specs.declared.error.RuleError.TheVariants as rule
use Rattle.relabel.specs.declared.rule.RuleSettings.{RuleSettings}
use Rattle.relabel.specs.Patterns.{Pattern, pattern_in, whole_form, names_in, seen, FindsAs}

-- the regex finds what the pattern that the text is finds, and has its names
pub record IsFormOf (source : List ℕ) (r : Regex) : Type 0 where
  pub pattern : Pattern
  pub read : pattern_in source ≡ Some pattern
  pub finds : (text : List ℕ) → All (λ b. b < 256) text → option_map seen (find_str (regex_pattern r) text 0) ≡ option_map seen (find_str pattern.0 text 0)
  pub names : regex_names r ≡ pattern.1

-- a text is refused as no pattern where it is none, and only a pattern is too big
abbrev pub IsFailure : PatternError → Bool → Type 0
IsFailure NoPattern is_one = is_one ≡ false
IsFailure TooBig is_one = is_one ≡ true
IsFailure Memory is_one = Unit {0}

-- the compiler may say of one of a pattern's two texts that it is too big
abbrev pub IsTooBig : (List ℕ → Bool) → List ℕ → Type 0
IsTooBig too_big pattern = (too_big pattern ≡ true) ⊎ (too_big (whole_form pattern) ≡ true)

-- the compiler may take both texts of a pattern
abbrev pub AreTaken : (List ℕ → Bool) → List ℕ → Type 0
AreTaken taken pattern = (taken pattern ≡ true) × (taken (whole_form pattern) ≡ true)

-- nothing is known: it may be any text
abbrev pub any_text : List ℕ → Bool
any_text text = true

-- what a refused pattern makes of its rule
abbrev pub refused_as : PatternError → RuleError
refused_as NoPattern = rule.BadPattern
refused_as TooBig = rule.BadPattern
refused_as Memory = rule.Memory

-- the regex finds what the rule's pattern finds, and the templates are what their texts stand for
pub record IsCompiled (settings : RuleSettings) (regex : Regex) (target replacement : Template) : Type 0 where
  pub finds : FindsAs settings.pattern (regex_pattern regex)
  pub target_is : IsReadFrom (names_in settings.pattern) settings.target_label target
  pub replacement_is : IsReadFrom (names_in settings.pattern) settings.replacement replacement
