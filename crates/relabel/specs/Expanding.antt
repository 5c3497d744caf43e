-- What is made of two templates at a match.
use Rattle.std.specs.Prelude.{◌≡◌, ℕ, List, Option, Some, None, MatchOption}
use Rattle.regex.specs.Patterns.{Match}
use Rattle.regex.specs.Replace.{group_bytes}
use Rattle.regex.specs.Templates.{written_after}
use Rattle.regex.specs.Strings.{IsReadFrom}
use Rattle.regex.specs.declared.string.template.Template.{Template}

-- the bytes are what the text of the template stands for at the match
abbrev pub IsExpansion : Match → Template → List ℕ → List ℕ → Type 0
IsExpansion m template text out = (names : List (Option (List ℕ))) (written : List ℕ) → IsReadFrom names written template → out ≡ written_after names (group_bytes text m) written 0

-- there are two where there is a match
abbrev pub AreExpansions : Option Match → Template → Template → List ℕ → Option (List ℕ × List ℕ) → Type 0
AreExpansions found first second text out =
    MatchOption out (found ≡ None) (λ e. (m : Match) × (found ≡ Some m) × IsExpansion m first text e.0 × IsExpansion m second text e.1)
