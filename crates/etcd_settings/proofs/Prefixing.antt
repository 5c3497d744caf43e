-- What is left of a text behind a prefix.
use Rattle.std.proofs.Common.{◌≡◌, ℕ, List, Option, Some, None, true, false, drop, option_map, MatchOption, refl, ap, ◌∙◌}
use Rattle.std.specs.Borrow.{Bor}
use Rattle.std.specs.Str.Pattern.{FindsTextPrefix, StripsPrefix}
use Rattle.std.proofs.lemmas.Str.Pattern.{starts_text}
use Rattle.etcd_settings.specs.Places.{behind}

pub stripped : (prefix text : List ℕ) (r : Option (Bor (List ℕ))) → MatchOption r (FindsTextPrefix prefix text None) (λ x. StripsPrefix (FindsTextPrefix prefix) text x.now) → option_map (λ (s : Bor (List ℕ)). s.now) r ≡ behind prefix text
stripped prefix text None lacks = rw (← starts_text false prefix text lacks) refl
stripped prefix text (Some x) (n, found, rest, fits) =
    rw (← starts_text true prefix text (n, found, rw found.0 found.2)) (ap Some (rest ∙ ap (λ k. drop k text) found.0))
