-- What is kept of a compiled pattern, from what `Regex::new` ensures.
use Rattle.std.proofs.Common.{◌≡◌, ◌≢◌, ◌≤◌, ◌<◌, ◌⊎◌, ℕ, List, true, false, cond, Option, Some, None, IsSomeAnd, IfSome, is_some, length, nat_le, refl, ap, ⊎_elim, le-leb}
use Rattle.std.specs.Prelude.{option_and_then}
use Rattle.std.specs.Str.{chars}
use Rattle.std.proofs.lemmas.Bool.{lt-leb}
use Rattle.regex_hir.specs.Meaning.{meaning}
use Rattle.regex_hir.specs.declared.hir.Hir.{Hir}
use Rattle.regex_syntax.specs.Captures.{SameCaptures}
use Rattle.regex_syntax.specs.Brackets.{Nested}
use Rattle.regex_syntax.specs.Grammar.{Names, read, group_count}
use Rattle.regex_syntax.specs.Verdict.{Reads, Refuses, default_config}
use Rattle.regex_syntax.specs.declared.error.Error as parser
use Rattle.regex_syntax.specs.declared.error.ErrorKind.TheVariants as kind
use Rattle.regex_syntax.proofs.CapturesLemmas.{find_str_alike}
use Rattle.regex.specs.Patterns.{Re}
use Rattle.regex.specs.Strings.{regex_pattern, regex_source, regex_config, regex_names, IsReadFromSource}
use Rattle.regex.specs.declared.string.regex.Regex.{Regex}
use Rattle.relabel.specs.Patterns.{Pattern, pattern_in, whole_form, match_of, names_in, FindsAs}
use Rattle.relabel.specs.Compiling.{IsFormOf}

abbrev within_limit : Nested Re × Names → Option Pattern
within_limit (found, names) = cond (nat_le found.depth default_config.nest_limit) (Some (found.value, names)) None

read_by : (o : Option (Nested Re × Names)) (a : Re) (names : Names) →
    IsSomeAnd o (λ (re, found). (re.depth ≤ default_config.nest_limit) × SameCaptures a re.value × (names ≡ found) × (group_count a ≤ length names)) →
    (p : Pattern) × (option_and_then within_limit o ≡ Some p) × SameCaptures a p.0 × (names ≡ p.1)
read_by None a names h = absurd h
read_by (Some (re, found)) a names h = ((re.value, found), rw (le-leb re.depth 250 h.0) refl, h.1, h.2)

as_read : (source : List ℕ) (hir : Hir) (names : Names) → Reads default_config source hir names →
    (p : Pattern) × (pattern_in source ≡ Some p) × SameCaptures (meaning hir) p.0 × (names ≡ p.1)
unfolding Reads pattern_in
as_read source hir names h = read_by (read default_config (chars source)) (meaning hir) names h

-- a text that is read is a pattern
pub some_pattern : (source : List ℕ) (hir : Hir) (names : Names) → Reads default_config source hir names → is_some (pattern_in source) ≡ true
some_pattern source hir names h = let found = as_read source hir names h in ap (λ (o : Option Pattern). is_some o) found.1

-- a regex finds what its text finds, and has its names
pub form_of : (r : Regex) (source : List ℕ) → regex_source r ≡ source → regex_config r ≡ default_config → IsReadFromSource r → IsFormOf source r
form_of r source is_source is_config is_read =
    let found = as_read source r.pattern.program.hir (regex_names r) (rw (is_source, is_config) at is_read) in
    record {
      pattern = found.0;
      read = found.1;
      finds = λ text bytes. find_str_alike _ _ found.2 text bytes 0;
      names = found.3;
    }

refused_by : (o : Option (Nested Re × Names)) (k : parser.Error) → k.kind ≢ kind.OutOfMemory →
    (k.kind ≡ kind.OutOfMemory) ⊎ ((o ≡ None) ⊎ ((k.kind ≡ kind.NestLimitExceeded) × IfSome o (λ (re, _). default_config.nest_limit < re.depth))) →
    is_some (option_and_then within_limit o) ≡ false
refused_by None k memory h = refl
refused_by (Some (re, found)) k memory h = ⊎_elim (λ is. absurd (memory is)) (⊎_elim (λ none. cc) (λ deep. rw (lt-leb re.depth 250 deep.1) refl)) h

-- a text that is refused for its syntax is no pattern
pub no_pattern : (source : List ℕ) (e : parser.Error) → Refuses default_config source e.kind → e.kind ≢ kind.OutOfMemory → is_some (pattern_in source) ≡ false
unfolding Refuses pattern_in
no_pattern source e refused right = refused_by (read default_config (chars source)) e right refused

-- the whole form of a pattern finds what the pattern finds
pub whole_finds : (pattern : List ℕ) (r : Regex) → IsFormOf (whole_form pattern) r → FindsAs pattern (regex_pattern r)
unfolding match_of
whole_finds pattern r form text bytes = rw form.read (form.finds text bytes)

pub whole_names : (pattern : List ℕ) (r : Regex) → IsFormOf (whole_form pattern) r → regex_names r ≡ names_in pattern
unfolding names_in
whole_names pattern r form = rw form.read form.names
