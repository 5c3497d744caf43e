-- What a template stands for at captures is what its text stands for at their match, in the words of the pattern.
use Rattle.std.proofs.Common.{◌≡◌, ◌∙◌, ◌<◌, ℕ, zero, suc, List, All, Option, Some, None, true, refl, ap, ap₂, sym, arith, ne_eqb, get_or, cond, ◌==◌, ◌+◌, ◌*◌}
use Rattle.std.specs.Prelude.{option_map}
use Rattle.std.proofs.lemmas.List.{get_or_default}
use Rattle.std.proofs.lemmas.Option.{none-some, same_Some}
use mathlib.Core.Path.{fun_ext}
use Rattle.regex.specs.Patterns.{Re, Match, find_str}
use Rattle.regex.specs.Replace.{bytes_of, group_bytes}
use Rattle.regex.specs.Search.{group_span}
use Rattle.regex.specs.Strings.{match_span, IsCapturesOf, IsReadFrom, expansion_of}
use Rattle.regex.specs.Templates.{written_after}
use Rattle.regex.specs.declared.string.captures.Captures.{Captures}
use Rattle.regex.specs.declared.string.template.Template.{Template}
use Rattle.regex.proofs.CapturesLemmas.{group_span-zero}
use Rattle.relabel.specs.Expanding.{IsExpansion, AreExpansions}
use Rattle.regex.specs.Writes.{both}
use Rattle.relabel.specs.declared.rule.RuleSettings.{RuleSettings}
use Rattle.relabel.specs.Effect.{expansions}
use Rattle.relabel.specs.Patterns.{match_of, names_in, expanded, Seen, seen, FindsAs}

groups_are : (c : Captures) (m : Match) (text : List ℕ) → IsCapturesOf text m c → (n : ℕ) →
    bytes_of c.whole.haystack.now (group_span true c.whole.haystack.now (match_span c.whole) c.groups.now n) ≡ group_bytes text m n
groups_are c m text of zero = ap₂ bytes_of of.0 (group_span-zero true _ _ _ ∙ ap Some of.1.whole_is)
groups_are c m text of (suc n) = rw (ne_eqb (suc n) 0 (omega arith)) (ap₂ bytes_of of.0 (of.2 (suc n) (omega arith)))

pub is_expansion : (c : Captures) (m : Match) (text : List ℕ) (template : Template) → IsCapturesOf text m c → IsExpansion m template text (expansion_of c template)
is_expansion c m text template of names written read =
    read true c.whole.haystack.now (match_span c.whole) c.groups.now ∙ ap (λ g. written_after names g written 0) (fun_ext (groups_are c m text of))

groups_of_seen : List ℕ → Seen → ℕ → List ℕ
groups_of_seen text s n = bytes_of text (cond (n == 0) (Some (s.0, s.1)) (both (s.2 (2 * n)) (s.2 (2 * n + 1))))

same_groups : (text : List ℕ) (m n : Match) → seen m ≡ seen n → group_bytes text m ≡ group_bytes text n
unfolding groups_of_seen
same_groups text m n same = ap (groups_of_seen text) same

module _ (names : List (Option (List ℕ))) (text target replacement : List ℕ) (first second : Template)
    (target_is : IsReadFrom names target first) (replacement_is : IsReadFrom names replacement second) where
  written_by : (o : Option (List ℕ × List ℕ)) (found other : Option Match) → option_map seen found ≡ option_map seen other → AreExpansions found first second text o →
      o ≡ option_map (λ m. (written_after names (group_bytes text m) target 0, written_after names (group_bytes text m) replacement 0)) other
  written_by None found None same h = refl
  written_by None found (Some n) same h = absurd (none-some (seen n) (sym (ap (option_map seen) h) ∙ same))
  written_by (Some (a, b)) found None same h = absurd (none-some (seen h.0) (sym same ∙ ap (option_map seen) h.1))
  written_by (Some (a, b)) found (Some n) same h =
      let groups = same_groups text h.0 n (same_Some (seen h.0) (seen n) (sym (ap (option_map seen) h.1) ∙ same)) in
      ap Some (ap₂ (λ (x y : List ℕ). (x, y))
      (h.2 names target target_is ∙ ap (λ g. written_after names g target 0) groups)
      (h.3 names replacement replacement_is ∙ ap (λ g. written_after names g replacement 0) groups))

pub small : (text : List ℕ) → ((k : ℕ) → get_or text k 0 < 256) → All (λ b. b < 256) text
small text bytes k d h = rw (get_or_default text k d 0 h) (bytes k)

-- what is made of the templates is what the rule's texts stand for
pub are_written : (rule : RuleSettings) (re : Re) (text : List ℕ) (first second : Template) → FindsAs rule.pattern re → All (λ b. b < 256) text →
    IsReadFrom (names_in rule.pattern) rule.target_label first → IsReadFrom (names_in rule.pattern) rule.replacement second →
    (o : Option (List ℕ × List ℕ)) → AreExpansions (find_str re text 0) first second text o → o ≡ expansions rule text
unfolding expanded
are_written rule re text first second finds bytes target_is replacement_is o =
    written_by (names_in rule.pattern) text rule.target_label rule.replacement first second target_is replacement_is o (find_str re text 0) (match_of rule.pattern text) (finds text bytes)
