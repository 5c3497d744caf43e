-- What is too long stays too long.
use Rattle.std.proofs.Common.{◌≡◌, ◌∙◌, ℕ, ◌+◌, ◌<◌, Bool, true, false, cond, List, [], ◌∷◌, length, drop, get_or, Option, Some, None, refl, arith}
use Rattle.std.proofs.lemmas.List.{at_drop_more}
use Rattle.std.specs.Str.{bytes_eq}
use Rattle.service_settings.specs.declared.duration.TheConstants.{LONGEST_DURATION}
use Rattle.service_settings.specs.declared.duration.Unit.{Unit}
use Rattle.service_settings.specs.Durations.{within, part_length, part_rest, sum_from}
use Rattle.service_settings.proofs.Numbers.{not_up_to, is_great, is_same}

by_end : (b : Bool) (o : Option ℕ) → o ≡ None → cond b o None ≡ None
by_end true o none = none
by_end false o none = refl

-- more parts make no smaller sum
pub too_long : (sum : ℕ) (units : List Unit) (text : List ℕ) → LONGEST_DURATION < sum → sum_from sum units text ≡ None
too_long sum [] text long = by_end (bytes_eq text []) (within sum) (not_up_to LONGEST_DURATION sum long)
too_long sum (unit ∷ units) text long = too_long (sum + part_length unit text) units (part_rest unit text) (omega (arith, long))

-- a part that is too long, or that makes the sum too long
pub sum_at_part : (sum : ℕ) (units : List Unit) (i : ℕ) (d : Unit) (text : List ℕ) → i < length units → within (part_length (get_or units i d) text) ≡ None → sum_from sum (drop i units) text ≡ None
sum_at_part sum units i d text less none =
    let unit = get_or units i d in
    at_drop_more (λ us. sum_from sum us text) units i d less
    ∙ too_long (sum + part_length unit text) (drop (i + 1) units) (part_rest unit text) (omega (arith, is_great LONGEST_DURATION (part_length unit text) none))

pub sum_at_sum : (sum part : ℕ) (units : List Unit) (i : ℕ) (d : Unit) (text : List ℕ) → i < length units → within (part_length (get_or units i d) text) ≡ Some part → within (sum + part) ≡ None → sum_from sum (drop i units) text ≡ None
sum_at_sum sum part units i d text less some none =
    let unit = get_or units i d in
    at_drop_more (λ us. sum_from sum us text) units i d less
    ∙ too_long (sum + part_length unit text) (drop (i + 1) units) (part_rest unit text) (omega (arith, is_great LONGEST_DURATION (sum + part) none, is_same LONGEST_DURATION (part_length unit text) part some))
