-- What the loops that look for faults find.
use Rattle.std.proofs.Common.{◌≡◌, ◌≢◌, ◌+◌, ◌<◌, ◌≤◌, ◌||◌, ℕ, eqb, Bool, true, false, List, Some, None, length, get_or, sym, ap, subst, ◌∙◌, arith}
use Rattle.std.proofs.lemmas.Bool.{ne_eqb, lt-leb, le-leb}
use Rattle.price_certificate.specs.Problem.{Problem, row_of}
use Rattle.price_certificate.specs.Faults.{first_below, bin_at}
use Rattle.price_certificate.proofs.First.{first_found, first_more}
use Rattle.spread_certificate.specs.Even.{owners_of, load_in, caps_of, with_slack}
use Rattle.spread_certificate.specs.EvenFaults.{even_unless, level_fault, level_fault_at, level_worth, price_fault_at, row_fault, load_fault, load_fault_at, room_fault, room_fault_at}
use Rattle.spread_certificate.specs.declared.even.Even.{Even}
use Rattle.spread_certificate.specs.declared.verdict.EvenFault.{EvenFault}
use Rattle.spread_certificate.specs.declared.verdict.EvenFault.TheVariants.{LevelTooHigh, PriceTooLow, OffLevel, CapsTooHigh}

unless_false : (b : Bool) (fault : EvenFault) → b ≡ false → even_unless b fault ≡ Some fault
unless_false b fault e = ap (λ (t : Bool). even_unless t fault) e

unless_true : (b : Bool) (fault : EvenFault) → b ≡ true → even_unless b fault ≡ None
unless_true b fault e = ap (λ (t : Bool). even_unless t fault) e

neither : (a b : Bool) → a ≡ false → b ≡ false → (a || b) ≡ false
neither a b e f = ap (λ (t : Bool). t || b) e ∙ f

pub found_high_level : (p : Problem) (even : Even) (c : ℕ) → c < owners_of p even.jobs → first_below (level_fault_at even) c ≡ None → even.keep < get_or even.levels c 0 → level_fault p even ≡ Some (LevelTooHigh c)
unfolding level_fault
found_high_level p even c l none h = first_found (level_fault_at even) (owners_of p even.jobs) c (LevelTooHigh c) l none (unless_false _ _ (lt-leb _ _ h))

pub found_off_level : (p : Problem) (even : Even) (pairs : List (ℕ × ℕ)) (c : ℕ) → c < owners_of p even.jobs → first_below (load_fault_at p even pairs) c ≡ None → load_in p even.jobs pairs c ≢ get_or even.levels c 0 → load_in p even.jobs pairs c ≢ get_or even.levels c 0 + 1
    → load_fault p even pairs ≡ Some (OffLevel c)
unfolding load_fault
found_off_level p even pairs c l none d e =
    let load = load_in p even.jobs pairs c in
    let level = get_or even.levels c 0 in
    first_found (load_fault_at p even pairs) (owners_of p even.jobs) c (OffLevel c) l none (unless_false _ _ (neither (eqb load level) (eqb load (level + 1)) (ne_eqb load level d) (ne_eqb load (level + 1) e)))

pub found_high_caps : (p : Problem) (even : Even) (caps : List ℕ) (pairs : List (ℕ × ℕ)) (c : ℕ) → c < owners_of p even.jobs → first_below (room_fault_at p even caps pairs) c ≡ None → with_slack even.slack (load_in p even.jobs pairs c) < caps_of p even.jobs caps c
    → room_fault p even caps pairs ≡ Some (CapsTooHigh c)
unfolding room_fault
found_high_caps p even caps pairs c l none h = first_found (room_fault_at p even caps pairs) (owners_of p even.jobs) c (CapsTooHigh c) l none (unless_false _ _ (lt-leb _ _ h))

-- the pair that is priced too low, as its row was read
pub low_as : (p : Problem) (even : Even) (item place : ℕ) (row : List ℕ) → row ≡ row_of p item → place < length row → first_below (price_fault_at p even item) place ≡ None → get_or even.item_prices item 0 + get_or even.bin_prices (get_or row place 0) 0 < level_worth p even item (get_or row place 0)
    → Some (PriceTooLow item (get_or row place 0)) ≡ row_fault p even item
unfolding row_fault
low_as p even item place row row_is l none low =
    let read : get_or row place 0 ≡ bin_at p item place = ap (λ (xs : List ℕ). get_or xs place 0) row_is in
    let here : get_or even.item_prices item 0 + get_or even.bin_prices (bin_at p item place) 0 < level_worth p even item (bin_at p item place) = subst (λ (b : ℕ). get_or even.item_prices item 0 + get_or even.bin_prices b 0 < level_worth p even item b) read low in
    ap (λ (b : ℕ). Some (PriceTooLow item b)) read ∙ sym (first_found (price_fault_at p even item) (length (row_of p item)) place (PriceTooLow item (bin_at p item place)) (omega (arith, ap (λ (xs : List ℕ). length xs) row_is)) none (unless_false _ _ (lt-leb _ _ here)))

pub fair_as : (p : Problem) (even : Even) (item place : ℕ) (row : List ℕ) → row ≡ row_of p item → first_below (price_fault_at p even item) place ≡ None → level_worth p even item (get_or row place 0) ≤ get_or even.item_prices item 0 + get_or even.bin_prices (get_or row place 0) 0
    → first_below (price_fault_at p even item) (place + 1) ≡ None
fair_as p even item place row row_is none fair =
    let read : get_or row place 0 ≡ bin_at p item place = ap (λ (xs : List ℕ). get_or xs place 0) row_is in
    let here : level_worth p even item (bin_at p item place) ≤ get_or even.item_prices item 0 + get_or even.bin_prices (bin_at p item place) 0 = subst (λ (b : ℕ). level_worth p even item b ≤ get_or even.item_prices item 0 + get_or even.bin_prices b 0) read fair in
    first_more (price_fault_at p even item) place none (unless_true _ _ (le-leb _ _ here))
