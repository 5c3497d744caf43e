-- A list that is served again as it was.
use Rattle.std.proofs.Common.{◌≡◌, ℕ, ◌<◌, true, false, List, [], ◌∷◌, Option, Some, None, All, length, eqb, sym, ap, subst, ◌∙◌, arith}
use Rattle.std.specs.Prelude.{not}
use Rattle.std.specs.Option.{option_eq}
use Rattle.std.proofs.lemmas.Bool.Decides.{nat_tests}
use Rattle.fleet.specs.declared.known_target.KnownTarget.{KnownTarget}
use Rattle.served_lists.specs.Served.{Served, listed_of, number_of, slot_served, tabulated, with_list, with_number}
use Rattle.served_lists.proofs.NumberLemmas.{number_of-with_number}
use Rattle.served_lists.proofs.SlotLemmas.{length-with_list, listed_known}

-- the number that was set is found
pub number_of-set : (numbers : List ((ℕ × ℕ) × ℕ)) (collector job number : ℕ) → number_of (with_number numbers collector job number) collector job ≡ Some number
number_of-set numbers collector job number = grind (arith, nat_tests, number_of-with_number numbers collector job number collector job)

-- the number that is there, set again
pub with_number_again : (numbers : List ((ℕ × ℕ) × ℕ)) (collector job number : ℕ) → number_of numbers collector job ≡ Some number → with_number numbers collector job number ≡ numbers
with_number_again [] collector job number e = absurd (cc e)
with_number_again (((c, j), n) ∷ numbers) collector job number e = grind (arith, nat_tests, e, with_number_again numbers collector job number)

-- the targets of a list are known, where the list is seen
pub known_where : (known : List KnownTarget) (slots : List ℕ) (collector job : ℕ) (held listed : List ℕ) → listed ≡ listed_of known slots collector job held → All (λ (t : ℕ). t < length known) listed
known_where known slots collector job held listed e = subst (λ (ts : List ℕ). All (λ (t : ℕ). t < length known) ts) (sym e) (listed_known known slots collector job held)

-- each slot stays where the collector is served its list of a job
abbrev pub SlotsStay : List KnownTarget → ℕ → ℕ → List ℕ → List ℕ → Type 0
SlotsStay known collector job held slots = tabulated (slot_served known slots collector job (listed_of known slots collector job held)) (length known) ≡ slots

-- nothing changes where slots and number stay
pub unchanged :
    (known : List KnownTarget) (served : Served) (slots : List ℕ) (collector job number : ℕ) (held : List ℕ) → slots ≡ served.slots → number_of served.numbers collector job ≡ Some number → SlotsStay known collector job held slots
    → with_list known served collector job number held ≡ served
unchanged known served slots collector job number held at one stay =
    let same = subst (SlotsStay known collector job held) at stay in
    let numbers = with_number_again served.numbers collector job number one in
    (λ i. record { slots = same i; numbers = numbers i })

-- where nothing changes, no slot moves
pub unmoved :
    (known : List KnownTarget) (served : Served) (slots : List ℕ) (collector job number : ℕ) (held : List ℕ) → slots ≡ served.slots → with_list known served collector job number held ≡ served → SlotsStay known collector job held slots
unmoved known served slots collector job number held at e = subst (SlotsStay known collector job held) (sym at) (ap (λ (s : Served). s.slots) e)

-- there are as many slots as targets, and the number is the one that was there
pub as_many : (known : List KnownTarget) (served : Served) (collector job number : ℕ) (held : List ℕ) → with_list known served collector job number held ≡ served → length served.slots ≡ length known
as_many known served collector job number held e = sym (ap (λ (s : Served). length s.slots) e) ∙ length-with_list known served collector job number held

pub of_number :
    (known : List KnownTarget) (served : Served) (collector job number : ℕ) (held : List ℕ) → with_list known served collector job number held ≡ served → number_of served.numbers collector job ≡ Some number
of_number known served collector job number held e = sym (ap (λ (s : Served). number_of s.numbers collector job) e) ∙ number_of-set served.numbers collector job number

-- what the test of two numbers tells
pub is_number : (found : Option ℕ) (number : ℕ) → not (option_eq eqb found (Some number)) ≡ false → found ≡ Some number
is_number None number e = absurd (cc e)
is_number (Some n) number e = grind (arith, nat_tests, e)

pub differs : (found : Option ℕ) (number : ℕ) → not (option_eq eqb found (Some number)) ≡ true → found ≡ Some number → ⊥
differs None number e is = cc is
differs (Some n) number e is = grind (arith, nat_tests, e, is)
