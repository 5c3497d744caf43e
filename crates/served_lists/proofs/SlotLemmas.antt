-- Slots by target, and the job that a target is of.
use Rattle.std.proofs.Common.{◌≡◌, ℕ, zero, suc, ◌+◌, ◌<◌, ◌≤◌, ◌⊎◌, ◌&&◌, inl, inr, Bool, true, false, List, [], ◌∷◌, ◌++◌, Option, Some, All, length, get_or, cond, refl, sym, ap, subst, ◌∙◌, arith, length-append}
use Rattle.std.specs.Prelude.{◌==◌, filter}
use Rattle.std.proofs.Math.ListN.{get_or-append}
use Rattle.std.proofs.lemmas.Bool.{cases_eq}
use Rattle.std.proofs.lemmas.List.{ext_get_or, get_or-append-add, get_or_past}
use Rattle.std.proofs.lemmas.List.Elements.{All-filter, filter_passes}
use Rattle.std.proofs.lemmas.Grind.{get_or_default_zero}
use Rattle.fleet.specs.Live.{is_in}
use Rattle.fleet.specs.Orderly.{is_of}
use Rattle.fleet.specs.declared.known_target.KnownTarget.{KnownTarget}
use Rattle.served_lists.specs.Served.{Served, has, is_free, listed_of, slot_let_go, slot_of, slot_served, tabulated, with_list, with_number, without_list}

pub length-tabulated : (f : ℕ → ℕ) (n : ℕ) → length (tabulated f n) ≡ n
length-tabulated f zero = refl
length-tabulated f (suc n) = omega (arith, length-append (tabulated f n) (f n ∷ []), length-tabulated f n)

pub slot_of-tabulated : (f : ℕ → ℕ) (n k : ℕ) → k < n → slot_of (tabulated f n) k ≡ f k
slot_of-tabulated f zero k l = absurd (omega (arith, l))
slot_of-tabulated f (suc n) k l = elim (cases_eq k n) [
  | inl e ↦
      let at : k ≡ length (tabulated f n) + 0 = omega (arith, e, length-tabulated f n) in
      ap (λ (i : ℕ). get_or (tabulated f n ++ f n ∷ []) i 0) at ∙ get_or-append-add (tabulated f n) (f n ∷ []) 0 0 ∙ ap f (sym e)
  | inr d ↦ get_or-append (tabulated f n) (f n ∷ []) 0 k (omega (arith, length-tabulated f n, l, d)) ∙ slot_of-tabulated f n k (omega (arith, l, d))
]

-- a list is tabulated where each of its numbers is
pub is_tabulated : (f : ℕ → ℕ) (slots : List ℕ) (n : ℕ) → length slots ≡ n → ((k : ℕ) → k < n → slot_of slots k ≡ f k) → slots ≡ tabulated f n
is_tabulated f slots n len each =
    ext_get_or 0 slots (tabulated f n) (len ∙ sym (length-tabulated f n)) (λ k l. each k (omega (arith, l, len)) ∙ sym (slot_of-tabulated f n k (omega (arith, l, len))))

pub tabulated-alike : (f g : ℕ → ℕ) (n : ℕ) → ((k : ℕ) → k < n → f k ≡ g k) → tabulated f n ≡ tabulated g n
tabulated-alike f g n each = is_tabulated g (tabulated f n) n (length-tabulated f n) (λ k l. slot_of-tabulated f n k l ∙ each k l)

-- the slots once a list claims targets, after it was let go
pub handed_over :
    (known : List KnownTarget) (slots gone new : List ℕ) (collector job : ℕ) (targets : List ℕ) → gone ≡ tabulated (slot_let_go known slots collector (Some job)) (length slots) → length new ≡ length gone
    → ((t : ℕ) → slot_of new t ≡ cond (is_in targets t) collector (slot_of gone t)) → new ≡ tabulated (slot_served known slots collector job targets) (length slots)
handed_over known slots gone new collector job targets go len claimed =
    let f = slot_let_go known slots collector (Some job) in
    is_tabulated (slot_served known slots collector job targets) new (length slots) (len ∙ ap (λ (xs : List ℕ). length xs) go ∙ length-tabulated f (length slots))
    (λ k l. claimed k ∙ ap (λ (x : ℕ). cond (is_in targets k) collector x) (ap (λ (xs : List ℕ). slot_of xs k) go ∙ slot_of-tabulated f (length slots) k l))

-- only the slots of known targets count
pub fitted :
    (known : List KnownTarget) (slots fit new : List ℕ) (collector job : ℕ) (targets : List ℕ) → length fit ≡ length known → ((t : ℕ) → t < length known → slot_of fit t ≡ slot_of slots t)
    → new ≡ tabulated (slot_served known fit collector job targets) (length fit) → new ≡ tabulated (slot_served known slots collector job targets) (length known)
fitted known slots fit new collector job targets len same e =
    e
    ∙ ap (λ (n : ℕ). tabulated (slot_served known fit collector job targets) n) len
    ∙ tabulated-alike (slot_served known fit collector job targets) (slot_served known slots collector job targets) (length known)
    (λ k l. ap (λ (x : ℕ). cond (is_in targets k) collector (cond ((x == collector) && is_of known job k) 0 x)) (same k l))

let_go_nothing : (b : Bool) (x : ℕ) → x ≡ 0 → cond b 0 x ≡ 0
let_go_nothing true x e = refl
let_go_nothing false x e = e

pub slot_past : (slots : List ℕ) (target : ℕ) → length slots ≤ target → slot_of slots target ≡ 0
slot_past slots target l = get_or_past slots target 0 l

-- past the last slot nothing is let go
pub let_go_past : (known : List KnownTarget) (slots : List ℕ) (collector : ℕ) (job : Option ℕ) (target : ℕ) → length slots ≤ target → slot_let_go known slots collector job target ≡ 0
let_go_past known slots collector job target l = let_go_nothing (has known slots collector job target) (slot_of slots target) (slot_past slots target l)

pub at_or_past : (n k : ℕ) → (k < n) ⊎ (n ≤ k)
at_or_past zero k = inr (omega arith)
at_or_past (suc n) zero = inl (omega arith)
at_or_past (suc n) (suc k) = elim (at_or_past n k) [ inl l ↦ inl (omega (arith, l)) | inr l ↦ inr (omega (arith, l)) ]

pub slot_of-without_list :
    (known : List KnownTarget) (served : Served) (collector : ℕ) (job : Option ℕ) (target : ℕ) → slot_of (without_list known served collector job).slots target ≡ slot_let_go known served.slots collector job target
slot_of-without_list known served collector job target =
    let f = slot_let_go known served.slots collector job in
    elim (at_or_past (length served.slots) target) [
      | inl l ↦ slot_of-tabulated f (length served.slots) target l
      | inr l ↦ slot_past (tabulated f (length served.slots)) target (omega (arith, l, length-tabulated f (length served.slots))) ∙ sym (let_go_past known served.slots collector job target l)
    ]

pub slot_of-with_list :
    (known : List KnownTarget) (served : Served) (collector job number : ℕ) (held : List ℕ) (target : ℕ) → target < length known
    → slot_of (with_list known served collector job number held).slots target ≡ slot_served known served.slots collector job (listed_of known served.slots collector job held) target
slot_of-with_list known served collector job number held target l = slot_of-tabulated (slot_served known served.slots collector job (listed_of known served.slots collector job held)) (length known) target l

pub length-with_list : (known : List KnownTarget) (served : Served) (collector job number : ℕ) (held : List ℕ) → length (with_list known served collector job number held).slots ≡ length known
length-with_list known served collector job number held = length-tabulated (slot_served known served.slots collector job (listed_of known served.slots collector job held)) (length known)

pub length-without_list : (known : List KnownTarget) (served : Served) (collector : ℕ) (job : Option ℕ) → length (without_list known served collector job).slots ≡ length served.slots
length-without_list known served collector job = length-tabulated (slot_let_go known served.slots collector job) (length served.slots)

-- What holds of all slots, of 0 and of the collector, holds of all slots after.
module _ (P : ℕ → Type 0) where
  all-tabulated : (f : ℕ → ℕ) (n : ℕ) → ((k : ℕ) → P (f k)) → All P (tabulated f n)
  all-tabulated f n each k d l = subst P (sym (get_or_default_zero (tabulated f n) k d l ∙ slot_of-tabulated f n k (omega (arith, l, length-tabulated f n)))) (each k)

  slot-all : (slots : List ℕ) → P 0 → All P slots → (target : ℕ) → P (slot_of slots target)
  slot-all slots none all target = elim (at_or_past (length slots) target) [
    | inl l ↦ all target 0 l
    | inr l ↦ subst P (sym (slot_past slots target l)) none
  ]

  either : (b : Bool) (x y : ℕ) → P x → P y → P (cond b x y)
  either true x y p q = p
  either false x y p q = q

  slot_let_go-all : (known : List KnownTarget) (slots : List ℕ) (collector : ℕ) (job : Option ℕ) → P 0 → All P slots → (target : ℕ) → P (slot_let_go known slots collector job target)
  slot_let_go-all known slots collector job none all target = either (has known slots collector job target) 0 (slot_of slots target) none (slot-all slots none all target)

  pub without_list-all : (known : List KnownTarget) (served : Served) (collector : ℕ) (job : Option ℕ) → P 0 → All P served.slots → All P (without_list known served collector job).slots
  without_list-all known served collector job none all = all-tabulated (slot_let_go known served.slots collector job) (length served.slots) (slot_let_go-all known served.slots collector job none all)

  pub with_list-all : (known : List KnownTarget) (served : Served) (collector job number : ℕ) (held : List ℕ) → P 0 → P collector → All P served.slots → All P (with_list known served collector job number held).slots
  with_list-all known served collector job number held none one all =
      let listed = listed_of known served.slots collector job held in
      all-tabulated (slot_served known served.slots collector job listed) (length known)
      (λ t. either (is_in listed t) collector (slot_let_go known served.slots collector (Some job) t) one (slot_let_go-all known served.slots collector (Some job) none all t))

-- a target is past the known ones, or of one job
pub homes : (known : List KnownTarget) (target : ℕ) → ((length known ≤ target) × ((job : ℕ) → is_of known job target ≡ false)) ⊎ ((home : ℕ) × (target < length known) × ((job : ℕ) → is_of known job target ≡ (home == job)))
homes [] target = inl (omega arith, λ job. refl)
homes (k ∷ known) zero = inr (k.job, omega arith, λ job. refl)
homes (k ∷ known) (suc target) = elim (homes known target) [
  | inl past ↦ let l = past.0 in inl (omega (arith, l), past.1)
  | inr home ↦ let l = home.1 in inr (home.0, omega (arith, l), home.2)
]

pub is_of-more : (known more : List KnownTarget) (job target : ℕ) → target < length known → is_of (known ++ more) job target ≡ is_of known job target
is_of-more [] more job target l = absurd (omega (arith, l))
is_of-more (k ∷ known) more job zero l = refl
is_of-more (k ∷ known) more job (suc target) l = is_of-more known more job target (omega (arith, l))

-- what is listed is known
known_at : (known : List KnownTarget) (job target : ℕ) → is_of known job target ≡ true → target < length known
known_at known job target e = elim (homes known target) [
  | inl past ↦ absurd (cc (e, past.1 job))
  | inr home ↦ home.1
]

pub listed_known : (known : List KnownTarget) (slots : List ℕ) (collector job : ℕ) (held : List ℕ) → All (λ (t : ℕ). t < length known) (listed_of known slots collector job held)
listed_known known slots collector job held =
    All-filter (is_free slots collector) (λ (t : ℕ). t < length known) (filter (is_of known job) held) (λ k d l. known_at known job _ (filter_passes (is_of known job) held k d l))

-- what a served list leaves, where its parts are seen
pub with_list_is :
    (known : List KnownTarget) (seen old new : Served) (collector job number : ℕ) (held listed : List ℕ) → seen ≡ old → listed ≡ listed_of known seen.slots collector job held
    → new.slots ≡ tabulated (slot_served known seen.slots collector job listed) (length known) → new.numbers ≡ with_number seen.numbers collector job number → new ≡ with_list known old collector job number held
with_list_is known seen old new collector job number held listed is list slots numbers =
    let all = slots ∙ ap (λ (xs : List ℕ). tabulated (slot_served known seen.slots collector job xs) (length known)) list in
    (λ i. record { slots = all i; numbers = numbers i }) ∙ ap (λ (s : Served). with_list known s collector job number held) is
