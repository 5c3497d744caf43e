-- The loop that writes down, for each item, the bin beside it.
use Rattle.std.proofs.Common.{◌≡◌, ◌+◌, ◌<◌, ◌≤◌, ℕ, cond, eqb, Bool, true, false, List, [], ◌∷◌, ◌++◌, All, Option, Some, None, inl, inr, length, get_or, take, count_by, is_some, refl, sym, ap, subst, ◌∙◌, arith}
use Rattle.std.proofs.Math.ListN.{set, length-set}
use Rattle.std.specs.Prelude.{replicate}
use Rattle.std.proofs.lemmas.List.{get_or-set_same, get_or-set_other, get_or-replicate, get_or_past, get_or_default, take_more, length-replicate}
use Rattle.std.proofs.lemmas.List.Sums.{sum_by-append, sum_by-cons, sum_by-take-le, count_by_more_yes}
use Rattle.std.proofs.lemmas.List.Elements.{All-nil, All-push, All-head, All-tail}
use Rattle.std.proofs.lemmas.Option.{none-some}
use Rattle.std.proofs.lemmas.Bool.{cases_eq, cases_lt, eq-eqb, ne_eqb}
use Rattle.std.specs.List.{list_any}
use Rattle.price_certificate.specs.Problem.{IsPreceding, IsPlaced, IsMarked, IsRow, IsReach, IsProblem, IsShaped, IsProblemOf, bin_in}
use Rattle.price_certificate.specs.declared.version.Version.{Version}
use Rattle.price_certificate.specs.declared.version.Version.TheVariants.{One}

-- after some of the pairs
pub record IsPlacing (items bins : ℕ) (taken : List (ℕ × ℕ)) (places : List (Option ℕ)) : Type 0 where
  pub each : length places ≡ items
  pub in_range : All (λ (q : ℕ × ℕ). (q.0 < items) × (q.1 < bins)) taken
  pub found : (item : ℕ) → item < items → get_or places item None ≡ bin_in taken item
  pub counts : (item : ℕ) → count_by (λ (q : ℕ × ℕ). eqb q.0 item) taken ≡ cond (is_some (bin_in taken item)) 1 0

push_step : (c : Bool) (x : ℕ) (o last target : Option ℕ) → (o ≡ None → last ≡ target) → cond c (Some x) o ≡ None → cond c (Some x) last ≡ target
push_step true x o last target h n = cc
push_step false x o last target h n = h n

-- one more pair, of an item that had none
bin_in-push : (pairs : List (ℕ × ℕ)) (q : ℕ × ℕ) (item : ℕ) → bin_in pairs item ≡ None → bin_in (pairs ++ q ∷ []) item ≡ cond (eqb q.0 item) (Some q.1) None
bin_in-push [] q item n = refl
bin_in-push (r ∷ pairs) q item n = push_step (eqb r.0 item) r.1 (bin_in pairs item) (bin_in (pairs ++ q ∷ []) item) (cond (eqb q.0 item) (Some q.1) None) (λ e. bin_in-push pairs q item e) n

keep_step : (c : Bool) (x y : ℕ) (o last : Option ℕ) → (o ≡ Some y → last ≡ Some y) → cond c (Some x) o ≡ Some y → cond c (Some x) last ≡ Some y
keep_step true x y o last h n = n
keep_step false x y o last h n = h n

-- one more pair changes nothing of an item that had one
bin_in-keep : (pairs : List (ℕ × ℕ)) (q : ℕ × ℕ) (item bin : ℕ) → bin_in pairs item ≡ Some bin → bin_in (pairs ++ q ∷ []) item ≡ Some bin
bin_in-keep [] q item bin n = cc
bin_in-keep (r ∷ pairs) q item bin n = keep_step (eqb r.0 item) r.1 bin (bin_in pairs item) (bin_in (pairs ++ q ∷ []) item) (λ e. bin_in-keep pairs q item bin e) n

other_step : (o last : Option ℕ) (pairs : List (ℕ × ℕ)) (q : ℕ × ℕ) (item : ℕ) → eqb q.0 item ≡ false → bin_in pairs item ≡ o → bin_in (pairs ++ q ∷ []) item ≡ o
other_step None last pairs q item d e = bin_in-push pairs q item e ∙ ap (λ (c : Bool). cond c (Some q.1) None) d
other_step (Some bin) last pairs q item d e = bin_in-keep pairs q item bin e

-- one more pair of another item
bin_in-other : (pairs : List (ℕ × ℕ)) (q : ℕ × ℕ) (item : ℕ) → eqb q.0 item ≡ false → bin_in (pairs ++ q ∷ []) item ≡ bin_in pairs item
bin_in-other pairs q item d = other_step (bin_in pairs item) None pairs q item d refl

count_push : (pairs : List (ℕ × ℕ)) (q : ℕ × ℕ) (item : ℕ) → count_by (λ (r : ℕ × ℕ). eqb r.0 item) (pairs ++ q ∷ []) ≡ count_by (λ (r : ℕ × ℕ). eqb r.0 item) pairs + cond (eqb q.0 item) 1 0
count_push pairs q item = sum_by-append (λ (r : ℕ × ℕ). cond (eqb r.0 item) 1 0) pairs (q ∷ []) ∙ ap (λ n. count_by (λ (r : ℕ × ℕ). eqb r.0 item) pairs + n) (sum_by-cons (λ (r : ℕ × ℕ). cond (eqb r.0 item) 1 0) q [] ∙ omega arith)

at_most_one : (o : Option ℕ) → cond (is_some o) 1 0 ≤ 1
at_most_one None = omega arith
at_most_one (Some x) = omega arith

-- before the first pair
pub placing_none : (items bins : ℕ) (places : List (Option ℕ)) → places ≡ replicate items None → IsPlacing items bins [] places
placing_none items bins places e = record {
  each = ap (λ (xs : List (Option ℕ)). length xs) e ∙ length-replicate items None;
  in_range = All-nil (λ (q : ℕ × ℕ). (q.0 < items) × (q.1 < bins));
  found = λ item l. ap (λ (xs : List (Option ℕ)). get_or xs item None) e ∙ get_or-replicate items item None None l;
  counts = λ item. refl;
}

is_one : (o : Option ℕ) → is_some o ≡ true → ◌≡◌ {A = ℕ} (cond (is_some o) 1 0) 1
is_one o e = ap (λ (b : Bool). (let r : ℕ = cond b 1 0 in r)) e

is_none_of : (o : Option ℕ) → o ≡ None → ◌≡◌ {A = ℕ} (cond (is_some o) 1 0) 0
is_none_of o e = ap (λ (p : Option ℕ). (let r : ℕ = cond (is_some p) 1 0 in r)) e

is_some_of : (o : Option ℕ) (bin : ℕ) → o ≡ Some bin → ◌≡◌ {A = ℕ} (cond (is_some o) 1 0) 1
is_some_of o bin e = ap (λ (p : Option ℕ). (let r : ℕ = cond (is_some p) 1 0 in r)) e

pub placing_more : (items bins : ℕ) (taken : List (ℕ × ℕ)) (places : List (Option ℕ)) (item bin : ℕ) → IsPlacing items bins taken places → item < items → bin < bins → get_or places item None ≡ None → IsPlacing items bins (taken ++ (item, bin) ∷ []) (set places item (Some bin))
placing_more items bins taken places item bin h il bl none =
    let free : bin_in taken item ≡ None = sym (h.found item il) ∙ none in
    let in_places : item < length places = omega (arith, h.each) in
    let here : bin_in (taken ++ (item, bin) ∷ []) item ≡ Some bin = bin_in-push taken (item, bin) item free ∙ ap (λ (b : Bool). cond b (Some bin) None) (eq-eqb item item refl) in
    record {
      each = length-set places item (Some bin) ∙ h.each;
      in_range = All-push (λ (q : ℕ × ℕ). (q.0 < items) × (q.1 < bins)) taken (item, bin) h.in_range (il, bl);
      found = λ other ol. elim (cases_eq item other) [
        | inl e ↦ subst (λ (k : ℕ). get_or (set places item (Some bin)) k None ≡ bin_in (taken ++ (item, bin) ∷ []) k) e (get_or-set_same places item (Some bin) None in_places ∙ sym here)
        | inr d ↦ get_or-set_other places item other (Some bin) None (λ e. d (sym e)) ∙ h.found other ol ∙ sym (bin_in-other taken (item, bin) other (ne_eqb item other d))
      ];
      counts = λ other. elim (cases_eq item other) [
        | inl e ↦ subst (λ (k : ℕ). count_by (λ (q : ℕ × ℕ). eqb q.0 k) (taken ++ (item, bin) ∷ []) ≡ cond (is_some (bin_in (taken ++ (item, bin) ∷ []) k)) 1 0) e
            (omega (arith, count_push taken (item, bin) item, h.counts item, is_none_of _ free, is_some_of _ bin here, ap (λ (b : Bool). (let r : ℕ = cond b 1 0 in r)) (eq-eqb item item refl)))
        | inr d ↦ omega (arith, count_push taken (item, bin) other, h.counts other, ap (λ (o : Option ℕ). (let r : ℕ = cond (is_some o) 1 0 in r)) (bin_in-other taken (item, bin) other (ne_eqb item other d)), ap (λ (b : Bool). (let r : ℕ = cond b 1 0 in r)) (ne_eqb item other d))
      ];
    }

-- an item that has a bin stands in the pairs already
pub placing_twice : (items bins : ℕ) (pairs : List (ℕ × ℕ)) (i : ℕ) (places : List (Option ℕ)) (q : ℕ × ℕ) → IsPlacing items bins (take i pairs) places → q.0 < items → is_some (get_or places q.0 None) ≡ true → i < length pairs → get_or pairs i q ≡ q → IsPreceding items bins pairs → ⊥
placing_twice items bins pairs i places q h il some l e preceding =
    let taken : count_by (λ (r : ℕ × ℕ). eqb r.0 q.0) (take i pairs) ≡ 1 = h.counts q.0 ∙ is_one _ (ap (λ (o : Option ℕ). is_some o) (sym (h.found q.0 il)) ∙ some) in
    let more : count_by (λ (r : ℕ × ℕ). eqb r.0 q.0) (take (i + 1) pairs) ≡ count_by (λ (r : ℕ × ℕ). eqb r.0 q.0) (take i pairs) + 1 = count_by_more_yes (λ (r : ℕ × ℕ). eqb r.0 q.0) pairs i q l (ap (λ (r : ℕ × ℕ). eqb r.0 q.0) e ∙ eq-eqb q.0 q.0 refl) in
    let all = sum_by-take-le (λ (r : ℕ × ℕ). cond (eqb r.0 q.0) 1 0) pairs (i + 1) in
    omega (arith, taken, more, all, preceding.once q.0)

-- after the last pair
pub placing_all : (items bins : ℕ) (pairs : List (ℕ × ℕ)) (places : List (Option ℕ)) → IsPlacing items bins pairs places → IsPreceding items bins pairs × IsPlaced items pairs places
placing_all items bins pairs places h = (record { in_range = h.in_range; once = λ item. omega (arith, h.counts item, at_most_one (bin_in pairs item)) }, record { each = h.each; bins = h.found })

head_bin : (c : Bool) (x y bins : ℕ) (o : Option ℕ) → x < bins → (o ≡ Some y → y < bins) → cond c (Some x) o ≡ Some y → y < bins
head_bin true x y bins o l h e = let s : x ≡ y = cc in omega arith
head_bin false x y bins o l h e = h e

bin_in-below : (items bins : ℕ) (pairs : List (ℕ × ℕ)) (item bin : ℕ) → All (λ (q : ℕ × ℕ). (q.0 < items) × (q.1 < bins)) pairs → bin_in pairs item ≡ Some bin → bin < bins
bin_in-below items bins [] item bin h e = cc
bin_in-below items bins (q ∷ pairs) item bin h e =
    let P : ℕ × ℕ → Type 0 = λ (r : ℕ × ℕ). (r.0 < items) × (r.1 < bins) in
    head_bin (eqb q.0 item) q.1 bin bins (bin_in pairs item) (All-head P q pairs h).1 (λ f. bin_in-below items bins pairs item bin (All-tail P q pairs h) f) e

-- the bins that are written down are in range
pub placed_in_range : (items bins : ℕ) (pairs : List (ℕ × ℕ)) (places : List (Option ℕ)) → IsPreceding items bins pairs → IsPlaced items pairs places → (item bin : ℕ) → get_or places item None ≡ Some bin → bin < bins
placed_in_range items bins pairs places preceding placed item bin e = elim (cases_lt item items) [
  | inl l ↦ bin_in-below items bins pairs item bin preceding.in_range (sym (placed.bins item l) ∙ e)
  | inr g ↦ absurd (none-some bin (sym (get_or_past places item None (omega (arith, placed.each))) ∙ e))
]

-- what is read at a place, by the option that the code found there
read_at : (places : List (Option ℕ)) (item : ℕ) (o : Option ℕ) → item < length places → o ≡ get_or places item o → get_or places item None ≡ o
read_at places item o l e = get_or_default places item None o l ∙ sym e

none_of : (o : Option ℕ) → false ≡ is_some o → o ≡ None
none_of None e = refl
none_of (Some x) e = cc

-- the loop's step
pub placing_on : (items bins : ℕ) (pairs : List (ℕ × ℕ)) (i : ℕ) (places : List (Option ℕ)) (q : ℕ × ℕ) (o : Option ℕ) → IsPlacing items bins (take i pairs) places → q.0 < items → q.1 < bins → o ≡ get_or places q.0 o → false ≡ is_some o → i < length pairs → get_or pairs i (0, 0) ≡ q → IsPlacing items bins (take (i + 1) pairs) (set places q.0 (Some q.1))
placing_on items bins pairs i places q o h il bl read none l e =
    let next : take (i + 1) pairs ≡ take i pairs ++ q ∷ [] = take_more pairs i (0, 0) l ∙ ap (λ (r : ℕ × ℕ). take i pairs ++ r ∷ []) e in
    let empty : get_or places q.0 None ≡ None = read_at places q.0 o (omega (arith, h.each)) read ∙ none_of o none in
    subst (λ (taken : List (ℕ × ℕ)). IsPlacing items bins taken (set places q.0 (Some q.1))) (sym next) (placing_more items bins (take i pairs) places q.0 q.1 h il bl empty)

-- the loop's refusal
pub placing_refused : (items bins : ℕ) (pairs : List (ℕ × ℕ)) (i : ℕ) (places : List (Option ℕ)) (q : ℕ × ℕ) (o : Option ℕ) → IsPlacing items bins (take i pairs) places → q.0 < items → o ≡ get_or places q.0 o → true ≡ is_some o → i < length pairs → get_or pairs i (0, 0) ≡ q → IsPreceding items bins pairs → ⊥
placing_refused items bins pairs i places q o h il read some l e =
    let there : is_some (get_or places q.0 None) ≡ true = ap (λ (p : Option ℕ). is_some p) (read_at places q.0 o (omega (arith, h.each)) read) ∙ sym some in
    placing_twice items bins pairs i places q h il there l (get_or_default pairs i q (0, 0) l ∙ e)

-- what the marks of a version are
old_marks : (version : Version) (bins : ℕ) (draining : List ℕ) (marks : List Bool) → (version ≡ One → draining ≡ []) → IsMarked bins draining marks → version ≡ One → (bin : ℕ) → get_or marks bin false ≡ false
old_marks version bins draining marks none marked e bin = elim (cases_lt bin bins) [
  | inl l ↦ marked.at bin l ∙ ap (λ (ds : List ℕ). list_any (λ b. eqb b bin) ds) (none e)
  | inr g ↦ get_or_past marks bin false (omega (arith, marked.each))
]

-- What makes an instance makes it of what it was given.
pub new_problem : (version : Version) (limits ls draining : List ℕ) (rows : List (List ℕ)) (pairs ps : List (ℕ × ℕ)) (made_marks marks : List Bool) (made places : List (Option ℕ)) (items bins : ℕ) → (version ≡ One → draining ≡ []) → ls ≡ limits → ps ≡ pairs → items ≡ length rows → bins ≡ length limits → made_marks ≡ marks → made ≡ places → IsReach ls rows → IsRow (length limits) draining → IsMarked (length limits) draining marks → IsPreceding items bins ps × IsPlaced items ps places → IsProblem (record { version = version; limits = limits; draining = made_marks; rows = rows; before = made }) × (IsShaped limits draining rows pairs × IsProblemOf (record { version = version; limits = limits; draining = made_marks; rows = rows; before = made }) version limits draining rows pairs)
new_problem version limits ls draining rows pairs ps made_marks marks made places items bins old ls_is ps_is items_is bins_is marks_is made_is reach row marked h =
    let same_reach : IsReach limits rows = subst (λ (xs : List ℕ). IsReach xs rows) ls_is reach in
    let same_marked : IsMarked (length limits) draining made_marks = subst (λ (xs : List Bool). IsMarked (length limits) draining xs) (sym marks_is) marked in
    let preceding : IsPreceding (length rows) (length limits) pairs = subst (λ (xs : List (ℕ × ℕ)). IsPreceding (length rows) (length limits) xs) ps_is (subst (λ (n : ℕ). IsPreceding n (length limits) ps) items_is (subst (λ (n : ℕ). IsPreceding items n ps) bins_is h.0)) in
    let placed : IsPlaced (length rows) pairs made = subst (λ (xs : List (Option ℕ)). IsPlaced (length rows) pairs xs) (sym made_is) (subst (λ (n : ℕ). IsPlaced n pairs places) items_is (subst (λ (xs : List (ℕ × ℕ)). IsPlaced items xs places) ps_is h.1)) in (
      record { reach = same_reach; bins = same_marked.each; old = old_marks version (length limits) draining made_marks old same_marked; items = placed.each; before_in_range = placed_in_range (length rows) (length limits) pairs made preceding placed },
      (record { reach = same_reach; drains = row; preceding = preceding }, record { same_version = refl; same_limits = refl; same_draining = same_marked; same_rows = refl; before = placed }),
    )
