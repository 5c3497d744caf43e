-- What one more entry changes of each target's standing.
use Rattle.std.proofs.Common.{◌≡◌, ℕ, Option, Some, None, zero, suc, ◌+◌, ◌-◌, ◌<◌, ◌≤◌, List, [], ◌∷◌, ◌++◌, Bool, true, false, length, get_or, cond, eqb, refl, sym, ap, subst, ◌∙◌, inl, inr, eq-eqb, ne_eqb, arith, length-append}
use Rattle.std.specs.Prelude.{max, nat_le, ◌==◌, ◌&&◌, ◌||◌, map, filter, ◌≢◌, nat_eq}
use Rattle.std.specs.List.{list_any, IsDistinct}
use Rattle.std.proofs.Math.ListN.{set}
use Rattle.std.proofs.lemmas.List.{get_or-set_same, get_or-set_other, append-nil, map-append, length-map}
use Rattle.std.proofs.lemmas.List.Elements.{filter-append}
use Rattle.std.proofs.lemmas.List.Folds.{list_any-append}
use Rattle.std.proofs.lemmas.List.Sums.{sum_by_push}
use Rattle.std.proofs.lemmas.List.Quantifiers.{all_pairs_push}
use Rattle.std.proofs.lemmas.Bool.{cases_eq, cases_lt, both_ways, or_cases, or_parts, eqb-true, eqb-false, leb-false}
use Rattle.std.proofs.lemmas.Cmp.{nat_eq_equiv}
use Rattle.std.proofs.lemmas.Map.Keys.{IsDistinct-cons, IsDistinct-push}
use Rattle.std.proofs.lemmas.Map.Steps.{length-le_from_distinct_below}
use Rattle.scrape_books.specs.Books.{booking_refusal, samples_of, is_up, is_booked, is_past, entries_of, greatest_round, last_round_of, page_from}
use Rattle.scrape_books.specs.Standings.{is_marked, no_standing, page_with, IsBounded, IsStanding}
use Rattle.scrape_books.specs.Kept.{BookedOnce, IsKept, rounds_of}
use Rattle.scrape_books.proofs.MarkLemmas.{nothing_stands}
use Rattle.scrape_books.specs.declared.error.BooksError.{BooksError}
use Rattle.scrape_books.specs.declared.error.BooksError.TheVariants.{AlreadyBooked, Past}
use Rattle.scrape_books.specs.declared.report.Entry.{Entry}
use Rattle.scrape_books.specs.declared.report.Page.{Page}
use Rattle.scrape_books.specs.declared.standing.Standing.{Standing}

entries_push :
    (booked : List (ℕ × Entry)) (target other : ℕ) (entry : Entry) → entries_of (booked ++ (target, entry) ∷ []) other ≡ entries_of booked other ++ map (λ (q : ℕ × Entry). q.1) (cond (target == other) ((target, entry) ∷ []) [])
entries_push booked target other entry =
    ap (map (λ (q : ℕ × Entry). q.1)) (filter-append (λ (q : ℕ × Entry). q.0 == other) booked ((target, entry) ∷ [])) ∙ map-append (λ (q : ℕ × Entry). q.1) _ _

entries_same : (booked : List (ℕ × Entry)) (target : ℕ) (entry : Entry) → entries_of (booked ++ (target, entry) ∷ []) target ≡ entries_of booked target ++ entry ∷ []
entries_same booked target entry =
    entries_push booked target target entry ∙ ap (λ (b : Bool). entries_of booked target ++ map (λ (q : ℕ × Entry). q.1) (cond b ((target, entry) ∷ []) [])) (eq-eqb target target refl)

entries_other : (booked : List (ℕ × Entry)) (target other : ℕ) (entry : Entry) → other ≢ target → entries_of (booked ++ (target, entry) ∷ []) other ≡ entries_of booked other
entries_other booked target other entry differs =
    entries_push booked target other entry
    ∙ ap (λ (b : Bool). entries_of booked other ++ map (λ (q : ℕ × Entry). q.1) (cond b ((target, entry) ∷ []) [])) (ne_eqb target other (λ e. differs (sym e)))
    ∙ append-nil (entries_of booked other)

or_none : (b : Bool) → (b || false) ≡ b
or_none true = refl
or_none false = refl

booked_push : (booked : List (ℕ × Entry)) (target other : ℕ) (entry : Entry) (round : ℕ) → is_booked (booked ++ (target, entry) ∷ []) other round ≡ (is_booked booked other round || ((target == other) && (entry.round == round)))
booked_push booked target other entry round =
    list_any-append (λ (b : ℕ × Entry). (b.0 == other) && (b.1.round == round)) booked ((target, entry) ∷ [])
    ∙ ap (λ (b : Bool). is_booked booked other round || b) (or_none ((target == other) && (entry.round == round)))

greatest_push : (entries : List Entry) (entry : Entry) → greatest_round (entries ++ entry ∷ []) ≡ max (greatest_round entries) entry.round
greatest_push [] entry = omega arith
greatest_push (e ∷ entries) entry = let h = greatest_push entries entry in rw h (omega arith)

page_push : (entries : List Entry) (entry : Entry) → page_from (entries ++ entry ∷ []) ≡ page_with (page_from entries) entry
page_push entries entry =
    let reports : length (entries ++ entry ∷ []) ≡ length entries + 1 = length-append entries (entry ∷ []) in
    let ups = sum_by_push (λ (e : Entry). cond (is_up e.outcome) 1 0) entries entry in
    let samples = sum_by_push (λ (e : Entry). samples_of e.outcome) entries entry in
    cc

pub stands_same :
    (booked : List (ℕ × Entry)) (target : ℕ) (entry : Entry) (old new : Standing) → IsStanding booked target old → new.last ≡ max old.last entry.round → new.page ≡ page_with old.page entry
    → ((round : ℕ) → new.last < round + 64 → is_marked new.last new.rounds round ≡ (is_marked old.last old.rounds round || (entry.round == round))) → IsStanding (booked ++ (target, entry) ∷ []) target new
stands_same booked target entry old new stands last page marks =
    let same = entries_same booked target entry in
    record {
      last = last ∙ ap (λ (n : ℕ). max n entry.round) stands.last ∙ sym (ap greatest_round same ∙ greatest_push (entries_of booked target) entry);
      page = page ∙ ap (λ (p : Page). page_with p entry) stands.page ∙ sym (ap page_from same ∙ page_push (entries_of booked target) entry);
      marks = λ round near.
          marks round near ∙ ap (λ (b : Bool). b || (entry.round == round)) (stands.marks round (omega (arith, near, last)))
          ∙ sym (booked_push booked target target entry round ∙ ap (λ (b : Bool). is_booked booked target round || (b && (entry.round == round))) (eq-eqb target target refl));
    }

stands_other : (booked : List (ℕ × Entry)) (target other : ℕ) (entry : Entry) (standing : Standing) → other ≢ target → IsStanding booked other standing → IsStanding (booked ++ (target, entry) ∷ []) other standing
stands_other booked target other entry standing differs stands =
    let same = entries_other booked target other entry differs in
    record {
      last = stands.last ∙ sym (ap greatest_round same);
      page = stands.page ∙ sym (ap page_from same);
      marks = λ round near.
          stands.marks round near
          ∙ sym (booked_push booked target other entry round ∙ ap (λ (b : Bool). is_booked booked other round || (b && (entry.round == round))) (ne_eqb target other (λ e. differs (sym e))) ∙ or_none (is_booked booked other round));
    }

-- of one target no round is booked that another entry has
other_by : (t r rest : Bool) → ((t && r) || rest) ≡ false → t ≡ true → r ≡ false
other_by true false rest e s = refl
other_by true true rest e s = cc
other_by false r rest e s = cc

pub other_rounds : (booked : List (ℕ × Entry)) (target round : ℕ) → is_booked booked target round ≡ false → (k : ℕ) (d : ℕ × Entry) → k < length booked → (get_or booked k d).0 ≡ target → (get_or booked k d).1.round ≢ round
other_rounds [] target round fresh k d l s = absurd (omega arith)
other_rounds (b ∷ booked) target round fresh zero d l s =
    λ same. both_ways (eqb b.1.round round) (other_by (eqb b.0 target) (eqb b.1.round round) (is_booked booked target round) fresh (eq-eqb b.0 target s)) (eq-eqb b.1.round round same)
other_rounds (b ∷ booked) target round fresh (suc k) d l s = other_rounds booked target round (or_parts (eqb b.0 target && eqb b.1.round round) (is_booked booked target round) fresh).1 k d (omega arith) s

pub once_push : (booked : List (ℕ × Entry)) (b : ℕ × Entry) → BookedOnce booked → is_booked booked b.0 b.1.round ≡ false → BookedOnce (booked ++ b ∷ [])
once_push booked b once fresh = all_pairs_push (λ (a b : ℕ × Entry). a.0 ≡ b.0 → a.1.round ≢ b.1.round) booked b once (other_rounds booked b.0 b.1.round fresh)

-- the rounds of a target's entries are those that are booked
any_first :
    (c : Bool) (q : ℕ × Entry) (bs : List (ℕ × Entry)) (round : ℕ) (rest : Bool) → list_any (nat_eq round) (map (λ (e : Entry). e.round) (map (λ (p : ℕ × Entry). p.1) bs)) ≡ rest
    → list_any (nat_eq round) (map (λ (e : Entry). e.round) (map (λ (p : ℕ × Entry). p.1) (cond c (q ∷ bs) bs))) ≡ ((c && (q.1.round == round)) || rest)
any_first true q bs round rest e = λ i. nat_eq_equiv.symm round q.1.round i || e i
any_first false q bs round rest e = e

any_booked : (booked : List (ℕ × Entry)) (target round : ℕ) → list_any (nat_eq round) (rounds_of booked target) ≡ is_booked booked target round
any_booked [] target round = refl
any_booked (b ∷ booked) target round = any_first (b.0 == target) b (filter (λ (q : ℕ × Entry). q.0 == target) booked) round (is_booked booked target round) (any_booked booked target round)

apart_with : (booked : List (ℕ × Entry)) (target round : ℕ) → IsDistinct nat_eq (0 ∷ rounds_of booked target) → 0 < round → is_booked booked target round ≡ false → IsDistinct nat_eq ((0 ∷ rounds_of booked target) ++ round ∷ [])
apart_with booked target round apart some fresh =
    let none : (nat_eq round 0 || list_any (nat_eq round) (rounds_of booked target)) ≡ false =
    λ i. ne_eqb round 0 (λ e. absurd (omega (arith, e))) i || (any_booked booked target round ∙ fresh) i in
    IsDistinct-push nat_eq_equiv (0 ∷ rounds_of booked target) round apart none

rounds_same : (booked : List (ℕ × Entry)) (target : ℕ) (entry : Entry) → rounds_of (booked ++ (target, entry) ∷ []) target ≡ rounds_of booked target ++ entry.round ∷ []
rounds_same booked target entry = ap (map (λ (e : Entry). e.round)) (entries_same booked target entry) ∙ map-append (λ (e : Entry). e.round) (entries_of booked target) (entry ∷ [])

greatest_has : (entries : List Entry) (q : ℕ) → list_any (nat_eq q) (map (λ (e : Entry). e.round) entries) ≡ true → q ≤ greatest_round entries
greatest_has [] q there = cc
greatest_has (e ∷ entries) q there = elim (or_cases (nat_eq q e.round) (list_any (nat_eq q) (map (λ (x : Entry). x.round) entries)) there) [
  | inl is ↦ omega (arith, eqb-true q e.round is)
  | inr later ↦ omega (arith, greatest_has entries q later)
]

below_by : (entries : List Entry) (round q : ℕ) → list_any (nat_eq q) ((0 ∷ map (λ (e : Entry). e.round) entries) ++ round ∷ []) ≡ true → q < max (greatest_round entries) round + 1
below_by entries round q there =
    let all : List ℕ = 0 ∷ map (λ (e : Entry). e.round) entries in
    elim (or_cases (list_any (nat_eq q) all) (list_any (nat_eq q) (round ∷ [])) (sym (list_any-append (nat_eq q) all (round ∷ [])) ∙ there)) [
      | inl old ↦ elim (or_cases (nat_eq q 0) (list_any (nat_eq q) (map (λ (e : Entry). e.round) entries)) old) [
        | inl is ↦ omega (arith, eqb-true q 0 is)
        | inr booked ↦ omega (arith, greatest_has entries q booked)
      ]
      | inr new ↦ omega (arith, eqb-true q round (sym (or_none (nat_eq q round)) ∙ new))
    ]

-- with one more round there are no more entries than rounds
pub room_for : (booked : List (ℕ × Entry)) (target round : ℕ) → IsDistinct nat_eq (0 ∷ rounds_of booked target) → 0 < round → is_booked booked target round ≡ false → length (entries_of booked target) < max (last_round_of booked target) round
room_for booked target round apart some fresh =
    let all : List ℕ = (0 ∷ rounds_of booked target) ++ round ∷ [] in
    let most : length all ≤ max (last_round_of booked target) round + 1 =
    length-le_from_distinct_below all (max (last_round_of booked target) round + 1) (apart_with booked target round apart some fresh) (below_by (entries_of booked target) round) in
    let size : length all ≡ length (0 ∷ rounds_of booked target) + 1 = length-append (0 ∷ rounds_of booked target) (round ∷ []) in
    omega (arith, most, size, length-map (entries_of booked target) (λ (e : Entry). e.round))

-- nothing is against an entry
pub record IsGranted (booked : List (ℕ × Entry)) (target round : ℕ) : Type 0 where
  pub some : 0 < round
  pub near : last_round_of booked target < round + 64
  pub fresh : is_booked booked target round ≡ false

ban_by : (b : Bool) (o : Option BooksError) (r : BooksError) → cond b (Some r) o ≡ None → (b ≡ false) × (o ≡ None)
ban_by true o r e = cc
ban_by false o r e = (refl, e)

pub granted : (booked : List (ℕ × Entry)) (target round : ℕ) → booking_refusal booked target round ≡ None → IsGranted booked target round
granted booked target round free =
    let last : ℕ = last_round_of booked target in
    let past = ban_by (is_past last round) _ (Past last) free in
    let twice = ban_by (is_booked booked target round) None AlreadyBooked past.1 in
    let parts = or_parts (round == 0) (nat_le 64 (last - round)) past.0 in
    record {
      some = elim (cases_lt 0 round) [ inl some ↦ some | inr none ↦ absurd (eqb-false round 0 parts.0 (omega (arith, none))) ];
      near = omega (arith, leb-false 64 (last - round) parts.1);
      fresh = twice.0;
    }

pub room_of :
    (booked : List (ℕ × Entry)) (target round : ℕ) (standing : Standing) → IsDistinct nat_eq (0 ∷ rounds_of booked target) → booking_refusal booked target round ≡ None → IsStanding booked target standing
    → standing.page.reports < max standing.last round
room_of booked target round standing apart free stands =
    let g = granted booked target round free in
    omega (arith, room_for booked target round apart g.some g.fresh, stands.last, ap (λ (p : Page). p.reports) stands.page)

-- the books with one more entry, where the standings before may have been moved to a longer list
pub kept_push :
    (booked : List (ℕ × Entry)) (standings longer : List Standing) (total target : ℕ) (entry : Entry) (samples : ℕ) (standing : Standing) → IsKept booked standings total
    → ((other : ℕ) → get_or longer other no_standing ≡ get_or standings other no_standing) → target < length longer → samples ≡ samples_of entry.outcome → samples ≤ 4294967295
    → 0 < entry.round → is_booked booked target entry.round ≡ false → IsStanding (booked ++ (target, entry) ∷ []) target standing → IsBounded standing
    → IsKept (booked ++ (target, entry) ∷ []) (set longer target standing) (total + samples)
kept_push booked standings longer total target entry samples standing kept same room samples_are few some fresh stands bounded =
    let grown : List (ℕ × Entry) = booked ++ (target, entry) ∷ [] in
    let mine = get_or-set_same longer target standing no_standing room in
    let each : (other : ℕ) → IsStanding grown other (get_or (set longer target standing) other no_standing)
    = λ other. elim (cases_eq other target) [
      | inl e ↦ subst (λ (n : ℕ). IsStanding grown n (get_or (set longer target standing) n no_standing)) (sym e) (subst (IsStanding grown target) (sym mine) stands)
      | inr ne ↦ subst (IsStanding grown other) (sym (get_or-set_other longer target other standing no_standing ne ∙ same other)) (stands_other booked target other entry (get_or standings other no_standing) ne (kept.standing other))
    ] in
    let bounds : (other : ℕ) → IsBounded (get_or (set longer target standing) other no_standing)
    = λ other. elim (cases_eq other target) [
      | inl e ↦ subst (λ (n : ℕ). IsBounded (get_or (set longer target standing) n no_standing)) (sym e) (subst IsBounded (sym mine) bounded)
      | inr ne ↦ subst IsBounded (sym (get_or-set_other longer target other standing no_standing ne ∙ same other)) (kept.bounded other)
    ] in
    let distinct : (other : ℕ) → IsDistinct nat_eq (0 ∷ rounds_of grown other)
    = λ other. elim (cases_eq other target) [
      | inl e ↦ subst (λ (n : ℕ). IsDistinct nat_eq (0 ∷ rounds_of grown n)) (sym e)
          (subst (λ (rounds : List ℕ). IsDistinct nat_eq (0 ∷ rounds)) (sym (rounds_same booked target entry)) (apart_with booked target entry.round (kept.apart target) some fresh))
      | inr ne ↦ subst (λ (entries : List Entry). IsDistinct nat_eq (0 ∷ map (λ (e : Entry). e.round) entries)) (sym (entries_other booked target other entry ne)) (kept.apart other)
    ] in
    let total_more = sum_by_push (λ (q : ℕ × Entry). samples_of q.1.outcome) booked (target, entry) in
    record {
      standing = each;
      bounded = bounds;
      once = once_push booked (target, entry) kept.once fresh;
      apart = distinct;
      total_is = omega (arith, kept.total_is, total_more);
      total_bounded = omega (arith, kept.total_bounded, length-append booked ((target, entry) ∷ []));
    }

pub kept_first : (booked : List (ℕ × Entry)) (standings : List Standing) → booked ≡ [] → standings ≡ [] → IsKept booked standings 0
unfolding IsDistinct
kept_first booked standings none no_standings =
    rw (none, no_standings)
    (record {
      standing = nothing_stands;
      bounded = λ target. record { reports = omega arith; ups = omega arith; samples = omega arith };
      once = λ i j d less in_range. absurd (omega arith);
      apart = λ target. IsDistinct-cons nat_eq 0 [] tt tt;
      total_is = refl;
      total_bounded = omega arith;
    })
