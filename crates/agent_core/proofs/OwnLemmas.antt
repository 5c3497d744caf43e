-- Each point that is offered is a target's own last scrape.
use Rattle.std.proofs.Common.{◌≡◌, ℕ, suc, List, [], ◌∷◌, Bool, true, false, Option, None, Some, All, Contains, get_or, cond, refl, ◌∙◌, arith}
use Rattle.std.specs.Prelude.{◌&&◌, ◌==◌, count_by, option_and_then, option_map, position, slice_get}
use Rattle.std.specs.List.{cons_option}
use Rattle.std.proofs.lemmas.Bool.Decides.{nat_tests}
use Rattle.std.proofs.lemmas.List.Elements.{All-append, All-cons, All-nil}
use Rattle.std.proofs.lemmas.List.Quantifiers.{position-Some}
use Rattle.std.proofs.lemmas.Option.{get_or_from_slice_get, slice_get-get_or, slice_get_within}
use Rattle.agent_core.specs.Choices.{points_of}
use Rattle.agent_core.specs.Laws.{IsLast}
use Rattle.agent_core.specs.Sharing.{has_one, is_near, is_of, is_point, last_at, offer_of, offers, offers_of, only, owner_by, owner_of, scraped_at}
use Rattle.agent_core.specs.declared.target.Series.{Series}
use Rattle.agent_core.specs.declared.target.Listed.{Listed}
use Rattle.agent_core.specs.declared.slot.Point.{Point}
use Rattle.agent_core.specs.declared.sharing.LastScrape.{LastScrape}
use Rattle.agent_core.specs.declared.sharing.Offer.{Offer}

-- ---- the only one that passes a test

only_is : {X : Type 0} (test : X → Bool) (xs : List X) (i : ℕ) → only test xs ≡ Some i → (count_by test xs ≡ 1) × (position test xs ≡ Some i)
only_is {X} test xs i e = by (count_by test xs == 1) refl e
  where
    by : (b : Bool) → (count_by test xs == 1) ≡ b → cond b (position test xs) None ≡ Some i → (count_by test xs ≡ 1) × (position test xs ≡ Some i)
    by true is e = (grind (arith, nat_tests, is), e)
    by false is e = absurd (cc e)

passing_at : {X : Type 0} (test : X → Bool) (xs : List X) (i : ℕ) → position test xs ≡ Some i → (x : X) × (slice_get xs i ≡ Some x) × (test x ≡ true)
passing_at test [] i e = absurd (cc e)
passing_at test (x ∷ xs) i e =
    let p = position-Some test (x ∷ xs) i x e in
    (get_or (x ∷ xs) i x, slice_get-get_or (x ∷ xs) i x p.0, p.1)

pub contains_at : {X : Type 0} (xs : List X) (i : ℕ) (x : X) → slice_get xs i ≡ Some x → Contains xs x
contains_at xs i x e = (i, slice_get_within xs i x e, get_or_from_slice_get xs i x x e)

-- ---- whose a point is

-- the target at a place has this last scrape
record IsOwner (series : Series) (targets : List Listed) (all : List LastScrape) (time place : ℕ) : Type 0 where
  listed : Listed
  at : slice_get targets place ≡ Some listed
  last : LastScrape
  among : Contains all last
  of_it : is_of series last listed ≡ true
  began : is_near 1 last.time time ≡ true
  clear : count_by (λ (other : LastScrape). is_near 2 other.time time) all ≡ 1

scraped_only : (series : Series) (targets : List Listed) (all : List LastScrape) (last : LastScrape) (place : ℕ) → scraped_at series targets all last ≡ Some place → only (is_of series last) targets ≡ Some place
scraped_only series targets all last place e = by (only (is_of series last) targets) refl e
  where
    one : (q : ℕ) (b : Bool) → cond b (Some q) None ≡ Some place → Some q ≡ Some place
    one q true e = e
    one q false e = absurd (cc e)

    by : (o : Option ℕ) → only (is_of series last) targets ≡ o → option_and_then (λ (q : ℕ). cond (has_one series targets all q) (Some q) None) o ≡ Some place → only (is_of series last) targets ≡ Some place
    by None is e = absurd (cc e)
    by (Some q) is e = is ∙ one q (has_one series targets all q) e

near_first : (near rest : Bool) → (near && rest) ≡ true → near ≡ true
near_first true rest e = refl
near_first false rest e = absurd (cc e)

owner_is : (series : Series) (targets : List Listed) (all : List LastScrape) (points : List Point) (time place : ℕ) → owner_of series targets all points time ≡ Some place → IsOwner series targets all time place
owner_is series targets all points time place e = by (last_at all time) refl e
  where
    owned : (p : ℕ) (last : LastScrape) → slice_get all p ≡ Some last → last_at all time ≡ Some p → is_point points last.time time ≡ true → scraped_at series targets all last ≡ Some place → IsOwner series targets all time place
    owned p last at is point scraped =
        let clear = (only_is (λ (other : LastScrape). is_near 2 other.time time) all p is).0 in
        let holder = passing_at (is_of series last) targets place (only_is (is_of series last) targets place (scraped_only series targets all last place scraped)).1 in
        record {
          listed = holder.0;
          at = holder.1;
          last = last;
          among = contains_at all p last at;
          of_it = holder.2;
          began = near_first (is_near 1 last.time time) (count_by (λ (q : Point). is_near 1 last.time q.time) points == 1) point;
          clear = clear;
        }

    by_point : (p : ℕ) (last : LastScrape) → slice_get all p ≡ Some last → last_at all time ≡ Some p → (b : Bool) → is_point points last.time time ≡ b → cond b (scraped_at series targets all last) None ≡ Some place
        → IsOwner series targets all time place
    by_point p last at is true point e = owned p last at is point e
    by_point p last at is false point e = absurd (cc e)

    by_last : (p : ℕ) → last_at all time ≡ Some p → (o : Option LastScrape) → slice_get all p ≡ o → option_and_then (owner_by series targets all points time) o ≡ Some place → IsOwner series targets all time place
    by_last p is None at e = absurd (cc e)
    by_last p is (Some last) at e = by_point p last at is (is_point points last.time time) refl e

    by : (o : Option ℕ) → last_at all time ≡ o → option_and_then (λ (p : ℕ). option_and_then (owner_by series targets all points time) (slice_get all p)) o ≡ Some place → IsOwner series targets all time place
    by None is e = absurd (cc e)
    by (Some p) is e = by_last p is (slice_get all p) refl e

-- ---- what is offered

pub record IsOwn (targets : List Listed) (lasts : List (Series × List LastScrape)) (offer : Offer) : Type 0 where
  pub listed : Listed
  pub at : slice_get targets offer.place ≡ Some listed
  pub own : IsLast lasts listed offer.point.time

more_series : (targets : List Listed) (entry : Series × List LastScrape) (lasts : List (Series × List LastScrape)) (offer : Offer) → IsOwn targets lasts offer → IsOwn targets (entry ∷ lasts) offer
more_series targets entry lasts offer own = record {
  listed = own.listed;
  at = own.at;
  own = record {
    series = own.own.series;
    all = own.own.all;
    said = (suc own.own.said.0, omega (arith, own.own.said.1), own.own.said.2);
    last = own.own.last;
    among = own.own.among;
    of_it = own.own.of_it;
    began = own.own.began;
    clear = own.own.clear;
  };
}

offer_own : (series : Series) (targets : List Listed) (all : List LastScrape) (points : List Point) (point : Point) (lasts : List (Series × List LastScrape)) (more : List Offer) → Contains lasts (series, all) → All (IsOwn targets lasts) more
    → All (IsOwn targets lasts) (cons_option (offer_of series targets all points point) more)
offer_own series targets all points point lasts more said rest = by (owner_of series targets all points point.time) refl
  where
    by : (o : Option ℕ) → owner_of series targets all points point.time ≡ o → All (IsOwn targets lasts) (cons_option (option_map (λ (place : ℕ). record { place = place; point = point }) o) more)
    by None is = rest
    by (Some place) is =
        let owner = owner_is series targets all points point.time place is in
        All-cons (IsOwn targets lasts) (record { place = place; point = point }) more
        (record {
          listed = owner.listed;
          at = owner.at;
          own = record { series = series; all = all; said = said; last = owner.last; among = owner.among; of_it = owner.of_it; began = owner.began; clear = owner.clear };
        })
        rest

offers_of_own : (series : Series) (targets : List Listed) (all : List LastScrape) (points rest : List Point) (lasts : List (Series × List LastScrape)) → Contains lasts (series, all)
    → All (IsOwn targets lasts) (offers_of series targets all points rest)
offers_of_own series targets all points [] lasts said = All-nil (IsOwn targets lasts)
offers_of_own series targets all points (point ∷ rest) lasts said =
    offer_own series targets all points point lasts (offers_of series targets all points rest) said (offers_of_own series targets all points rest lasts said)

pub offers_own : (said : List (Series × List Point)) (targets : List Listed) (lasts : List (Series × List LastScrape)) → All (IsOwn targets lasts) (offers said targets lasts)
offers_own said targets [] = All-nil (IsOwn targets [])
offers_own said targets (entry ∷ lasts) =
    let points = points_of said entry.0 in
    All-append (IsOwn targets (entry ∷ lasts)) (offers_of entry.0 targets entry.1 points points) (offers said targets lasts)
    (offers_of_own entry.0 targets entry.1 points points (entry ∷ lasts) (0, omega arith, refl))
    (λ k d l. more_series targets entry lasts (get_or (offers said targets lasts) k d) (offers_own said targets lasts k d l))
