-- Lists by place, and what stands in a list that keeps some elements changed.
use Rattle.std.proofs.Common.{◌≡◌, ℕ, zero, suc, ◌<◌, List, [], ◌∷◌, Option, Some, None, All, get_or, map, refl, ap, subst, ◌∙◌, arith}
use Rattle.std.specs.Prelude.{AllPairs, slice_get}
use Rattle.std.specs.List.{cons_option, filter_map}
use Rattle.std.specs.Option.{option_map}
use Rattle.std.proofs.lemmas.Option.{get_or_from_slice_get, slice_get-get_or, slice_get-map, slice_get_within}

pub some_same : {X : Type 0} (x y : X) → ◌≡◌ {A = Option X} (Some x) (Some y) → x ≡ y
some_same x y e = cc

pub none_some : {X : Type 0} (x : X) → ◌≡◌ {A = Option X} None (Some x) → {Y : Type 0} → Y
none_some x e = cc

pub all_from_gets : {X : Type 0} (P : X → Type 0) (xs : List X) → ((i : ℕ) (x : X) → slice_get xs i ≡ Some x → P x) → All P xs
all_from_gets P xs h k d l = h k (get_or xs k d) (slice_get-get_or xs k d l)

pub all_at : {X : Type 0} (P : X → Type 0) (xs : List X) (i : ℕ) (x : X) → All P xs → slice_get xs i ≡ Some x → P x
all_at P xs i x all e = subst P (get_or_from_slice_get xs i x x e) (all i x (slice_get_within xs i x e))

pub pairs_from_gets : {X : Type 0} (R : X → X → Type 0) (xs : List X) → ((i j : ℕ) (x y : X) → i < j → slice_get xs i ≡ Some x → slice_get xs j ≡ Some y → R x y) → AllPairs R xs
pairs_from_gets R xs h i j d less within = h i j (get_or xs i d) (get_or xs j d) less (slice_get-get_or xs i d (omega arith)) (slice_get-get_or xs j d within)

pub pairs_at : {X : Type 0} (R : X → X → Type 0) (xs : List X) (i j : ℕ) (x y : X) → AllPairs R xs → i < j → slice_get xs i ≡ Some x → slice_get xs j ≡ Some y → R x y
pairs_at R xs i j x y all less here there =
    subst (λ z. R z y) (get_or_from_slice_get xs i x x here) (subst (λ z. R (get_or xs i x) z) (get_or_from_slice_get xs j y x there) (all i j x less (slice_get_within xs j y there)))

-- an element that was kept, and where it came from
pub record Source {X Y : Type 0} (f : X → Option Y) (xs : List X) (y : Y) : Type 0 where
  pub place : ℕ
  pub from : X
  pub here : slice_get xs place ≡ Some from
  pub is : f from ≡ Some y

abbrev source_later : {X Y : Type 0} (f : X → Option Y) (x : X) (xs : List X) (y : Y) → Source f xs y → Source f (x ∷ xs) y
source_later f x xs y s = record { place = suc s.place; from = s.from; here = s.here; is = s.is }

source_by :
    {X Y : Type 0} (f : X → Option Y) (x : X) (xs : List X) (y : Y) (o : Option Y) → f x ≡ o → (i : ℕ) → ((k : ℕ) → slice_get (filter_map f xs) k ≡ Some y → Source f xs y) → slice_get (cons_option o (filter_map f xs)) i ≡ Some y
    → Source f (x ∷ xs) y
source_by f x xs y None was i rest e = source_later f x xs y (rest i e)
source_by f x xs y (Some z) was zero rest e = record { place = 0; from = x; here = refl; is = was ∙ e }
source_by f x xs y (Some z) was (suc i) rest e = source_later f x xs y (rest i e)

pub source_at : {X Y : Type 0} (f : X → Option Y) (xs : List X) (i : ℕ) (y : Y) → slice_get (filter_map f xs) i ≡ Some y → Source f xs y
source_at f [] i y e = none_some y e
source_at f (x ∷ xs) i y e = source_by f x xs y (f x) refl i (λ k h. source_at f xs k y h) e

-- two of them, in order
pub record Sources {X Y : Type 0} (f : X → Option Y) (xs : List X) (y z : Y) : Type 0 where
  pub first : Source f xs y
  pub second : Source f xs z
  pub order : first.place < second.place

sources_later : {X Y : Type 0} (f : X → Option Y) (x : X) (xs : List X) (y z : Y) → Sources f xs y z → Sources f (x ∷ xs) y z
sources_later f x xs y z s = record { first = source_later f x xs y s.first; second = source_later f x xs z s.second; order = (let less : s.first.place < s.second.place = s.order in let r : suc s.first.place < suc s.second.place = omega arith in r) }

sources_by :
    {X Y : Type 0} (f : X → Option Y) (x : X) (xs : List X) (y z : Y) (o : Option Y) → f x ≡ o → (i j : ℕ) → ((k l : ℕ) → k < l → slice_get (filter_map f xs) k ≡ Some y → slice_get (filter_map f xs) l ≡ Some z → Sources f xs y z) → i < j
    → slice_get (cons_option o (filter_map f xs)) i ≡ Some y → slice_get (cons_option o (filter_map f xs)) j ≡ Some z → Sources f (x ∷ xs) y z
sources_by f x xs y z None was i j rest less here there = sources_later f x xs y z (rest i j less here there)
sources_by f x xs y z (Some v) was i zero rest less here there = absurd (omega arith)
sources_by f x xs y z (Some v) was zero (suc j) rest less here there =
    record {
      first = record { place = 0; from = x; here = refl; is = was ∙ here };
      second = source_later f x xs z (source_at f xs j z there);
      order = (let s = source_at f xs j z there in let r : 0 < suc s.place = omega arith in r);
    }
sources_by f x xs y z (Some v) was (suc i) (suc j) rest less here there = sources_later f x xs y z (rest i j (omega arith) here there)

pub sources_at : {X Y : Type 0} (f : X → Option Y) (xs : List X) (i j : ℕ) (y z : Y) → i < j → slice_get (filter_map f xs) i ≡ Some y → slice_get (filter_map f xs) j ≡ Some z → Sources f xs y z
sources_at f [] i j y z less here there = none_some y here
sources_at f (x ∷ xs) i j y z less here there = sources_by f x xs y z (f x) refl i j (λ k l less here there. sources_at f xs k l y z less here there) less here there

-- what holds of each kept element
pub kept_all : {X Y : Type 0} (P : Y → Type 0) (f : X → Option Y) (xs : List X) → ((i : ℕ) (x : X) (y : Y) → slice_get xs i ≡ Some x → f x ≡ Some y → P y) → All P (filter_map f xs)
kept_all P f xs h = all_from_gets P (filter_map f xs) (λ i y e. (let s = source_at f xs i y e in h s.place s.from y s.here s.is))

-- what holds of each two
pub kept_pairs :
    {X Y : Type 0} (R : Y → Y → Type 0) (f : X → Option Y) (xs : List X) → ((i j : ℕ) (x w : X) (y z : Y) → i < j → slice_get xs i ≡ Some x → slice_get xs j ≡ Some w → f x ≡ Some y → f w ≡ Some z → R y z) → AllPairs R (filter_map f xs)
kept_pairs R f xs h =
    pairs_from_gets R (filter_map f xs)
    (λ i j y z less here there.
    (let s = sources_at f xs i j y z less here there in h s.first.place s.second.place s.first.from s.second.from y z s.order s.first.here s.second.here s.first.is s.second.is))

-- an element that is kept is there
abbrev pub IsKept : {X Y : Type 0} → (X → Option Y) → List X → Y → Type 0
IsKept f xs y = (j : ℕ) × (slice_get (filter_map f xs) j ≡ Some y)

kept_behind : {Y : Type 0} (ys : List Y) (y : Y) (o : Option Y) → (j : ℕ) × (slice_get ys j ≡ Some y) → (j : ℕ) × (slice_get (cons_option o ys) j ≡ Some y)
kept_behind ys y None found = found
kept_behind ys y (Some v) found = (suc found.0, found.1)

kept_first : {Y : Type 0} (ys : List Y) (y : Y) (o : Option Y) → o ≡ Some y → (j : ℕ) × (slice_get (cons_option o ys) j ≡ Some y)
kept_first ys y None e = none_some y e
kept_first ys y (Some v) e = (0, e)

pub kept_here : {X Y : Type 0} (f : X → Option Y) (xs : List X) (i : ℕ) (x : X) (y : Y) → slice_get xs i ≡ Some x → f x ≡ Some y → IsKept f xs y
kept_here f [] i x y here is = none_some x here
kept_here f (w ∷ xs) zero x y here is = kept_first (filter_map f xs) y (f w) (ap f (some_same w x here) ∙ is)
kept_here f (w ∷ xs) (suc i) x y here is = kept_behind (filter_map f xs) y (f w) (kept_here f xs i x y here is)

-- what stands at a place of a list that is changed throughout
pub map_at : {X Y : Type 0} (f : X → Y) (xs : List X) (i : ℕ) (x : X) → slice_get xs i ≡ Some x → slice_get (map f xs) i ≡ Some (f x)
map_at f xs i x e = slice_get-map f xs i ∙ ap (option_map f) e

pub from_map : {X Y : Type 0} (f : X → Y) (xs : List X) (i : ℕ) (y : Y) → slice_get (map f xs) i ≡ Some y → (x : X) × (slice_get xs i ≡ Some x) × (f x ≡ y)
from_map f [] i y e = none_some y e
from_map f (x ∷ xs) zero y e = (x, refl, some_same (f x) y e)
from_map f (x ∷ xs) (suc i) y e = from_map f xs i y e
