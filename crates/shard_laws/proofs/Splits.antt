-- Where soundness and caps are of each part, and sizes are sums over the parts, what is best is best in each part.
use Rattle.std.proofs.Common.{◌≡◌, ◌≢◌, ◌⊎◌, inl, inr, ◌==◌, ℕ, ◌+◌, ◌<◌, ◌≤◌, Bool, true, false, List, [], ◌∷◌, ◌++◌, All, length, refl, sym, ap, subst, ◌∙◌, append-nil, arith}
use Rattle.std.specs.Prelude.{filter, not}
use Rattle.std.proofs.lemmas.Bool.Decides.{eqb_tells}
use Rattle.std.proofs.lemmas.List.Elements.{All-weaker, filter-append, filter_passes}
use Rattle.price_certificate.specs.Certificate.{sum_below}
use Rattle.price_certificate.proofs.Sums.{sum_below-le, sum_below-same}
use Rattle.shard_laws.proofs.PartFilters.{filter_all, filter_none, filter_twice}
use Rattle.shard_laws.proofs.PartSums.{equal_parts, sum_below-but_one}

-- the best of the sound lists, of those within caps
pub record Top {X : Type 0} (sound within : List X → Type 0) (left moved : List X → ℕ) (pairs : List X) : Type 0 where
  pub is_sound : sound pairs
  pub is_within : within pairs
  pub covers : (others : List X) → sound others → length others ≤ length pairs
  pub leaves : (others : List X) → sound others → length others ≡ length pairs → left pairs ≤ left others
  pub moves : (others : List X) → sound others → within others → length others ≡ length pairs → left others ≡ left pairs → moved pairs ≤ moved others

-- a whole and its parts
pub record Split {X : Type 0} (n : ℕ) (test : ℕ → X → Bool) (sound within : List X → Type 0) (sound_in within_in : ℕ → List X → Type 0) (left moved : List X → ℕ) (moved_in : ℕ → List X → ℕ) : Type 0 where
  pub parted : (xs : List X) → sound xs → (p : ℕ) → p < n → sound_in p (filter (test p) xs)
  pub joined : (xs : List X) → ((p : ℕ) → p < n → sound_in p (filter (test p) xs)) → sound xs
  pub parted_within : (xs : List X) → within xs → (p : ℕ) → p < n → within_in p (filter (test p) xs)
  pub joined_within : (xs : List X) → ((p : ℕ) → p < n → within_in p (filter (test p) xs)) → within xs
  pub own : (p : ℕ) (xs : List X) → sound_in p xs → All (λ x. test p x ≡ true) xs
  pub apart : (p q : ℕ) (x : X) → test p x ≡ true → q ≢ p → test q x ≡ false
  pub lengths : (xs : List X) → length xs ≡ sum_below (λ p. length (filter (test p) xs)) n
  pub lefts : (xs : List X) → left xs ≡ sum_below (λ p. left (filter (test p) xs)) n
  pub moveds : (xs : List X) → moved xs ≡ sum_below (λ p. moved_in p (filter (test p) xs)) n

-- ---- the whole is best where each part is

pub whole_best : {X : Type 0} {n : ℕ} {test : ℕ → X → Bool} {sound within : List X → Type 0} {sound_in within_in : ℕ → List X → Type 0} {left moved : List X → ℕ} {moved_in : ℕ → List X → ℕ}
    (s : Split n test sound within sound_in within_in left moved moved_in) (pairs : List X) → ((p : ℕ) → p < n → Top (sound_in p) (within_in p) left (moved_in p) (filter (test p) pairs)) → Top sound within left moved pairs
whole_best {X} {n} {test} {sound} {within} {sound_in} {within_in} {left} {moved} {moved_in} s pairs each =
    let size : List X → ℕ → ℕ = λ xs p. length (filter (test p) xs) in
    let left_in : List X → ℕ → ℕ = λ xs p. left (filter (test p) xs) in
    let moves_in : List X → ℕ → ℕ = λ xs p. moved_in p (filter (test p) xs) in
    let fewer = λ (others : List X) (o : sound others) (p : ℕ) (l : p < n). (let e : size others p ≤ size pairs p = (each p l).covers (filter (test p) others) (s.parted others o p l) in e) in
    let sized = λ (others : List X) (o : sound others) (e : length others ≡ length pairs). equal_parts (size others) (size pairs) n (fewer others o) (sym (s.lengths others) ∙ e ∙ s.lengths pairs) in
    let lefter = λ (others : List X) (o : sound others) (e : length others ≡ length pairs) (p : ℕ) (l : p < n). (let r : left_in pairs p ≤ left_in others p = (each p l).leaves (filter (test p) others) (s.parted others o p l) (sized others o e p l) in r) in
    record {
      is_sound = s.joined pairs (λ p l. (each p l).is_sound);
      is_within = s.joined_within pairs (λ p l. (each p l).is_within);
      covers = λ others o. (let e = sum_below-le (size others) (size pairs) n (fewer others o) in omega (arith, e, s.lengths others, s.lengths pairs));
      leaves = λ others o e. (let l = sum_below-le (left_in pairs) (left_in others) n (lefter others o e) in omega (arith, l, s.lefts others, s.lefts pairs));
      moves = λ others o w e f.
          (let lefts = equal_parts (left_in pairs) (left_in others) n (lefter others o e) (sym (s.lefts pairs) ∙ sym f ∙ s.lefts others) in
          let l = sum_below-le (moves_in pairs) (moves_in others) n (λ p m. (each p m).moves (filter (test p) others) (s.parted others o p m) (s.parted_within others w p m) (sized others o e p m) (sym (lefts p m))) in
          omega (arith, l, s.moveds others, s.moveds pairs));
    }

-- ---- each part is best where the whole is: what is better in a part would be better in its place

not_true : (b : Bool) → b ≡ false → not b ≡ true
not_true b e = ap not e

false_of : (b : Bool) → not b ≡ true → b ≡ false
false_of true e = absurd (cc e)
false_of false e = refl

-- others in the place of a part
placed : {X : Type 0} → (ℕ → X → Bool) → ℕ → List X → List X → List X
placed {X} test p others pairs = others ++ filter (λ (x : X). not (test p x)) pairs

here : {X : Type 0} (test : ℕ → X → Bool) (p : ℕ) (others pairs : List X) → All (λ x. test p x ≡ true) others → filter (test p) (placed test p others pairs) ≡ others
unfolding placed
here {X} test p others pairs own =
    let rest : List X = filter (λ (x : X). not (test p x)) pairs in
    let none = filter_none (test p) rest (All-weaker (λ (x : X). not (test p x) ≡ true) (λ (x : X). test p x ≡ false) (λ x e. false_of (test p x) e) rest (filter_passes (λ (x : X). not (test p x)) pairs)) in
    filter-append (test p) others rest ∙ ap (λ (ys : List X). ys ++ filter (test p) rest) (filter_all (test p) others own) ∙ ap (λ (ys : List X). others ++ ys) none ∙ append-nil others

there : {X : Type 0} (test : ℕ → X → Bool) (p q : ℕ) (others pairs : List X) → ((r t : ℕ) (x : X) → test r x ≡ true → t ≢ r → test t x ≡ false) → q ≢ p → All (λ x. test p x ≡ true) others → filter (test q) (placed test p others pairs) ≡ filter (test q) pairs
unfolding placed
there {X} test p q others pairs apart d own =
    let rest : List X = filter (λ (x : X). not (test p x)) pairs in
    let none = filter_none (test q) others (All-weaker (λ (x : X). test p x ≡ true) (λ (x : X). test q x ≡ false) (λ x e. apart p q x e d) others own) in
    filter-append (test q) others rest ∙ ap (λ (ys : List X). ys ++ filter (test q) rest) none ∙ filter_twice (test q) (λ (x : X). not (test p x)) (λ x e. not_true (test p x) (apart q p x e (λ s. d (sym s)))) pairs

pub part_best : {X : Type 0} {n : ℕ} {test : ℕ → X → Bool} {sound within : List X → Type 0} {sound_in within_in : ℕ → List X → Type 0} {left moved : List X → ℕ} {moved_in : ℕ → List X → ℕ}
    (s : Split n test sound within sound_in within_in left moved moved_in) (pairs : List X) → Top sound within left moved pairs → (p : ℕ) → p < n → Top (sound_in p) (within_in p) left (moved_in p) (filter (test p) pairs)
part_best {X} {n} {test} {sound} {within} {sound_in} {within_in} {left} {moved} {moved_in} s pairs top p l =
    let new : List X → List X = λ others. placed test p others pairs in
    let at : (others : List X) → sound_in p others → filter (test p) (placed test p others pairs) ≡ others = λ others o. here test p others pairs (s.own p others o) in
    let else_at : (others : List X) → sound_in p others → (q : ℕ) → q ≢ p → filter (test q) (placed test p others pairs) ≡ filter (test q) pairs = λ others o q d. there test p q others pairs s.apart d (s.own p others o) in
    let is_sound : (others : List X) → sound_in p others → sound (placed test p others pairs) = λ others o. s.joined (new others) (λ q m. elim (eqb_tells q p) [
      | inl e ↦ subst (λ (r : ℕ). sound_in r (filter (test r) (new others))) (sym e.1) (subst (sound_in p) (sym (at others o)) o)
      | inr e ↦ subst (sound_in q) (sym (else_at others o q e.1)) (s.parted pairs top.is_sound q m)
    ]) in
    let is_within : (others : List X) → sound_in p others → within_in p others → within (placed test p others pairs) = λ others o w. s.joined_within (new others) (λ q m. elim (eqb_tells q p) [
      | inl e ↦ subst (λ (r : ℕ). within_in r (filter (test r) (new others))) (sym e.1) (subst (within_in p) (sym (at others o)) w)
      | inr e ↦ subst (within_in q) (sym (else_at others o q e.1)) (s.parted_within pairs top.is_within q m)
    ]) in
    let part : List X = filter (test p) pairs in
    let swapped : (measure : ℕ → List X → ℕ) (others : List X) → sound_in p others → sum_below (λ q. measure q (filter (test q) (placed test p others pairs))) n + measure p part ≡ sum_below (λ q. measure q (filter (test q) pairs)) n + measure p others
    = λ measure others o. (
    sum_below-but_one (λ q. measure q (filter (test q) (new others))) (λ q. measure q (filter (test q) pairs)) p n l (λ q m d. ap (measure q) (else_at others o q d))
    ∙ ap (λ (k : ℕ). sum_below (λ q. measure q (filter (test q) pairs)) n + k) (ap (measure p) (at others o))) in
    let sizes : (others : List X) → sound_in p others → length (new others) + length part ≡ length pairs + length others = λ others o. omega (arith, swapped (λ q. length) others o, s.lengths (new others), s.lengths pairs) in
    let lefts : (others : List X) → sound_in p others → left (new others) + left part ≡ left pairs + left others = λ others o. omega (arith, swapped (λ q. left) others o, s.lefts (new others), s.lefts pairs) in
    let moveds : (others : List X) → sound_in p others → moved (new others) + moved_in p part ≡ moved pairs + moved_in p others = λ others o. omega (arith, swapped moved_in others o, s.moveds (new others), s.moveds pairs) in
    record {
      is_sound = s.parted pairs top.is_sound p l;
      is_within = s.parted_within pairs top.is_within p l;
      covers = λ others o. omega (arith, top.covers (new others) (is_sound others o), sizes others o);
      leaves = λ others o e. (let same : length (new others) ≡ length pairs = omega (arith, sizes others o, e) in omega (arith, top.leaves (new others) (is_sound others o) same, lefts others o));
      moves = λ others o w e f.
          (let same : length (new others) ≡ length pairs = omega (arith, sizes others o, e) in
          let left_same : left (new others) ≡ left pairs = omega (arith, lefts others o, f) in
          omega (arith, top.moves (new others) (is_sound others o) (is_within others o w) same left_same, moveds others o));
    }
