-- What a seat wished one after the other, each of it known to be done before the next was asked.
use Rattle.std.specs.Prelude.{◌≡◌, ◌⊎◌, ℕ, true, false, List, [], ◌∷◌, map}
use Rattle.journal_blocks.specs.Blocks.{IsCut}
use Rattle.etcd_terms.specs.Seats.{is_granted, wished}
use Rattle.etcd_terms.specs.declared.seat.Seat.{Seat}
use Rattle.etcd_terms.specs.declared.seat.Wish.{Wish}
use Rattle.etcd_terms.specs.declared.seat.Wish.TheVariants.{Append, Look, Clear, Fill, Switch}
use Rattle.etcd_terms.specs.declared.seat.Ahead.TheVariants.{Has}
use Rattle.etcd_turns.specs.Posts.{MayPost, Settled}

-- it was granted, asked until it was known, and the seat still leads
pub record Done {S : Type 0} (may_post : MayPost S) (prefix term : List ℕ) (wish : Wish) (old : S) (s : Seat) (new : S) (t : Seat) : Type 0 where
  pub granted : is_granted s wish ≡ true
  pub settled : Settled may_post prefix term old (wished s wish) new t
  pub live : t.is_over ≡ false

abbrev pub AllDone : {S : Type 0} → MayPost S → List ℕ → List ℕ → List Wish → S → Seat → S → Seat → Type 0
AllDone may_post prefix term [] old s new t = (new ≡ old) × (t ≡ s)
AllDone {S} may_post prefix term (wish ∷ wishes) old s new t = (mid : S) × ((m : Seat) × (Done may_post prefix term wish old s mid m × AllDone may_post prefix term wishes mid m new t))

-- The bytes were cut into blocks, and each of them was kept before the next was asked.
pub record Appended {S : Type 0} (may_post : MayPost S) (prefix term bytes : List ℕ) (old : S) (s : Seat) (new : S) (t : Seat) : Type 0 where
  pub blocks : List (List ℕ)
  pub cut : IsCut bytes blocks
  pub kept : AllDone may_post prefix term (map Append blocks) old s new t

-- the same of the next epoch
pub record Filled {S : Type 0} (may_post : MayPost S) (prefix term bytes : List ℕ) (old : S) (s : Seat) (new : S) (t : Seat) : Type 0 where
  pub blocks : List (List ℕ)
  pub cut : IsCut bytes blocks
  pub filled : AllDone may_post prefix term (map Fill blocks) old s new t

-- what was left where the next epoch begins was removed, if anything was
abbrev pub Cleared : {S : Type 0} → MayPost S → List ℕ → List ℕ → S → Seat → S → Seat → Type 0
Cleared may_post prefix term old s new t = ((new ≡ old) × (t ≡ s)) ⊎ Done may_post prefix term Clear old s new t

-- it was looked before, unless that was known
abbrev pub Looked : {S : Type 0} → MayPost S → List ℕ → List ℕ → S → Seat → S → Seat → Type 0
Looked {S} may_post prefix term old s new t = Cleared may_post prefix term old s new t ⊎ ((mid : S) × ((m : Seat) × (Done may_post prefix term Look old s mid m × Cleared may_post prefix term mid m new t)))

-- It was looked where the next epoch begins, and what was left there was removed, so that it has no block. Then the blocks of its first line were written, and then
-- it goes on.
pub record Begun {S : Type 0} (may_post : MayPost S) (prefix term bytes : List ℕ) (old : S) (s : Seat) (new : S) (t : Seat) : Type 0 where
  pub free : S
  pub seat : Seat
  pub looked : Looked may_post prefix term old s free seat
  pub none : seat.ahead ≡ Has 0
  pub full : S
  pub ready : Seat
  pub filled : Filled may_post prefix term bytes free seat full ready
  pub switched : Done may_post prefix term Switch full ready new t
