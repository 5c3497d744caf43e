-- Whole lines are kept, and what follows the last line feed is not.
use Rattle.std.proofs.Common.{◌≡◌, ℕ, zero, suc, ◌+◌, ◌<◌, Bool, true, false, ◌||◌, List, [], ◌∷◌, ◌++◌, length, take, drop, inl, inr, ◌⊎◌, ap, ◌∙◌, refl, arith, rules, append_assoc, slice_index}
use Rattle.std.specs.Prelude.{◌==◌}
use Rattle.std.specs.List.{list_any}
use Rattle.json_values.specs.Texts.{is_line_feed}
use Rattle.sealed_lines.specs.Lines.{HasNoFeed, written, with_line}
use Rattle.durable_journal.specs.Lines.{whole_part}

-- with no line feed nothing is whole
pub none : (bs : List ℕ) → HasNoFeed bs → whole_part bs ≡ []
none [] absent = refl
none (b ∷ bs) absent = rw absent refl

pub fed : (front rest : List ℕ) → list_any is_line_feed (with_line front rest) ≡ true
fed [] rest = refl
fed (b ∷ front) rest = rw (fed front rest) grind (arith)

-- what stands before a line feed is kept
pub keeps : (front rest : List ℕ) → whole_part (with_line front rest) ≡ with_line front (whole_part rest)
keeps [] rest = refl
keeps (b ∷ front) rest = rw (fed (b ∷ front) rest) (ap (λ xs. b ∷ xs) (keeps front rest))

-- the lines that were written whole are kept, and the torn one is not
pub settles : (lines : List (List ℕ)) → (torn : List ℕ) → HasNoFeed torn → whole_part (written lines ++ torn) ≡ written lines
settles [] torn absent = none torn absent
settles (line ∷ lines) torn absent =
    ap whole_part (append_assoc line (10 ∷ written lines) torn) ∙ keeps line (written lines ++ torn) ∙ ap (with_line line) (settles lines torn absent)

fed_at : (k : ℕ) (bs : List ℕ) → k < length bs → slice_index bs k ≡ 10 → list_any is_line_feed bs ≡ true
fed_at k [] less at = search rules
fed_at zero (b ∷ bs) less at = let e : b ≡ 10 = at in rw e refl
fed_at (suc k) (b ∷ bs) less at = rw (fed_at k bs (omega arith) at) grind (arith)

cut_there : (k : ℕ) (bs : List ℕ) → k < length bs → slice_index bs k ≡ 10 → HasNoFeed (drop (suc k) bs) → whole_part bs ≡ take (suc k) bs
cut_there k [] less at absent = search rules
cut_there zero (b ∷ bs) less at absent = let e : b ≡ 10 = at in rw e (ap (λ xs. 10 ∷ xs) (none bs absent))
cut_there (suc k) (b ∷ bs) less at absent =
    let there : list_any is_line_feed (b ∷ bs) ≡ true = fed_at (suc k) (b ∷ bs) less at in
    rw there (ap (λ xs. b ∷ xs) (cut_there k bs (omega arith) at absent))

-- a list, cut at a line feed after which there is none
pub cut_at : (k : ℕ) (bs : List ℕ) → k < length bs → slice_index bs k ≡ 10 → HasNoFeed (drop (k + 1) bs) → whole_part bs ≡ take (k + 1) bs
cut_at k bs less at absent = let e : k + 1 ≡ suc k = omega arith in let rest : HasNoFeed (drop (suc k) bs) = rw (← e) absent in rw e (cut_there k bs less at rest)

-- ---- a beginning of a line

pub or_false : (a b : Bool) → (a || b) ≡ false → (a ≡ false) × (b ≡ false)
or_false true b h = cc
or_false false b h = (refl, h)

-- a beginning of a line and what follows it ends in the line, or after it
pub record Beyond (line rest front lost : List ℕ) : Type 0 where
  pub more : List ℕ
  pub begins : front ≡ with_line line more
  pub ends : rest ≡ more ++ lost

pub cut : (line rest front lost : List ℕ) → HasNoFeed line → with_line line rest ≡ front ++ lost → HasNoFeed front ⊎ Beyond line rest front lost
cut line rest [] lost absent e = inl refl
cut [] rest (f ∷ front) lost absent e = inr (record { more = front; begins = cc; ends = cc })
cut (b ∷ line) rest (f ∷ front) lost absent e =
    let parts = or_false (b == 10) (list_any is_line_feed line) absent in
    let heads : b ≡ f = cc in
    let tails : with_line line rest ≡ front ++ lost = cc in
    elim (cut line rest front lost parts.1 tails) as (λ x. HasNoFeed (f ∷ front) ⊎ Beyond (b ∷ line) rest (f ∷ front) lost) [
      | inl none ↦ inl (rw (← heads) (rw parts.0 none))
      | inr beyond ↦ inr (record { more = beyond.more; begins = cc; ends = beyond.ends })
    ]
