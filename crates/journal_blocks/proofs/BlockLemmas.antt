-- Blocks, one more at the end, and torn ends.
use Rattle.std.proofs.Common.{◌≡◌, ◌≢◌, ◌⊎◌, inl, inr, ℕ, zero, suc, ◌+◌, ◌-◌, ◌<◌, ◌≤◌, ◌==◌, Bool, true, false, List, [], ◌∷◌, ◌++◌, All, cond, eqb, length, get_or, take, drop, refl, sym, ap, subst, ◌∙◌, append_assoc, append-nil, length-append, arith}
use Rattle.std.proofs.Math.Numerals.{add-one}
use Rattle.std.proofs.lemmas.List.{get_or-append-add, get_or-map, length-map, length-take-le, take-append-drop, take_more}
use Rattle.std.proofs.Math.ListN.{get_or-append}
use Rattle.std.specs.Prelude.{map, nat_lt, not, slice_index}
use Rattle.std.specs.List.{concat}
use Rattle.std.proofs.lemmas.Bool.{cases_Bool, eqb-false, ltb-false, ltb-true, ne_eqb}
use Rattle.std.proofs.lemmas.List.Elements.{All-cons, All-head, All-nil, All-push, All-tail}
use Rattle.std.proofs.lemmas.List.Folds.{concat-append}
use Rattle.journal_blocks.specs.declared.blocks.TheConstants.{MOST_BYTES}
use Rattle.journal_blocks.specs.Blocks.{AreBlocks, Fits, IsOfSize, IsPiece, IsTornAt, TornEndsAreBlocks, ends_line, whole_count}

lt_or_le : (k n : ℕ) → (k < n) ⊎ (n ≤ k)
lt_or_le k n = elim (cases_Bool (nat_lt k n)) [ inl e ↦ inl (ltb-true k n e) | inr e ↦ inr (ltb-false k n e) ]

last_or_before : (k n : ℕ) → k < n → (k ≡ n - 1) ⊎ (k + 1 < n)
last_or_before k n l = elim (lt_or_le (k + 1) n) [ inl m ↦ inr m | inr m ↦ inl (omega arith) ]

-- whether what follows some blocks stands within a line
abbrev pub within_after : Bool → List (List ℕ) → Bool
within_after within [] = within
within_after within (block ∷ blocks) = within_after (not (ends_line block)) blocks

pub within_after-push : (within : Bool) (blocks : List (List ℕ)) (block : List ℕ) → within_after within (blocks ++ block ∷ []) ≡ not (ends_line block)
within_after-push within [] block = refl
within_after-push within (b ∷ blocks) block = within_after-push (not (ends_line b)) blocks block

pub blocks_push : (within : Bool) (blocks : List (List ℕ)) (block : List ℕ) → AreBlocks within blocks → Fits (within_after within blocks) block → AreBlocks within (blocks ++ block ∷ [])
blocks_push within [] block all fits = (fits, tt)
blocks_push within (b ∷ blocks) block all fits = (all.0, blocks_push (not (ends_line b)) blocks block all.1 fits)

pub concat_push : (blocks : List (List ℕ)) (block : List ℕ) → concat (blocks ++ block ∷ []) ≡ concat blocks ++ block
concat_push blocks block = concat-append blocks (block ∷ []) ∙ ap (λ (t : List ℕ). concat blocks ++ t) (append-nil block)

-- ---- how many blocks there are up to the last that ends a line

whole_push : (blocks : List (List ℕ)) (block : List ℕ) → whole_count (blocks ++ block ∷ []) ≡ cond (ends_line block) (length blocks + 1) (whole_count blocks)
whole_push [] block = go (ends_line block)
  where
    go : (e : Bool) → cond e 1 0 ≡ cond e (0 + 1) 0
    go true = omega arith
    go false = refl
whole_push (b ∷ blocks) block = ap (λ (n : ℕ). cond (n == 0) (cond (ends_line b) 1 0) (n + 1)) (whole_push blocks block) ∙ go (ends_line block)
  where
    go : (e : Bool) → cond (cond e (length blocks + 1) (whole_count blocks) == 0) (cond (ends_line b) 1 0) (cond e (length blocks + 1) (whole_count blocks) + 1) ≡ cond e (length (b ∷ blocks) + 1) (whole_count (b ∷ blocks))
    go true = ap (λ (t : Bool). cond t (cond (ends_line b) 1 0) (length blocks + 1 + 1)) (ne_eqb (length blocks + 1) 0 (λ e. absurd (omega arith))) ∙ omega arith
    go false = refl

pub whole_more : (blocks : List (List ℕ)) (block : List ℕ) (n next : ℕ) → n ≡ whole_count blocks → ((ends_line block ≡ true) × (next ≡ length blocks + 1)) ⊎ ((ends_line block ≡ false) × (next ≡ n)) → next ≡ whole_count (blocks ++ block ∷ [])
whole_more blocks block n next e (inl w) = w.1 ∙ sym (whole_push blocks block ∙ ap (λ (b : Bool). cond b (length blocks + 1) (whole_count blocks)) w.0)
whole_more blocks block n next e (inr w) = w.1 ∙ e ∙ sym (whole_push blocks block ∙ ap (λ (b : Bool). cond b (length blocks + 1) (whole_count blocks)) w.0)

-- the step of a loop over some blocks
pub whole_step : {B : Type 0} (f : B → List ℕ) (bs : List B) (i n next : ℕ) (d : B) (r : Bool) → i < length bs → r ≡ ends_line (f (get_or bs i d)) → n ≡ whole_count (take i (map f bs)) → ((r ≡ true) × (next ≡ i + 1)) ⊎ ((r ≡ false) × (next ≡ n)) → next ≡ whole_count (take (i + 1) (map f bs))
whole_step f bs i n next d r l e here way =
    let all = map f bs in
    let block = f (get_or bs i d) in
    let long : length all ≡ length bs = length-map bs f in
    let size : length (take i all) ≡ i = length-take-le i all (omega arith) in
    let more : take (i + 1) all ≡ take i all ++ block ∷ [] = take_more all i (f d) (omega arith) ∙ ap (λ (b : List ℕ). take i all ++ b ∷ []) (get_or-map f bs i d (f d) l) in
    let ways : ((ends_line block ≡ true) × (next ≡ length (take i all) + 1)) ⊎ ((ends_line block ≡ false) × (next ≡ n)) = elim way [ inl w ↦ inl (sym e ∙ w.0, w.1 ∙ ap (λ (k : ℕ). k + 1) (sym size)) | inr w ↦ inr (sym e ∙ w.0, w.1) ] in
    whole_more (take i all) block n next here ways ∙ ap whole_count (sym more)

-- ---- one more block is cut off

pub cut_whole : (old new : List (List ℕ)) (block rest others text : List ℕ) (n : ℕ) → new ≡ old ++ block ∷ [] → block ≡ take n rest → others ≡ drop n rest → concat old ++ rest ≡ text → concat new ++ others ≡ text
cut_whole old new block rest others text n pushed front back here =
    ap (λ (bs : List (List ℕ)). concat bs ++ others) pushed ∙ ap (λ (t : List ℕ). t ++ others) (concat_push old block) ∙ append_assoc (concat old) block others
    ∙ ap (λ (t : List ℕ). concat old ++ (t ++ others)) front ∙ ap (λ (t : List ℕ). concat old ++ (take n rest ++ t)) back ∙ ap (λ (t : List ℕ). concat old ++ t) (take-append-drop n rest) ∙ here

pub cut_sizes : (old new : List (List ℕ)) (block rest : List ℕ) (n : ℕ) → new ≡ old ++ block ∷ [] → block ≡ take n rest → 0 < n → n ≤ length rest → n ≤ MOST_BYTES → All IsOfSize old → All IsOfSize new
cut_sizes old new block rest n pushed front some there short here =
    let size : length block ≡ n = ap length front ∙ length-take-le n rest there in
    subst (All IsOfSize) (sym pushed) (All-push IsOfSize old block here (omega arith, omega (arith, short, size)))

pub cut_lines : (old new : List (List ℕ)) (block rest : List ℕ) (n : ℕ) (within : Bool) → new ≡ old ++ block ∷ [] → block ≡ take n rest → Fits within (take n rest) → within_after false old ≡ within → AreBlocks false old → AreBlocks false new
cut_lines old new block rest n within pushed front fits state here =
    subst (AreBlocks false) (sym pushed) (blocks_push false old block here (subst (λ (w : Bool). Fits w block) (sym state) (subst (Fits within) (sym front) fits)))

pub cut_state : (old new : List (List ℕ)) (block : List ℕ) (ends : Bool) → new ≡ old ++ block ∷ [] → ends ≡ ends_line block → within_after false new ≡ not ends
cut_state old new block ends pushed e = ap (within_after false) pushed ∙ within_after-push false old block ∙ ap not (sym e)

-- ---- torn ends

-- a piece that does not end its line has no line feed
no_feed : (block : List ℕ) → IsPiece block → ends_line block ≡ false → (k : ℕ) → k < length block → slice_index block k ≢ 10
no_feed block piece undone k l e = elim (last_or_before k (length block) l) [
  | inl last ↦ eqb-false (slice_index block (length block - 1)) 10 undone (ap (slice_index block) (sym last) ∙ e)
  | inr before ↦ piece k before e
]

piece_of : (within : Bool) (block : List ℕ) → Fits within block → ends_line block ≡ false → IsPiece block
piece_of true block fits undone = fits
piece_of false block (inl piece) undone = piece
piece_of false block (inr ends) undone = absurd (cc (ends, undone))

-- neither have two texts together of which neither has one
none_in_both : (front back : List ℕ) → ((k : ℕ) → k < length front → slice_index front k ≢ 10) → ((k : ℕ) → slice_index back k ≢ 10) → (k : ℕ) → slice_index (front ++ back) k ≢ 10
none_in_both front back none others k e = elim (lt_or_le k (length front)) [
  | inl l ↦ none k l (sym (get_or-append front back 0 k l) ∙ e)
  | inr l ↦
      let at : k ≡ length front + (k - length front) = omega arith in
      others (k - length front) (sym (get_or-append-add front back (k - length front) 0) ∙ ap (slice_index (front ++ back)) (sym at) ∙ e)
]

-- a text ends a line if what stands at its end does
ends_behind : (front back : List ℕ) → ends_line back ≡ true → ends_line (front ++ back) ≡ true
ends_behind front [] e = absurd (cc e)
ends_behind front (b ∷ back) e =
    let at : length (front ++ b ∷ back) - 1 ≡ length front + (length (b ∷ back) - 1) = omega (arith, length-append front (b ∷ back)) in
    ap (λ (k : ℕ). slice_index (front ++ b ∷ back) k == 10) at ∙ ap (λ (n : ℕ). n == 10) (get_or-append-add front (b ∷ back) (length (b ∷ back) - 1) 0) ∙ e

torn_none : (within : Bool) (block : List ℕ) (blocks : List (List ℕ)) → Fits within block → IsTornAt blocks 0 → (e : Bool) → ends_line block ≡ e → IsTornAt (block ∷ blocks) (cond e 1 0)
torn_none within block blocks fits h true e = record { torn = h.torn; whole = λ l. ap ends_line (append-nil block) ∙ e }
torn_none within block blocks fits h false e = record { torn = none_in_both block (concat blocks) (no_feed block (piece_of within block fits e) e) h.torn; whole = λ l. absurd (omega arith) }

torn_step : (within : Bool) (block : List ℕ) (blocks : List (List ℕ)) (n : ℕ) → Fits within block → IsTornAt blocks n → IsTornAt (block ∷ blocks) (cond (n == 0) (cond (ends_line block) 1 0) (n + 1))
torn_step within block blocks zero fits h = torn_none within block blocks fits h (ends_line block) refl
torn_step within block blocks (suc n) fits h =
    let count : suc (suc n) ≡ cond (suc n == 0) (cond (ends_line block) 1 0) (suc n + 1) = sym (ap (λ (b : Bool). cond b (cond (ends_line block) 1 0) (suc n + 1)) (ne_eqb (suc n) 0 (λ e. absurd (omega arith))) ∙ add-one (suc n)) in
    subst (IsTornAt (block ∷ blocks)) count (record { torn = h.torn; whole = λ l. ends_behind block (concat (take (suc n) blocks)) (h.whole (omega arith)) })

torn_at : (within : Bool) (blocks : List (List ℕ)) → AreBlocks within blocks → IsTornAt blocks (whole_count blocks)
torn_at within [] all = record { torn = λ k e. absurd (cc e); whole = λ l. absurd (omega arith) }
torn_at within (block ∷ blocks) all = torn_step within block blocks (whole_count blocks) all.0 (torn_at (not (ends_line block)) blocks all.1)

pub torn_ends_are_blocks : TornEndsAreBlocks
torn_ends_are_blocks blocks all = torn_at false blocks all
