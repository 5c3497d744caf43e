-- The samples of a body, line by line.
use Rattle.std.proofs.Common.{◌≡◌, ℕ, ◌+◌, ◌<◌, ◌≤◌, List, [], ◌∷◌, Bool, true, length, get_or, inl, inr, sym, false, take, drop, length-drop, zero, suc, ◌-◌, cond, ap, subst, ◌∙◌, arith}
use Rattle.std.specs.Prelude.{◌==◌, count_by}
use Rattle.std.specs.List.{position_or_len}
use Rattle.std.proofs.lemmas.Bool.{false_from_ne_true, cases_eq, cond_both, both_ways}
use Rattle.std.proofs.lemmas.List.{get_or_default, get_or-drop, drop-drop}
use Rattle.std.proofs.lemmas.List.Sums.{position_or_len_is, sum_by-cons}
use Rattle.std.proofs.lemmas.List.Splits.{slice_split_first, slice_split_none}
use Rattle.memchr.specs.Find.{places_from, places, Nowhere, NoneBefore, Passes, is_byte}
use Rattle.scrape_books.specs.Samples.{lines_of, is_sample_line, sample_count, saturated}

count_first : (body : List ℕ) (end : ℕ) → NoneBefore (Passes (is_byte 10) body) 0 (length body) end → Passes (is_byte 10) body end → sample_count body ≡ cond (is_sample_line (take end body)) 1 0 + sample_count (drop (end + 1) body)
count_first body end first feed =
    let feeds : ℕ → Bool = λ byte. byte == 10 in
    let high : end < length body = first.high in
    let place : position_or_len feeds body ≡ end
    = position_or_len_is feeds body end 0 (omega arith) (λ k l. false_from_ne_true _ (first.before k (omega arith) l)) (λ _. feed) in
    let parts = slice_split_first feeds body 0 (omega arith) in
    let lines : lines_of body ≡ take end body ∷ lines_of (drop (end + 1) body)
    = parts ∙ ap (λ (n : ℕ). take n body ∷ lines_of (drop (n + 1) body)) place in
    ap (count_by is_sample_line) lines ∙ sum_by-cons (λ (line : List ℕ). cond (is_sample_line line) 1 0) (take end body) (lines_of (drop (end + 1) body))

count_last : (body : List ℕ) → Nowhere (Passes (is_byte 10) body) 0 (length body) → sample_count body ≡ cond (is_sample_line body) 1 0
count_last body none =
    let lines : lines_of body ≡ body ∷ []
    = slice_split_none (λ (byte : ℕ). byte == 10) body (λ k d l. false_from_ne_true _ (subst (λ (byte : ℕ). ¬ ((byte == 10) ≡ true)) (get_or_default body k 0 d l) (none k (omega arith) l))) in
    ap (count_by is_sample_line) lines ∙ omega arith

-- the samples of the body from a place on, line by line: a line ends at each of these places, and the last one at the end
abbrev pub Cuts : List ℕ → ℕ → List ℕ → Type 0
Cuts body start [] = (start ≤ length body) × (sample_count (drop start body) ≡ cond (is_sample_line (drop start body)) 1 0)
Cuts body start (end ∷ ends) =
    (start ≤ end) × (end < length body) × (sample_count (drop start body) ≡ cond (is_sample_line (take (end - start) (drop start body))) 1 0 + sample_count (drop (end + 1) body)) × Cuts body (end + 1) ends

-- no line feed stands from one place up to another
abbrev NoFeed : List ℕ → ℕ → ℕ → Type 0
NoFeed body from to = (k : ℕ) → from ≤ k → k < to → get_or body k 0 == 10 ≡ true → ⊥

last_cut : (body : List ℕ) (start : ℕ) → start ≤ length body → NoFeed body start (length body) → Cuts body start []
last_cut body start within none = (
  within,
  count_last (drop start body) (λ k a l feed. none (start + k) (omega arith) (omega (arith, length-drop start body)) (rw get_or-drop at feed)),
)

first_cut : (body : List ℕ) (start end : ℕ) (ends : List ℕ) → start ≤ end → end < length body → NoFeed body start end → get_or body end 0 == 10 ≡ true → Cuts body (end + 1) ends → Cuts body start (end ∷ ends)
first_cut body start end ends ordered within none feed more =
    let place : start + (end - start) ≡ end = omega arith in
    let before : NoneBefore (Passes (is_byte 10) (drop start body)) 0 (length (drop start body)) (end - start)
    = record {
      low = omega arith;
      high = omega (arith, length-drop start body);
      before = λ k a l here. none (start + k) (omega arith) (omega arith) (rw get_or-drop at here);
    } in
    let here : Passes (is_byte 10) (drop start body) (end - start)
    = rw get_or-drop (subst (λ (n : ℕ). get_or body n 0 == 10 ≡ true) (sym place) feed) in
    let next : start + (end - start + 1) ≡ end + 1 = omega arith in
    let after = drop-drop (end - start + 1) start body ∙ ap (λ (n : ℕ). drop n body) next in
    let count = count_first (drop start body) (end - start) before here in
    (ordered, within, subst (λ (rest : List ℕ). sample_count (drop start body) ≡ cond (is_sample_line (take (end - start) (drop start body))) 1 0 + sample_count rest) after count, more)

no_feed_more : (body : List ℕ) (from i : ℕ) → NoFeed body from i → get_or body i 0 == 10 ≡ false → NoFeed body from (i + 1)
no_feed_more body from i none other_byte k a b feed =
    elim (cases_eq k i) [
      | inl e ↦ both_ways _ (subst (λ (n : ℕ). get_or body n 0 == 10 ≡ false) (sym e) other_byte) feed
      | inr other ↦ none k a (omega arith) feed
    ]

cuts_from : (n : ℕ) (body : List ℕ) (start i : ℕ) → i + n ≡ length body → start ≤ i → NoFeed body start i → Cuts body start (places_from (is_byte 10) body i n)
unfolding places_from
cuts_from zero body start i long ordered none = last_cut body start (omega arith) (λ k a b. none k a (omega arith))
cuts_from (suc n) body start i long ordered none =
    cond_both (get_or body i 0 == 10) (i ∷ places_from (is_byte 10) body (i + 1) n) (places_from (is_byte 10) body (i + 1) n) (Cuts body start)
    (λ feed. first_cut body start i (places_from (is_byte 10) body (i + 1) n) ordered (omega arith) none feed (cuts_from n body (i + 1) (i + 1) (omega arith) (omega arith) (λ k a b. absurd (omega arith))))
    (λ other_byte. cuts_from n body start (i + 1) (omega arith) (omega arith) (no_feed_more body start i none other_byte))

pub cuts : (body : List ℕ) → Cuts body 0 (places (is_byte 10) body)
cuts body = cuts_from (length body - 0) body 0 0 (omega arith) (omega arith) (λ k a b. absurd (omega arith))

-- the samples that are left to count after a line
pub still_to_count : (all rest line next count after : ℕ) → rest ≡ line + next → saturated (count + rest) ≡ all → after ≡ saturated (count + line) → saturated (after + next) ≡ all
still_to_count all rest line next count after parts left after_is = omega arith
