-- Receipts beside the entries of a journal.
use Rattle.std.proofs.Common.{◌≡◌, ℕ, ◌+◌, ◌<◌, List, [], ◌∷◌, ◌++◌, length, get_or, take, refl, ap, sym, ◌∙◌, arith, suc, zero, length-take}
use Rattle.std.proofs.lemmas.List.{take_more}
use Rattle.std.specs.Prelude.{map}
use Rattle.allocation_core.specs.State.{State}
use Rattle.allocation_core.specs.Runs.{answers_of}
use Rattle.fleet_events.specs.declared.event.Event.{Event}
use Rattle.fleet_events.specs.declared.answer.Answer.{Answer}
use Rattle.journal_entries.specs.Legal.{IsLegal, events_in, answers_in}
use Rattle.journal_entries.specs.declared.entry.Entry.{Entry}
use Rattle.alloc_desk.specs.declared.receipt.Receipt.{Receipt}
use Rattle.alloc_desk.specs.Receipts.{told, told_from}

pub told_from_length : (n : ℕ) (es : List Entry) → length (told_from n es) ≡ length es
told_from_length n [] = refl
told_from_length n (e ∷ es) = ap suc (told_from_length (n + 1) es)

told_from_push : (n : ℕ) (es : List Entry) (e : Entry) → told_from n (es ++ e ∷ []) ≡ told_from n es ++ told (n + length es) e ∷ []
told_from_push n [] e = ap (λ (k : ℕ). told k e ∷ []) (omega arith)
told_from_push n (x ∷ es) e =
    let at : (n + 1) + length es ≡ n + length (x ∷ es) = omega arith in
    ap (λ (rs : List (Event × Receipt)). told n x ∷ rs) (told_from_push (n + 1) es e ∙ ap (λ (k : ℕ). told_from (n + 1) es ++ told k e ∷ []) at)

told_from_get : (n : ℕ) (es : List Entry) (k : ℕ) (r : Event × Receipt) (e : Entry) → k < length es → get_or (told_from n es) k r ≡ told (n + k) (get_or es k e)
told_from_get n [] k r e h = absurd (omega arith)
told_from_get n (x ∷ es) zero r e h = ap (λ (k : ℕ). told k x) (omega arith)
told_from_get n (x ∷ es) (suc k) r e h =
    let at : (n + 1) + k ≡ n + suc k = omega arith in
    told_from_get (n + 1) es k r e (omega arith) ∙ ap (λ (i : ℕ). told i (get_or es k e)) at

-- one more receipt agrees
pub agree_more :
    (rs : List (Event × Receipt)) (es : List Entry) (i : ℕ) (r : Event × Receipt) (e : Entry) → i < length rs → length rs ≡ length es
    → r ≡ get_or rs i r → e ≡ get_or es i e → r ≡ told i e → take i rs ≡ told_from 0 (take i es) → take (i + 1) rs ≡ told_from 0 (take (i + 1) es)
agree_more rs es i r e lt same r_is e_is is so_far =
    let at : 0 + length (take i es) ≡ i = omega (arith, length-take i es) in
    take_more rs i r lt
    ∙ ((λ k. so_far k ++ (sym r_is ∙ (is ∙ (λ x. told (sym at x) (e_is x)))) k ∷ [])
    ∙ (sym (told_from_push 0 (take i es) (get_or es i e)) ∙ ap (told_from 0) (sym (take_more es i e (omega arith)))))

-- where all agree, each does
pub agree_at :
    (rs : List (Event × Receipt)) (es : List Entry) (i : ℕ) (r : Event × Receipt) (e : Entry) → i < length rs → length rs ≡ length es
    → r ≡ get_or rs i r → e ≡ get_or es i e → rs ≡ told_from 0 es → r ≡ told i e
agree_at rs es i r e lt same r_is e_is all =
    let at : 0 + i ≡ i = omega arith in
    r_is ∙ (ap (λ (l : List (Event × Receipt)). get_or l i r) all ∙ (told_from_get 0 es i r e (omega arith) ∙ (λ x. told (at x) (sym e_is x))))

-- the events and the answers of all receipts are those of the journal
events_told : (n : ℕ) (es : List Entry) → map (λ (r : Event × Receipt). r.0) (told_from n es) ≡ events_in es
events_told n [] = refl
events_told n (e ∷ es) = ap (λ (events : List Event). e.event ∷ events) (events_told (n + 1) es)

answers_told : (n : ℕ) (es : List Entry) → map (λ (r : Event × Receipt). r.1.answer) (told_from n es) ≡ answers_in es
answers_told n [] = refl
answers_told n (e ∷ es) = ap (λ (answers : List Answer). e.answer ∷ answers) (answers_told (n + 1) es)

pub told_history : (m : State) (es : List Entry) (n : State) (rs : List (Event × Receipt)) → IsLegal m es n → rs ≡ told_from 0 es
    → map (λ (r : Event × Receipt). r.1.answer) rs ≡ answers_of m (map (λ (r : Event × Receipt). r.0) rs)
told_history m es n rs legal is =
    ap (map (λ (r : Event × Receipt). r.1.answer)) is
    ∙ (answers_told 0 es
    ∙ (legal.answers ∙ ap (answers_of m) (sym (ap (map (λ (r : Event × Receipt). r.0)) is ∙ events_told 0 es))))
