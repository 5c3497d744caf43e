-- What a turn makes of a seat.
use Rattle.std.proofs.Common.{◌≡◌, ◌≢◌, ◌⊎◌, inl, inr, ◌==◌, ◌&&◌, ◌++◌, ℕ, Bool, true, false, List, [], ◌∷◌, Option, Some, None, cond, refl, sym, ap, subst, ◌∙◌}
use Rattle.std.specs.Prelude.{is_none, not}
use Rattle.std.specs.Option.{option_map_or}
use Rattle.std.proofs.lemmas.Bool.{cases_Bool, ne_eqb}
use Rattle.etcd_answers.specs.Answers.{answer_said, told_by}
use Rattle.etcd_answers.specs.Laws.{IsThere, KeptIsThere}
use Rattle.etcd_answers.specs.Verdicts.{write_verdict}
use Rattle.etcd_answers.specs.declared.answer.Answer.{Answer}
use Rattle.etcd_answers.specs.declared.answer.Answer.TheVariants.{Told as IsTold, Unknown as NotKnown}
use Rattle.etcd_answers.specs.declared.answer.Told.{Told}
use Rattle.etcd_answers.specs.declared.verdict.Verdict.{Verdict}
use Rattle.etcd_answers.specs.declared.verdict.Verdict.TheVariants.{Kept, Deposed, Unknown}
use Rattle.etcd_terms.specs.declared.seat.Seat.{Seat}
use Rattle.etcd_terms.specs.declared.seat.Wish.{Wish}
use Rattle.etcd_terms.specs.declared.seat.Wish.TheVariants.{Append, Cut, Look, Clear, Fill, Switch, Forget}
use Rattle.etcd_terms.specs.Laws.{AsksWhatIsPosted, CountsWhatIsKept, IsKeptBy, OthersChangeNothing, OverIsSilent, UnknownAsksAgain}
use Rattle.etcd_terms.specs.Runs.{Turn, Wishes, Hears, Ends, asked_in, requests_of, run, script, turned}
use Rattle.etcd_terms.specs.Seats.{ended, heard, is_granted, judged, may, verdict_of, wished}

-- ---- what is not known

unheard : (term : List ℕ) (s : Seat) (o : Option Wish) → option_map_or (λ wish. judged s NotKnown wish (verdict_of term s NotKnown wish)) o s ≡ s
unheard term s None = refl
unheard term s (Some (Append block)) = refl
unheard term s (Some Cut) = refl
unheard term s (Some Look) = refl
unheard term s (Some Clear) = refl
unheard term s (Some (Fill block)) = refl
unheard term s (Some Switch) = refl
unheard term s (Some (Forget epoch)) = refl

pub unknown_asks_again : UnknownAsksAgain
unknown_asks_again term s = unheard term s s.asked

pub others_change_nothing : OthersChangeNothing
others_change_nothing term body status s other =
    ap (λ (b : Bool). heard term s (cond b (option_map_or IsTold (told_by body) NotKnown) NotKnown)) (ne_eqb status 200 other) ∙ unknown_asks_again term s

-- ---- whoever leads no more

refused : (s : Seat) (wish : Wish) → s.is_over ≡ true → is_granted s wish ≡ false
refused s wish over = ap (λ (b : Bool). not b && (is_none s.asked && may s wish)) over

stays_over : (term : List ℕ) (s : Seat) (turn : Turn) → s.is_over ≡ true → s.asked ≡ None → turned term s turn ≡ s
stays_over term s (Wishes wish) over none = ap (λ (b : Bool). cond b (record s { asked = Some wish }) s) (refused s wish over)
stays_over term s (Hears answer) over none = ap (λ (o : Option Wish). option_map_or (λ wish. judged s answer wish (verdict_of term s answer wish)) o s) none
stays_over term s Ends over none = ap (λ (b : Bool). record s { is_over = b; asked = None }) (sym over) ∙ ap (λ (o : Option Wish). record s { asked = o }) (sym none)

asks_nothing : (t : ℕ) (s : Seat) (turn : Turn) → s.is_over ≡ true → asked_in t s turn ≡ []
asks_nothing t s (Wishes wish) over = ap (λ (b : Bool). cond b (requests_of t s wish) []) (refused s wish over)
asks_nothing t s (Hears answer) over = refl
asks_nothing t s Ends over = refl

pub over_is_silent : OverIsSilent
over_is_silent t term s [] over none = (refl, refl)
over_is_silent t term s (turn ∷ turns) over none =
    let later = over_is_silent t term s turns over none in
    let same = stays_over term s turn over none in (
      ap (λ (x : Seat). run term x turns) same ∙ later.0,
      ap (λ (x : Seat). asked_in t s turn ++ script t term x turns) same ∙ ap (λ rs. rs ++ script t term s turns) (asks_nothing t s turn over) ∙ later.1,
    )

-- ---- what counts as kept

is_kept : (s : Seat) (answer : Answer) (wish : Wish) (v : Verdict) → s.asked ≡ Some wish → (judged s answer wish v).is_over ≡ false → (judged s answer wish v).asked ≡ None → v ≡ Kept
is_kept s answer wish Kept asked live settled = refl
is_kept s answer wish Deposed asked live settled = absurd (cc live)
is_kept s answer wish Unknown asked live settled = absurd (cc (asked, settled))

by_told : KeptIsThere → (term block : List ℕ) (told : Told) → write_verdict term block (IsTold told) ≡ Kept → (told.succeeded ≡ true) ⊎ IsThere term block told
by_told law term block told kept = elim (cases_Bool told.succeeded) [ inl e ↦ inl e | inr e ↦ inr (law term block told e kept) ]

by_answer : KeptIsThere → (term block : List ℕ) (answer : Answer) → write_verdict term block answer ≡ Kept → IsKeptBy term block answer
by_answer law term block NotKnown kept = absurd (cc kept)
by_answer law term block (IsTold told) kept = by_told law term block told kept

asked_of : (term : List ℕ) (s : Seat) (answer : Answer) (wish : Wish) → s.asked ≡ Some wish → heard term s answer ≡ judged s answer wish (verdict_of term s answer wish)
asked_of term s answer wish asked = ap (λ (o : Option Wish). option_map_or (λ w. judged s answer w (verdict_of term s answer w)) o s) asked

kept_of : (term : List ℕ) (s : Seat) (answer : Answer) (wish : Wish) → s.asked ≡ Some wish → (heard term s answer).is_over ≡ false → (heard term s answer).asked ≡ None → verdict_of term s answer wish ≡ Kept
kept_of term s answer wish asked live settled =
    let same = asked_of term s answer wish asked in
    is_kept s answer wish (verdict_of term s answer wish) asked (ap (λ (x : Seat). x.is_over) (sym same) ∙ live) (ap (λ (x : Seat). x.asked) (sym same) ∙ settled)

pub counts_what_is_kept : KeptIsThere → CountsWhatIsKept
counts_what_is_kept law term block s answer (inl asked) over live settled = by_answer law term block answer (kept_of term s answer (Append block) asked live settled)
counts_what_is_kept law term block s answer (inr asked) over live settled = by_answer law term block answer (kept_of term s answer (Fill block) asked live settled)

-- ---- what is posted

pub asks_what_is_posted : AsksWhatIsPosted
asks_what_is_posted text t s (Append block) = refl
asks_what_is_posted text t s Cut = refl
asks_what_is_posted text t s Look = tt
asks_what_is_posted text t s Clear = refl
asks_what_is_posted text t s (Fill block) = refl
asks_what_is_posted text t s Switch = refl
asks_what_is_posted text t s (Forget epoch) = refl
