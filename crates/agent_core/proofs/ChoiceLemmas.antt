-- Reports that are chosen one after the other.
use Rattle.std.proofs.Common.{◌≡◌, ℕ, ◌+◌, ◌<◌, ◌++◌, List, [], ◌∷◌, Option, Result, Ok, Err, OnErr, length, get_or, drop, take, refl, sym, ap, ◌∙◌}
use Rattle.std.specs.List.{cons_option}
use Rattle.std.proofs.lemmas.List.{take_more}
use Rattle.agent_core.specs.Told.{Told}
use Rattle.agent_core.specs.Choices.{after, chosen, chosen_of, points_of, with_chosen}
use Rattle.agent_core.specs.declared.target.Series.{Series}
use Rattle.agent_core.specs.declared.target.Listed.{Listed}
use Rattle.agent_core.specs.declared.slot.Point.{Point}
use Rattle.agent_core.specs.declared.report.Head.{Head}
use Rattle.agent_core.specs.declared.report.Report.{Report}
use Rattle.agent_core.proofs.StepLemmas.{add_more, left}

pub chosen_more :
    (told : Told) (head : Head) (said : List (Series × List Point)) (targets : List Listed) (i : ℕ) (listed : Listed) (o : Option Report) (reports : List Report) → i < length targets → listed ≡ get_or targets i listed
    → o ≡ chosen_of told head (points_of said listed.series) listed
    → (reports ++ cons_option o []) ++ chosen (with_chosen told o) head said (drop (i + 1) targets) ≡ reports ++ chosen told head said (drop i targets)
chosen_more told head said targets i listed o reports within is one =
    add_more reports o (chosen (with_chosen told o) head said (drop (i + 1) targets))
    ∙ ap (λ (p : Option Report). reports ++ cons_option p (chosen (with_chosen told p) head said (drop (i + 1) targets))) one
    ∙ ap (λ (ts : List Listed). reports ++ chosen told head said ts) (sym (left targets i listed listed within is))

pub after_more :
    (told : Told) (head : Head) (said : List (Series × List Point)) (targets : List Listed) (i : ℕ) (listed : Listed) (o : Option Report) → i < length targets → listed ≡ get_or targets i listed
    → o ≡ chosen_of told head (points_of said listed.series) listed → after (with_chosen told o) head said (drop (i + 1) targets) ≡ after told head said (drop i targets)
after_more told head said targets i listed o within is one =
    ap (λ (p : Option Report). after (with_chosen told p) head said (drop (i + 1) targets)) one
    ∙ ap (λ (ts : List Listed). after told head said ts) (sym (left targets i listed listed within is))

after_last : (told : Told) (head : Head) (said : List (Series × List Point)) (targets : List Listed) (listed : Listed)
    → after told head said (targets ++ listed ∷ []) ≡ with_chosen (after told head said targets) (chosen_of (after told head said targets) head (points_of said listed.series) listed)
after_last told head said [] listed = refl
after_last told head said (first ∷ targets) listed = after_last (with_chosen told (chosen_of told head (points_of said first.series) first)) head said targets listed

-- what was told after one target more
pub after_next :
    (told : Told) (head : Head) (said : List (Series × List Point)) (targets : List Listed) (i : ℕ) (listed : Listed) (o : Option Report) (now : Told) → i < length targets → listed ≡ get_or targets i listed
    → now ≡ after told head said (take i targets) → o ≡ chosen_of now head (points_of said listed.series) listed → with_chosen now o ≡ after told head said (take (i + 1) targets)
after_next told head said targets i listed o now within is at one =
    ap (λ (p : Option Report). with_chosen now p) one
    ∙ ap (λ (t : Told). with_chosen t (chosen_of t head (points_of said listed.series) listed)) at
    ∙ sym (after_last told head said (take i targets) listed)
    ∙ ap (λ (l : Listed). after told head said (take i targets ++ l ∷ [])) is
    ∙ ap (λ (ts : List Listed). after told head said ts) (sym (take_more targets i listed within))

pub on_err : {A E : Type 0} (r : Result A E) (P : Type 0) → P → OnErr r P
on_err (Ok x) P p = tt
on_err (Err e) P p = p
