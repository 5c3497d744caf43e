-- The known targets that go on, one number after the other.
use Rattle.std.proofs.Common.{◌≡◌, ℕ, ◌+◌, ◌<◌, List, [], ◌∷◌, ◌++◌, Bool, true, false, Option, Some, cond, get_or, length, refl, sym, ap, ◌∙◌, add-one}
use Rattle.std.specs.Prelude.{option_and_then, slice_get}
use Rattle.std.specs.List.{cons_option, filter_map}
use Rattle.std.proofs.lemmas.List.{append-nil}
use Rattle.std.proofs.lemmas.List.Elements.{filter_map-append}
use Rattle.std.proofs.lemmas.Option.{slice_get-get_or}
use Rattle.fleet.specs.Live.{chosen_below, mark_at}
use Rattle.fleet.specs.declared.known_target.KnownTarget.{KnownTarget}
use Rattle.fleet_renewal.specs.Renewed.{moved, moved_at}

made : {X : Type 0} (f : ℕ → Option X) (n : ℕ) (b : Bool) (o : Option X) → f n ≡ o → filter_map f (cond b (n ∷ []) []) ≡ cond b (cons_option o []) []
made f n true o e = ap (λ p. cons_option p []) e
made f n false o e = refl

next : {X : Type 0} (p : ℕ → Bool) (f : ℕ → Option X) (n : ℕ) (b : Bool) (o : Option X) → p n ≡ b → f n ≡ o → filter_map f (chosen_below p (n + 1)) ≡ filter_map f (chosen_below p n) ++ cond b (cons_option o []) []
next {X} p f n b o pass is =
    ap (λ (k : ℕ). filter_map f (chosen_below p k)) (add-one n)
    ∙ filter_map-append f (chosen_below p n) (cond (p n) (n ∷ []) [])
    ∙ ap (λ (ys : List X). filter_map f (chosen_below p n) ++ ys) (made f n (p n) o is ∙ ap (λ (c : Bool). (let ys : List X = cond c (cons_option o []) [] in ys)) pass)

pub known_next :
    (known : List KnownTarget) (places : List (Option ℕ)) (marks : List Bool) (n : ℕ) (k : KnownTarget) (b : Bool) (o : Option KnownTarget) (before after : List KnownTarget)
    → n < length known → k ≡ get_or known n k → mark_at marks n ≡ b → o ≡ moved places k → before ≡ filter_map (moved_at known places) (chosen_below (mark_at marks) n)
    → after ≡ before ++ cond b (cons_option o []) [] → after ≡ filter_map (moved_at known places) (chosen_below (mark_at marks) (n + 1))
known_next known places marks n k b o before after l at mark is was grown =
    let there : slice_get known n ≡ Some k = slice_get-get_or known n k l ∙ ap (λ (x : KnownTarget). (let r : Option KnownTarget = Some x in r)) (sym at) in
    let made_here : moved_at known places n ≡ o = ap (option_and_then (moved places)) there ∙ sym is in
    grown ∙ ap (λ (ks : List KnownTarget). ks ++ cond b (cons_option o []) []) was ∙ sym (next (mark_at marks) (moved_at known places) n b o mark made_here)

-- a target that does not go on
pub known_skipped :
    (known : List KnownTarget) (places : List (Option ℕ)) (marks : List Bool) (n : ℕ) (before after : List KnownTarget) → mark_at marks n ≡ false → before ≡ filter_map (moved_at known places) (chosen_below (mark_at marks) n) → after ≡ before
    → after ≡ filter_map (moved_at known places) (chosen_below (mark_at marks) (n + 1))
known_skipped known places marks n before after mark was same =
    same ∙ was ∙ sym (append-nil (filter_map (moved_at known places) (chosen_below (mark_at marks) n))) ∙ sym (next (mark_at marks) (moved_at known places) n false (moved_at known places n) mark refl)
