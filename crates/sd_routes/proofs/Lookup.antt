-- What the router finds in the table of paths is the first row that fits.
use Rattle.std.proofs.Common.{◌≡◌, ◌≢◌, ℕ, suc, ◌-◌, ◌<◌, ◌≤◌, List, [], ◌∷◌, ◌++◌, length, drop, Option, Some, None, Bool, true, false, cond, refl, sym, ap, ◌∙◌, arith, nat_eq, ◌==◌, ltb, ◌&&◌, not, append-nil}
use Rattle.std.proofs.lemmas.Bool.Decides.{nat_tests}
use Rattle.std.specs.List.{ends_with}
use Rattle.matchit.specs.Rows.{Rows, prepend, ends, param_token, catch_all_token}
use Rattle.matchit.specs.Seek.{own, step, or_else, seek, first, param_step, has_slash, segment, longest_suffix, with_suffix, cuts}
use Rattle.matchit.specs.Level.{IsText, AllSegment}
use Rattle.matchit.proofs.SeekLemmas.{prepend-nil, step-append, step-hit, step-miss, or_else-none, seek-empty, seek-drop, seek-lit, param_step-empty}
use Rattle.matchit.proofs.LongestLemmas.{longest_from-append, longest-kid}
use Rattle.matchit.proofs.ParamLemmas.{longest-ends, with_suffix-append, with_suffix-all, with_suffix-ends, drop-length}
use Rattle.sd_routes.specs.Places.{fits, first_fit, past_segment}

-- on these rows the router finds the first that fits
abbrev pub Agrees : Rows → Type 0
Agrees rows = (path : List ℕ) → IsText path → first rows path ≡ first_fit rows path

-- ---- what fits first

fit-append : (x y : Rows) (p : List ℕ) → first_fit (x ++ y) p ≡ or_else (first_fit x p) (first_fit y p)
fit-append [] y p = refl
fit-append ((t, k) ∷ x) y p =
    elim (fits t p) as (λ v. cond v (Some k) (first_fit (x ++ y) p) ≡ or_else (cond v (Some k) (first_fit x p)) (first_fit y p)) [
      | true ↦ refl
      | false ↦ fit-append x y p
    ]

fit-nil : (r : Rows) → own r ≡ first_fit r []
fit-nil [] = refl
fit-nil (([], k) ∷ r) = refl
fit-nil ((x ∷ t, k) ∷ r) = fit-nil r

fit-hit : (x : ℕ) (w : List ℕ) (t : Rows) (p : List ℕ) → x < 256 → first_fit (prepend (x ∷ w) t) (x ∷ p) ≡ first_fit (prepend w t) p
fit-hit x w [] p h = refl
fit-hit x w ((t, k) ∷ r) p h =
    let byte : (x == 256) ≡ false = grind (arith, nat_tests) in
    let same : (x == x) ≡ true = grind (arith, nat_tests) in
    rw (byte, same, fit-hit x w r p h) refl

fit-miss : (x y : ℕ) (w : List ℕ) (t : Rows) (p : List ℕ) → x < 256 → x ≢ y → first_fit (prepend (x ∷ w) t) (y ∷ p) ≡ None
fit-miss x y w [] p h n = refl
fit-miss x y w ((t, k) ∷ r) p h n =
    let byte : (x == 256) ≡ false = grind (arith, nat_tests) in
    let other : (x == y) ≡ false = grind (arith, nat_tests) in
    rw (byte, other, fit-miss x y w r p h n) refl

first-nil : (r : Rows) → first r [] ≡ first_fit r []
unfolding seek
first-nil r = fit-nil r

-- ---- bytes in front

pub agrees-prefix : (w : List ℕ) (t : Rows) → IsText w → Agrees t → Agrees (prepend w t)
agrees-prefix [] t h a path text = ap (λ r. first r path) (prepend-nil t) ∙ a path text ∙ sym (ap (λ r. first_fit r path) (prepend-nil t))
agrees-prefix (x ∷ w) t h a [] text = first-nil (prepend (x ∷ w) t)
agrees-prefix (x ∷ w) t h a (y ∷ p) text = seek-lit x w t y p h.0 ∙ by (x == y) refl (agrees-prefix w t h.1 a p text.1)
  where
    by : (v : Bool) → (x == y) ≡ v → first (prepend w t) p ≡ first_fit (prepend w t) p → seek 0 (step y (prepend (x ∷ w) t)) p ≡ first_fit (prepend (x ∷ w) t) (y ∷ p)
    by true e ih =
        let xy : x ≡ y = grind (arith, nat_tests) in
        rw (← xy, step-hit x w t, fit-hit x w t p h.0) ih
    by false e ih =
        let n : x ≢ y = λ q. grind (arith, nat_tests) in
        rw (step-miss y x w t n, fit-miss x y w t p h.0 n) (seek-empty 0 p)

-- ---- the end of a route

seek-lits : (r : Rows) (y : ℕ) (p : List ℕ) → step param_token r ≡ [] → step catch_all_token r ≡ [] → seek 0 r (y ∷ p) ≡ seek 0 (step y r) p
unfolding seek
seek-lits r y p none other =
    simp (none, other, param_step-empty (y ∷ p), seek-empty ((param_step {K = ℕ} [] (y ∷ p)).0 - 1) p, or_else-none)

pub agrees-end : (k : ℕ) → Agrees (ends (Some k))
agrees-end k [] text = first-nil (ends (Some k))
agrees-end k (y ∷ p) text = seek-lits (ends (Some k)) y p refl refl ∙ seek-empty 0 p

-- ---- one of two

-- each row ends here, or goes on with another byte
abbrev pub misses : ℕ → Rows → Bool
misses x [] = true
misses x (([], k) ∷ r) = misses x r
misses x ((y ∷ t, k) ∷ r) = (ltb y 256 && not (y == x)) && misses x r

misses-step : (x : ℕ) (r : Rows) → misses x r ≡ true → step x r ≡ []
misses-step x [] h = refl
misses-step x (([], k) ∷ r) h = misses-step x r h
misses-step x ((y ∷ t, k) ∷ r) h =
    let other : (y == x) ≡ false = grind (arith, nat_tests) in
    let rest : misses x r ≡ true = grind (arith, nat_tests) in
    rw other (misses-step x r rest)

misses-wild : (x b : ℕ) (r : Rows) → misses x r ≡ true → 256 ≤ b → step b r ≡ []
misses-wild x b [] h wild = refl
misses-wild x b (([], k) ∷ r) h wild = misses-wild x b r h wild
misses-wild x b ((y ∷ t, k) ∷ r) h wild =
    let other : (y == b) ≡ false = grind (arith, nat_tests) in
    let rest : misses x r ≡ true = grind (arith, nat_tests) in
    rw other (misses-wild x b r rest wild)

misses-fit : (x : ℕ) (r : Rows) (p : List ℕ) → misses x r ≡ true → first_fit r (x ∷ p) ≡ None
misses-fit x [] p h = refl
misses-fit x (([], k) ∷ r) p h = misses-fit x r p h
misses-fit x ((y ∷ t, k) ∷ r) p h =
    let byte : (y == 256) ≡ false = grind (arith, nat_tests) in
    let other : (y == x) ≡ false = grind (arith, nat_tests) in
    let rest : misses x r ≡ true = grind (arith, nat_tests) in
    rw (byte, other) (misses-fit x r p rest)

pub agrees-or : (x : ℕ) (w : List ℕ) (t u : Rows) → x < 256 → misses x u ≡ true → Agrees (prepend (x ∷ w) t) → Agrees u → Agrees (prepend (x ∷ w) t ++ u)
agrees-or x w t u h m a b [] text = first-nil (prepend (x ∷ w) t ++ u)
agrees-or x w t u h m a b (y ∷ p) text =
    seek-lits (prepend (x ∷ w) t ++ u) y p (none param_token (omega arith)) (none catch_all_token (omega arith)) ∙ by (x == y) refl
  where
    none : (token : ℕ) → 256 ≤ token → step token (prepend (x ∷ w) t ++ u) ≡ []
    none token wild =
        let n : x ≢ token = λ q. omega arith in
        rw (step-append token (prepend (x ∷ w) t) u, step-miss token x w t n, misses-wild x token u m wild) refl

    here : (token : ℕ) → 256 ≤ token → step token (prepend (x ∷ w) t) ≡ []
    here token wild =
        let n : x ≢ token = λ q. omega arith in
        step-miss token x w t n

    by : (v : Bool) → (x == y) ≡ v → seek 0 (step y (prepend (x ∷ w) t ++ u)) p ≡ first_fit (prepend (x ∷ w) t ++ u) (y ∷ p)
    by true e =
        let xy : x ≡ y = grind (arith, nat_tests) in
        let gone : step y u ≡ [] = rw (← xy) (misses-step x u m) in
        let other : first_fit u (y ∷ p) ≡ None = rw (← xy) (misses-fit x u p m) in
        rw (step-append y (prepend (x ∷ w) t) u, gone, append-nil (step y (prepend (x ∷ w) t)), fit-append (prepend (x ∷ w) t) u (y ∷ p), other, or_else-none (first_fit (prepend (x ∷ w) t) (y ∷ p)))
        (sym (seek-lits (prepend (x ∷ w) t) y p (here param_token (omega arith)) (here catch_all_token (omega arith))) ∙ a (y ∷ p) text)
    by false e =
        let n : x ≢ y = λ q. grind (arith, nat_tests) in
        rw (step-append y (prepend (x ∷ w) t) u, step-miss y x w t n, fit-append (prepend (x ∷ w) t) u (y ∷ p), fit-miss x y w t p h n)
        (sym (seek-lits u y p (misses-wild x param_token u m (omega arith)) (misses-wild x catch_all_token u m (omega arith))) ∙ b (y ∷ p) text)

-- ---- a segment

-- what follows a segment: a slash and these, or nothing
abbrev pub after : Rows → Option ℕ → Rows
after t e = prepend (47 ∷ []) t ++ ends e

fit-segment : (q : Rows) (b : ℕ) (p : List ℕ) → first_fit (prepend (256 ∷ []) q) (b ∷ p) ≡ cond (b == 47) None (first_fit q (past_segment p))
fit-segment [] b p = elim (b == 47) as (λ v. ◌≡◌ {A = Option ℕ} None (cond v None None)) [ true ↦ refl | false ↦ refl ]
fit-segment ((t, k) ∷ q) b p = rw (fit-segment q b p)
    (elim (b == 47) as (λ v. cond (not v && fits t (past_segment p)) (Some k) (cond v None (first_fit q (past_segment p))) ≡ cond v None (cond (fits t (past_segment p)) (Some k) (first_fit q (past_segment p)))) [
      | true ↦ refl
      | false ↦ refl
    ])

seek-segment : (q : Rows) (b : ℕ) (p : List ℕ) → b < 256 → seek 0 (prepend (256 ∷ []) q) (b ∷ p) ≡ seek ((param_step q (b ∷ p)).0 - 1) (param_step q (b ∷ p)).1 p
unfolding seek
seek-segment q b p h =
    let byte : 256 ≢ b = λ e. omega arith in
    let wild : 256 ≢ catch_all_token = λ e. omega arith in
    simp (step-miss b 256 [] q byte, step-hit 256 [] q, prepend-nil q, step-miss catch_all_token 256 [] q wild, seek-empty 0 p, or_else-none)

all-slash : (t : Rows) → AllSegment (47 ∷ []) (prepend (47 ∷ []) t)
all-slash [] = tt
all-slash ((w, k) ∷ t) = (refl, all-slash t)

some-slash : (t : Rows) → 0 < length t → 0 < length (prepend (47 ∷ []) t)
some-slash [] h = h
some-slash ((w, k) ∷ t) h = omega arith

longest-after : (t : Rows) (e : Option ℕ) (seg : List ℕ) → 0 < length t → longest_suffix seg (after t e) ≡ cond (cuts seg (47 ∷ [])) (47 ∷ []) []
longest-after t e seg h =
    longest_from-append seg [] (prepend (47 ∷ []) t) (ends e) ∙ longest-ends seg _ e ∙ longest-kid seg [] (47 ∷ []) (prepend (47 ∷ []) t) (all-slash t) (some-slash t h)

with-after : (t : Rows) (e : Option ℕ) → with_suffix (47 ∷ []) (after t e) ≡ prepend (47 ∷ []) t
with-after t e =
    with_suffix-append (47 ∷ []) (prepend (47 ∷ []) t) (ends e) ∙ rw (with_suffix-all (47 ∷ []) (prepend (47 ∷ []) t) (all-slash t), with_suffix-ends (47 ∷ []) e (omega arith)) (append-nil (prepend (47 ∷ []) t))

param-after : (t : Rows) (e : Option ℕ) (path : List ℕ) (v s : Bool) → 0 < length t → cuts (segment path) (47 ∷ []) ≡ v → has_slash path ≡ s
    → param_step (after t e) path ≡ cond v (length (segment path) - 1, prepend (47 ∷ []) t) (cond s (0, []) (length path, after t e))
unfolding param_step
param-after t e path true s h cut slash = rw (longest-after t e (segment path) h, cut, with-after t e) refl
param-after t e path false s h cut slash = rw (longest-after t e (segment path) h, cut, slash) refl

-- ---- where a segment ends

ends-more : (b x : ℕ) (s : List ℕ) → ends_with nat_eq (b ∷ (x ∷ s)) (47 ∷ []) ≡ ends_with nat_eq (x ∷ s) (47 ∷ [])
ends-more b x s =
    let longer : length (b ∷ (x ∷ s)) - 1 ≡ suc (length s) = omega arith in
    let shorter : length (x ∷ s) - 1 ≡ length s = omega arith in
    rw (longer, shorter) refl

some-segment : (p : List ℕ) → has_slash p ≡ true → 0 < length (segment p)
some-segment [] h = cc
some-segment (x ∷ p) h =
    elim (x == 47) as (λ v. 0 < length (cond v (x ∷ []) (x ∷ segment p))) [
      | true ↦ omega arith
      | false ↦ omega arith
    ]

slash-ends : (b : ℕ) (p : List ℕ) → has_slash p ≡ true → ends_with nat_eq (b ∷ segment p) (47 ∷ []) ≡ true
slash-ends b [] h = cc
slash-ends b (x ∷ p) h = by (x == 47) refl h (slash-ends x p)
  where
    by : (v : Bool) → (x == 47) ≡ v → cond v true (has_slash p) ≡ true → (has_slash p ≡ true → ends_with nat_eq (x ∷ segment p) (47 ∷ []) ≡ true)
        → ends_with nat_eq (b ∷ cond v (x ∷ []) (x ∷ segment p)) (47 ∷ []) ≡ true
    by true e h ih =
        let is : x ≡ 47 = grind (arith, nat_tests) in
        rw is refl
    by false e h ih = ends-more b x (segment p) ∙ ih h

no-slash-ends : (b : ℕ) (p : List ℕ) → (b == 47) ≡ false → has_slash p ≡ false → ends_with nat_eq (b ∷ segment p) (47 ∷ []) ≡ false
no-slash-ends b [] n h =
    let other : nat_eq 47 b ≡ false = grind (arith, nat_tests) in
    rw other refl
no-slash-ends b (x ∷ p) n h = by (x == 47) refl h (no-slash-ends x p)
  where
    by : (v : Bool) → (x == 47) ≡ v → cond v true (has_slash p) ≡ false → ((x == 47) ≡ false → has_slash p ≡ false → ends_with nat_eq (x ∷ segment p) (47 ∷ []) ≡ false)
        → ends_with nat_eq (b ∷ cond v (x ∷ []) (x ∷ segment p)) (47 ∷ []) ≡ false
    by true e h ih = cc
    by false e h ih = ends-more b x (segment p) ∙ ih e h

cut-at-slash : (b : ℕ) (p : List ℕ) → has_slash p ≡ true → cuts (b ∷ segment p) (47 ∷ []) ≡ true
cut-at-slash b p h =
    let some = some-segment p h in
    let long : ltb 1 (length (b ∷ segment p)) ≡ true = grind (arith, nat_tests) in
    rw (long, slash-ends b p h) refl

no-cut : (b : ℕ) (p : List ℕ) → (b == 47) ≡ false → has_slash p ≡ false → cuts (b ∷ segment p) (47 ∷ []) ≡ false
no-cut b p n h = rw (no-slash-ends b p n h)
    (elim (ltb 1 (length (b ∷ segment p))) as (λ v. (v && false) ≡ false) [
      | true ↦ refl
      | false ↦ refl
    ])

slash-cut : (p : List ℕ) → has_slash p ≡ true → drop (length (segment p) - 1) p ≡ past_segment p
slash-cut [] h = refl
slash-cut (x ∷ p) h = by (x == 47) refl h (slash-cut p)
  where
    by : (v : Bool) → (x == 47) ≡ v → cond v true (has_slash p) ≡ true → (has_slash p ≡ true → drop (length (segment p) - 1) p ≡ past_segment p)
        → drop (length (cond v (x ∷ []) (x ∷ segment p)) - 1) (x ∷ p) ≡ cond v (x ∷ p) (past_segment p)
    by true e h ih = refl
    by false e h ih =
        let some = some-segment p h in
        let less : suc (length (segment p)) - 1 ≡ suc (length (segment p) - 1) = omega arith in
        rw less (ih h)

no-slash-cut : (p : List ℕ) → has_slash p ≡ false → past_segment p ≡ []
no-slash-cut [] h = refl
no-slash-cut (x ∷ p) h = by (x == 47) refl h (no-slash-cut p)
  where
    by : (v : Bool) → (x == 47) ≡ v → cond v true (has_slash p) ≡ false → (has_slash p ≡ false → past_segment p ≡ []) → cond v (x ∷ p) (past_segment p) ≡ []
    by true e h ih = cc
    by false e h ih = ih h

ends-past : (e : Option ℕ) (p : List ℕ) → has_slash p ≡ true → first_fit (ends e) (past_segment p) ≡ None
ends-past e [] h = cc
ends-past e (x ∷ p) h = by e (x == 47) refl h (ends-past e p)
  where
    by : (e : Option ℕ) (v : Bool) → (x == 47) ≡ v → cond v true (has_slash p) ≡ true → (has_slash p ≡ true → first_fit (ends e) (past_segment p) ≡ None)
        → first_fit (ends e) (cond v (x ∷ p) (past_segment p)) ≡ None
    by None true q h ih = refl
    by (Some k) true q h ih = refl
    by e false q h ih = ih h

text-past : (p : List ℕ) → IsText p → IsText (past_segment p)
text-past [] h = tt
text-past (x ∷ p) h =
    elim (x == 47) as (λ v. IsText (cond v (x ∷ p) (past_segment p))) [
      | true ↦ h
      | false ↦ text-past p h.1
    ]

pub agrees-segment : (t : Rows) (e : Option ℕ) → 0 < length t → Agrees (prepend (47 ∷ []) t) → Agrees (prepend (256 ∷ []) (after t e))
agrees-segment t e some a [] text = first-nil (prepend (256 ∷ []) (after t e))
agrees-segment t e some a (b ∷ p) text =
    seek-segment (after t e) b p text.0 ∙ by (b == 47) refl (has_slash p) refl ∙ sym (fit-segment (after t e) b p)
  where
    by : (v : Bool) → (b == 47) ≡ v → (s : Bool) → has_slash p ≡ s
        → seek ((param_step (after t e) (b ∷ p)).0 - 1) (param_step (after t e) (b ∷ p)).1 p ≡ cond v None (first_fit (after t e) (past_segment p))
    by true q s r =
        let seg : segment (b ∷ p) ≡ b ∷ [] = rw q refl in
        let cut : cuts (segment (b ∷ p)) (47 ∷ []) ≡ false = rw seg refl in
        let slash : has_slash (b ∷ p) ≡ true = rw q refl in
        rw (param-after t e (b ∷ p) false true some cut slash) (seek-empty 0 p)
    by false q true r =
        let seg : segment (b ∷ p) ≡ b ∷ segment p = rw q refl in
        let cut : cuts (segment (b ∷ p)) (47 ∷ []) ≡ true = rw seg (cut-at-slash b p r) in
        let slash : has_slash (b ∷ p) ≡ true = rw q r in
        let less : (length (b ∷ segment p) - 1) - 1 ≡ length (segment p) - 1 = omega arith in
        rw (
          param-after t e (b ∷ p) true true some cut slash,
          seg,
          less,
          seek-drop (length (segment p) - 1) (prepend (47 ∷ []) t) p,
          slash-cut p r,
          fit-append (prepend (47 ∷ []) t) (ends e) (past_segment p),
          ends-past e p r,
          or_else-none (first_fit (prepend (47 ∷ []) t) (past_segment p)),
        ) (a (past_segment p) (text-past p text.1))
    by false q false r =
        let seg : segment (b ∷ p) ≡ b ∷ segment p = rw q refl in
        let cut : cuts (segment (b ∷ p)) (47 ∷ []) ≡ false = rw seg (no-cut b p q r) in
        let slash : has_slash (b ∷ p) ≡ false = rw q r in
        let less : length (b ∷ p) - 1 ≡ length p = omega arith in
        rw (
          param-after t e (b ∷ p) false false some cut slash,
          less,
          seek-drop (length p) (after t e) p,
          drop-length p,
          no-slash-cut p r,
        ) (first-nil (after t e))
