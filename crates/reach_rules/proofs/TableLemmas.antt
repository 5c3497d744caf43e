-- Tables of rows: their spare room, and what is shown of them after a change.
use Rattle.std.proofs.Common.{◌≡◌, ◌≢◌, ℕ, zero, suc, ◌+◌, ◌^◌, ◌<◌, ◌≤◌, Bool, true, false, List, [], ◌∷◌, length, get_or, set, cond, refl, sym, ap, ◌∙◌, arith, inl, inr, ◌⊎◌, subst}
use Rattle.std.specs.Prelude.{◌==◌, filter, map, not, replicate}
use Rattle.std.proofs.lemmas.Bool.{cases_eq}
use Rattle.std.proofs.lemmas.List.{get_or-set_other, get_or-set_same, map-set, set-get_or}
use Rattle.label_sets.specs.Target.{FinalTarget}
use Rattle.reach_rules.specs.declared.row.Row.{Row}
use Rattle.reach_rules.specs.declared.rule.ReachRule.{ReachRule}
use Rattle.reach_rules.specs.Rules.{reaches}
use Rattle.reach_rules.specs.Table.{ReachRow, answers, rows_without, shown, spare_in}

pub spare_at : (rows : List Row) (k : ℕ) (d : Row) → k < length rows → spare_in rows ≤ (get_or rows k d).reached.spare
spare_at [] k d less = absurd (omega arith)
spare_at (row ∷ rows) zero d less = omega arith
spare_at (row ∷ rows) (suc k) d less = omega (arith, spare_at rows k d (omega arith))

pub spare_all : (rows : List Row) (more : ℕ) → more < 2 ^ 64 → ((k : ℕ) (d : Row) → k < length rows → more ≤ (get_or rows k d).reached.spare) → more ≤ spare_in rows
spare_all [] more fits room = omega arith
spare_all (row ∷ rows) more fits room = omega (arith, room 0 row (omega arith), spare_all rows more fits (λ k d less. room (suc k) d (omega arith)))

-- a row was exchanged for one of which the same is shown
pub shown_set : (rows : List Row) (k : ℕ) (row d : Row) → shown row ≡ shown (get_or rows k d) → map shown (set rows k row) ≡ map shown rows
shown_set rows k row d same =
    map-set shown rows k row ∙ ap (λ (r : ReachRow). set (map shown rows) k r) same ∙ sym (map-set shown rows k (get_or rows k d)) ∙ ap (λ (rs : List Row). map shown rs) (set-get_or rows k d)

pub room_more :
    (rows : List Row) (place more : ℕ) (row : Row) → place < length rows → more ≤ row.reached.spare → ((k : ℕ) (d : Row) → k < place → more ≤ (get_or rows k d).reached.spare) → (k : ℕ) (d : Row) → k < place + 1
    → more ≤ (get_or (set rows place row) k d).reached.spare
room_more rows place more row within enough room k d less = go (cases_eq k place)
  where
    Has : Row → Type 0
    Has r = more ≤ r.reached.spare

    go : (k ≡ place) ⊎ (k ≢ place) → more ≤ (get_or (set rows place row) k d).reached.spare
    go (inl e) = rw e (subst Has (sym (get_or-set_same rows place row d within)) enough)
    go (inr other) = subst Has (sym (get_or-set_other rows place k row d other)) (room k d (omega arith))

not_by : (other : Bool) (row : Row) (rows : List Row) (rest : List ReachRow) → map shown rows ≡ rest → map shown (cond other (row ∷ rows) rows) ≡ cond other (shown row ∷ rest) rest
not_by true row rows rest e = ap (λ (rs : List ReachRow). shown row ∷ rs) e
not_by false row rows rest e = e

-- the rows of a collector were taken out
pub shown_without : (rows : List Row) (id : ℕ) → map shown (filter (λ (row : Row). not (row.id == id)) rows) ≡ rows_without (map shown rows) id
shown_without [] id = refl
shown_without (row ∷ rows) id = not_by (not (row.id == id)) row (filter (λ (row : Row). not (row.id == id)) rows) (rows_without (map shown rows) id) (shown_without rows id)

-- rules that say the same of every target
pub answers_alike : (rules : List ReachRule) (targets : List FinalTarget) (count : ℕ) (answer : Bool) → ((target : FinalTarget) → reaches rules target ≡ answer) → count ≡ length targets → answers rules targets ≡ replicate count answer
answers_alike rules [] count answer same e = ap (λ (n : ℕ). replicate n answer) (sym e)
answers_alike rules (target ∷ targets) count answer same e =
    ap (λ (b : Bool). b ∷ answers rules targets) (same target) ∙ ap (λ (bits : List Bool). answer ∷ bits) (answers_alike rules targets (length targets) answer same refl) ∙ ap (λ (n : ℕ). replicate n answer) (sym e)
