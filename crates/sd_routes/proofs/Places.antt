-- The router of all routes finds the place that the table of paths names.
use Rattle.std.proofs.Common.{◌≡◌, ℕ, suc, ◌<◌, List, [], ◌∷◌, ◌++◌, codes, get_or, Option, Some, None, Bool, true, false, cond, refl, sym, ap, ◌∙◌, arith, ltb, ◌&&◌}
use Rattle.std.proofs.lemmas.Bool.Decides.{nat_tests}
use Rattle.std.specs.Option.{option_map}
use Rattle.matchit.specs.Rows.{Rows, RowsOf, prepend, ends}
use Rattle.matchit.specs.Level.{IsText}
use Rattle.matchit.specs.Router.{RouteOf, rename, map_key}
use Rattle.matchit.specs.Seek.{first}
use Rattle.matchit.proofs.OnLiterals.{matchit_on_literals}
use Rattle.matchit.proofs.RenameLemmas.{first-rename}
use Rattle.sd_routes.proofs.Lookup.{Agrees, agrees-prefix, agrees-end, agrees-or, agrees-segment, after}
use Rattle.sd_routes.specs.Places.{desk_rows, first_fit, fits, job_rows, place_of, route_rows, table}
use Rattle.sd_routes.specs.declared.place.Place.{Place}
use Rattle.sd_routes.specs.declared.place.Place.TheVariants.{Jobs}

abbrev all_bytes : List ℕ → Bool
all_bytes [] = true
all_bytes (b ∷ w) = ltb b 256 && all_bytes w

text-from : (w : List ℕ) → all_bytes w ≡ true → IsText w
text-from [] h = tt
text-from (b ∷ w) h =
    let byte : b < 256 = grind (arith, nat_tests) in
    let rest : all_bytes w ≡ true = grind (arith, nat_tests) in
    (byte, text-from w rest)

agrees-text : (w : List ℕ) (t : Rows) → all_bytes w ≡ true → Agrees t → Agrees (prepend w t)
agrees-text w t h a = agrees-prefix w t (text-from w h) a

-- ---- the routes by number, as a tree

abbrev with_lr : Rows
with_lr = prepend (codes "limits") (ends (Some 10)) ++ prepend (codes "release") (ends (Some 11))

abbrev orders : Rows
orders = prepend (codes "drain") (ends (Some 9)) ++ with_lr

abbrev of_collector : Rows
of_collector = prepend (256 ∷ []) (after orders (Some 12))

abbrev collectors : Rows
collectors = prepend (codes "/") of_collector ++ ends (Some 13)

abbrev lists : Rows
lists = prepend (codes "targets") (ends (Some 14)) ++ prepend (codes "uncovered") (ends (Some 15))

abbrev of_job : Rows
of_job = prepend (256 ∷ []) (after lists (Some 16))

abbrev jobs : Rows
jobs = prepend (codes "/") of_job ++ ends (Some 17)

abbrev with_c : Rows
with_c = prepend (codes "ertificate") (ends (Some 8)) ++ prepend (codes "ollectors") collectors

abbrev with_al : Rows
with_al = prepend (codes "ady") (ends (Some 3)) ++ prepend (codes "load") (ends (Some 4))

abbrev with_qr : Rows
with_qr = prepend (codes "quit") (ends (Some 2)) ++ prepend (codes "re") with_al

abbrev with_lqr : Rows
with_lqr = prepend (codes "leading") (ends (Some 1)) ++ with_qr

abbrev with_hlqr : Rows
with_hlqr = prepend (codes "healthy") (ends (Some 0)) ++ with_lqr

abbrev with_re : Rows
with_re = prepend (codes "adyz") (ends (Some 20)) ++ prepend (codes "ports") (ends (Some 21))

abbrev with_t : Rows
with_t = prepend (codes "targets") (ends (Some 23)) ++ ends (Some 24)

abbrev with_st : Rows
with_st = prepend (codes "scrape_configs") (ends (Some 22)) ++ with_t

abbrev with_rst : Rows
with_rst = prepend (codes "re") with_re ++ with_st

abbrev with_mrst : Rows
with_mrst = prepend (codes "metrics") (ends (Some 19)) ++ with_rst

abbrev with_lmrst : Rows
with_lmrst = prepend (codes "livez") (ends (Some 18)) ++ with_mrst

abbrev with_jlmrst : Rows
with_jlmrst = prepend (codes "jobs") jobs ++ with_lmrst

abbrev with_cjlmrst : Rows
with_cjlmrst = prepend (codes "c") with_c ++ with_jlmrst

abbrev with_bcjlmrst : Rows
with_bcjlmrst = prepend (codes "books") (ends (Some 7)) ++ with_cjlmrst

abbrev with_a : Rows
with_a = prepend (codes "cknowledged") (ends (Some 5)) ++ prepend (codes "llocations") (ends (Some 6))

abbrev with_abcjlmrst : Rows
with_abcjlmrst = prepend (codes "a") with_a ++ with_bcjlmrst

abbrev tree : Rows
tree = prepend (codes "/") (prepend (codes "-/") with_hlqr ++ with_abcjlmrst)

agrees-word : (w : List ℕ) (k : ℕ) → all_bytes w ≡ true → Agrees (prepend w (ends (Some k)))
agrees-word w k h = agrees-text w (ends (Some k)) h (agrees-end k)

agrees-with_lr : Agrees with_lr
agrees-with_lr =
    agrees-or 108 (codes "imits") (ends (Some 10)) (prepend (codes "release") (ends (Some 11))) (omega arith) refl
    (agrees-word (codes "limits") 10 refl) (agrees-word (codes "release") 11 refl)

agrees-orders : Agrees orders
agrees-orders = agrees-or 100 (codes "rain") (ends (Some 9)) with_lr (omega arith) refl (agrees-word (codes "drain") 9 refl) agrees-with_lr

agrees-collectors : Agrees collectors
agrees-collectors =
    agrees-or 47 [] of_collector (ends (Some 13)) (omega arith) refl
    (agrees-text (codes "/") of_collector refl (agrees-segment orders (Some 12) (omega arith) (agrees-text (codes "/") orders refl agrees-orders)))
    (agrees-end 13)

agrees-lists : Agrees lists
agrees-lists =
    agrees-or 116 (codes "argets") (ends (Some 14)) (prepend (codes "uncovered") (ends (Some 15))) (omega arith) refl
    (agrees-word (codes "targets") 14 refl) (agrees-word (codes "uncovered") 15 refl)

agrees-jobs : Agrees jobs
agrees-jobs =
    agrees-or 47 [] of_job (ends (Some 17)) (omega arith) refl
    (agrees-text (codes "/") of_job refl (agrees-segment lists (Some 16) (omega arith) (agrees-text (codes "/") lists refl agrees-lists)))
    (agrees-end 17)

agrees-with_c : Agrees with_c
agrees-with_c =
    agrees-or 101 (codes "rtificate") (ends (Some 8)) (prepend (codes "ollectors") collectors) (omega arith) refl
    (agrees-word (codes "ertificate") 8 refl) (agrees-text (codes "ollectors") collectors refl agrees-collectors)

agrees-with_al : Agrees with_al
agrees-with_al =
    agrees-or 97 (codes "dy") (ends (Some 3)) (prepend (codes "load") (ends (Some 4))) (omega arith) refl
    (agrees-word (codes "ady") 3 refl) (agrees-word (codes "load") 4 refl)

agrees-with_qr : Agrees with_qr
agrees-with_qr =
    agrees-or 113 (codes "uit") (ends (Some 2)) (prepend (codes "re") with_al) (omega arith) refl
    (agrees-word (codes "quit") 2 refl) (agrees-text (codes "re") with_al refl agrees-with_al)

agrees-with_lqr : Agrees with_lqr
agrees-with_lqr = agrees-or 108 (codes "eading") (ends (Some 1)) with_qr (omega arith) refl (agrees-word (codes "leading") 1 refl) agrees-with_qr

agrees-with_hlqr : Agrees with_hlqr
agrees-with_hlqr = agrees-or 104 (codes "ealthy") (ends (Some 0)) with_lqr (omega arith) refl (agrees-word (codes "healthy") 0 refl) agrees-with_lqr

agrees-with_re : Agrees with_re
agrees-with_re =
    agrees-or 97 (codes "dyz") (ends (Some 20)) (prepend (codes "ports") (ends (Some 21))) (omega arith) refl
    (agrees-word (codes "adyz") 20 refl) (agrees-word (codes "ports") 21 refl)

agrees-with_t : Agrees with_t
agrees-with_t =
    agrees-or 116 (codes "argets") (ends (Some 23)) (ends (Some 24)) (omega arith) refl
    (agrees-word (codes "targets") 23 refl) (agrees-end 24)

agrees-with_st : Agrees with_st
agrees-with_st = agrees-or 115 (codes "crape_configs") (ends (Some 22)) with_t (omega arith) refl (agrees-word (codes "scrape_configs") 22 refl) agrees-with_t

agrees-with_rst : Agrees with_rst
agrees-with_rst =
    agrees-or 114 (codes "e") with_re with_st (omega arith) refl
    (agrees-text (codes "re") with_re refl agrees-with_re) agrees-with_st

agrees-with_mrst : Agrees with_mrst
agrees-with_mrst = agrees-or 109 (codes "etrics") (ends (Some 19)) with_rst (omega arith) refl (agrees-word (codes "metrics") 19 refl) agrees-with_rst

agrees-with_lmrst : Agrees with_lmrst
agrees-with_lmrst = agrees-or 108 (codes "ivez") (ends (Some 18)) with_mrst (omega arith) refl (agrees-word (codes "livez") 18 refl) agrees-with_mrst

agrees-with_jlmrst : Agrees with_jlmrst
agrees-with_jlmrst = agrees-or 106 (codes "obs") jobs with_lmrst (omega arith) refl (agrees-text (codes "jobs") jobs refl agrees-jobs) agrees-with_lmrst

agrees-with_cjlmrst : Agrees with_cjlmrst
agrees-with_cjlmrst = agrees-or 99 [] with_c with_jlmrst (omega arith) refl (agrees-text (codes "c") with_c refl agrees-with_c) agrees-with_jlmrst

agrees-with_bcjlmrst : Agrees with_bcjlmrst
agrees-with_bcjlmrst =
    agrees-or 98 (codes "ooks") (ends (Some 7)) with_cjlmrst (omega arith) refl (agrees-word (codes "books") 7 refl) agrees-with_cjlmrst

agrees-with_a : Agrees with_a
agrees-with_a =
    agrees-or 99 (codes "knowledged") (ends (Some 5)) (prepend (codes "llocations") (ends (Some 6))) (omega arith) refl
    (agrees-word (codes "cknowledged") 5 refl) (agrees-word (codes "llocations") 6 refl)

agrees-with_abcjlmrst : Agrees with_abcjlmrst
agrees-with_abcjlmrst = agrees-or 97 [] with_a with_bcjlmrst (omega arith) refl (agrees-text (codes "a") with_a refl agrees-with_a) agrees-with_bcjlmrst

agrees-tree : Agrees tree
agrees-tree =
    agrees-text (codes "/") (prepend (codes "-/") with_hlqr ++ with_abcjlmrst) refl
    (agrees-or 45 (codes "/") with_hlqr with_abcjlmrst (omega arith) refl (agrees-text (codes "-/") with_hlqr refl agrees-with_hlqr) agrees-with_abcjlmrst)

-- ---- the routes themselves

abbrev routes_of : RowsOf (RouteOf Place) → List (RouteOf Place)
routes_of [] = []
routes_of ((t, r) ∷ rows) = r ∷ routes_of rows

abbrev no_route : RouteOf Place
no_route = record { pattern = []; text = []; names = []; value = Jobs }

unfoldable route_at : ℕ → RouteOf Place
route_at n = get_or (routes_of route_rows) n no_route

rows-tree : route_rows ≡ rename route_at tree
unfolding matchit_on_literals route_rows desk_rows job_rows route_at
rows-tree = refl

table-tree : table ≡ rename (λ n. (route_at n).value) tree
unfolding matchit_on_literals route_rows desk_rows job_rows route_at
table-tree = refl

fit-rename : (f : ℕ → Place) (r : Rows) (p : List ℕ) → first_fit (rename f r) p ≡ map_key f (first_fit r p)
fit-rename f [] p = refl
fit-rename f ((t, k) ∷ r) p =
    elim (fits t p) as (λ v. cond v (Some (f k)) (first_fit (rename f r) p) ≡ map_key f (cond v (Some k) (first_fit r p))) [
      | true ↦ refl
      | false ↦ fit-rename f r p
    ]

value-of : (o : Option ℕ) → option_map (λ (r : RouteOf Place). r.value) (map_key route_at o) ≡ map_key (λ n. (route_at n).value) o
value-of None = refl
value-of (Some n) = refl

text-of-bytes : (p : List ℕ) → ((i : ℕ) → get_or p i 0 < 256) → IsText p
text-of-bytes [] h = tt
text-of-bytes (b ∷ p) h = (h 0, text-of-bytes p (λ i. h (suc i)))

-- the place of the route that is found, or none
place-found : (path : List ℕ) → IsText path → option_map (λ (r : RouteOf Place). r.value) (first route_rows path) ≡ place_of path
unfolding place_of
place-found path text =
    ap (λ rows. option_map (λ (r : RouteOf Place). r.value) (first rows path)) rows-tree
    ∙ ap (option_map (λ (r : RouteOf Place). r.value)) (first-rename route_at tree path ∙ ap (map_key route_at) (agrees-tree path text))
    ∙ value-of (first_fit tree path)
    ∙ sym (ap (λ rows. first_fit rows path) table-tree ∙ fit-rename (λ n. (route_at n).value) tree path)

pub place-of-route : (rows : RowsOf (RouteOf Place)) (path : List ℕ) (route : RouteOf Place) → rows ≡ route_rows → ((i : ℕ) → get_or path i 0 < 256)
    → first rows path ≡ Some route → Some route.value ≡ place_of path
place-of-route rows path route is bytes found =
    ap (option_map (λ (r : RouteOf Place). r.value)) (sym found ∙ ap (λ r. first r path) is) ∙ place-found path (text-of-bytes path bytes)

pub place-of-none : (rows : RowsOf (RouteOf Place)) (path : List ℕ) → rows ≡ route_rows → ((i : ℕ) → get_or path i 0 < 256)
    → first rows path ≡ None → None ≡ place_of path
place-of-none rows path is bytes missing =
    ap (option_map (λ (r : RouteOf Place). r.value)) (sym missing ∙ ap (λ r. first r path) is) ∙ place-found path (text-of-bytes path bytes)
