-- Live targets, and what changes where a source lists others.
use Rattle.std.proofs.Common.{◌≡◌, ℕ, zero, suc, ◌<◌, ◌≤◌, ◌&&◌, List, [], ◌∷◌, ◌++◌, Bool, true, false, Option, Some, None, All, length, get_or, cond, refl, sym, ap, subst, ◌∙◌, inl, inr, arith, length-append}
use Rattle.std.specs.Prelude.{not, nat_lt, Ok}
use Rattle.std.specs.List.{list_any}
use Rattle.std.proofs.Math.ListN.{set, length-set}
use Rattle.std.proofs.lemmas.List.{set-set, set-get_or, get_or-set_same, get_or-set_other}
use Rattle.std.proofs.lemmas.List.Elements.{All-push}
use Rattle.std.proofs.lemmas.Bool.{cases_eq}
use borrow.Author.Tests.{lt-ltb, le-ltb, ltb-false}
use Rattle.label_sets.specs.Target.{FinalTarget}
use Rattle.fleet.specs.Live.{chosen_below, count_below, is_in, is_listed, mark_at, with_list, AreMarks}
use Rattle.fleet.specs.KnownTarget.{known_with, numbers_of, with_known, same_known}
use Rattle.fleet.specs.Orderly.{IsOrderly}
use Rattle.fleet.specs.Jobs.{sources_at}
use Rattle.fleet.specs.Changes.{crowd_in, IsChange, IsChangeFrom}
use Rattle.fleet.specs.Fleet.{FleetState}
use Rattle.fleet.specs.IsFleet.{IsFleet}
use Rattle.fleet.specs.declared.outcome.ListRefusal.{ListRefusal}
use Rattle.fleet.specs.declared.outcome.ListRefusal.TheVariants.{TooManyLive, TooManyKnown}
use Rattle.fleet.specs.declared.known_target.KnownTarget.{KnownTarget}
use Rattle.fleet.proofs.Chosen.{chosen_all}
use Rattle.fleet.proofs.OrderLemmas.{orderly_discovered}
use Rattle.fleet.proofs.Marks.{count_alike}

one_more : (b : Bool) (n : ℕ) → length (cond b (n ∷ []) []) ≡ cond b 1 0
one_more true n = refl
one_more false n = refl

pub length-chosen : (p : ℕ → Bool) (n : ℕ) → length (chosen_below p n) ≡ count_below p n
length-chosen p zero = refl
length-chosen p (suc n) = omega (arith, length-append (chosen_below p n) (cond (p n) (n ∷ []) []), one_more (p n) n, length-chosen p n)

live_is : (listed lists : List (List (List ℕ))) (known n : ℕ) (live seen : List ℕ) → seen ≡ live → live ≡ chosen_below (is_listed lists) n → lists ≡ listed → n ≡ known → seen ≡ chosen_below (is_listed listed) known
live_is listed lists known n live seen s e l k = s ∙ e ∙ ap (λ (ls : List (List (List ℕ))). chosen_below (is_listed ls) n) l ∙ ap (λ (m : ℕ). chosen_below (is_listed listed) m) k

pub live_few :
    (listed lists : List (List (List ℕ))) (known n : ℕ) (live seen : List ℕ) → seen ≡ live → live ≡ chosen_below (is_listed lists) n → lists ≡ listed → n ≡ known → count_below (is_listed listed) known ≤ 16384 → length seen ≤ 16384
live_few listed lists known n live seen s e l k few =
    omega (arith, ap (λ (xs : List ℕ). length xs) (live_is listed lists known n live seen s e l k), length-chosen (is_listed listed) known, few)

pub live_below :
    (listed lists : List (List (List ℕ))) (known n bound : ℕ) (live seen : List ℕ) → seen ≡ live → live ≡ chosen_below (is_listed lists) n → lists ≡ listed → n ≡ known → known ≤ bound → All (λ t. t < bound) seen
live_below listed lists known n bound live seen s e l k b =
    subst (λ (xs : List ℕ). All (λ t. t < bound) xs) (sym (live_is listed lists known n live seen s e l k)) (λ i d less. omega (arith, chosen_all (is_listed listed) known i d less))

-- where a target is live there is a job
pub some_job :
    (listed lists : List (List (List ℕ))) (known : List KnownTarget) (n jobs : ℕ) (live seen : List ℕ) → seen ≡ live → live ≡ chosen_below (is_listed lists) n → lists ≡ listed → n ≡ length known → All (λ (k : KnownTarget). k.job < jobs) known
    → 0 < length seen → 0 < jobs
some_job listed lists [] n jobs live seen s e l k homes some =
    absurd (omega (arith, ap (λ (xs : List ℕ). length xs) (live_is listed lists 0 n live seen s e l k)))
some_job listed lists (x ∷ known) n jobs live seen s e l k homes some = omega (arith, homes 0 x (omega arith))

-- a list that is put back
pub restored :
    (lists changed back : List (List (List ℕ))) (job source : ℕ) (numbers old : List ℕ) → job < length lists → changed ≡ with_list lists job source numbers → old ≡ get_or (get_or lists job []) source [] → back ≡ with_list changed job source old → back ≡ lists
restored lists changed back job source numbers old l e o b =
    let sources : List (List ℕ) = get_or lists job [] in
    let inner : get_or changed job [] ≡ set sources source numbers = ap (λ (xs : List (List (List ℕ))). get_or xs job []) e ∙ get_or-set_same lists job (set sources source numbers) [] l in
    let same : set (get_or changed job []) source old ≡ sources =
    (λ i. set (inner i) source (o i)) ∙ set-set sources source numbers (get_or sources source []) ∙ set-get_or sources source [] in
    b ∙ (λ i. set (e i) job (same i)) ∙ set-set lists job (set sources source numbers) sources ∙ set-get_or lists job []

pub crowd_many : (listed : List (List (List ℕ))) (known n : ℕ) → n ≡ count_below (is_listed listed) known → 16384 < n → crowd_in listed known ≡ Some TooManyLive
crowd_many listed known n e l =
    ap (λ (b : Bool). cond b (Some TooManyLive) (cond (nat_lt 65535 known) (Some TooManyKnown) None)) (lt-ltb 16384 (count_below (is_listed listed) known) (omega arith))

crowd_by : (listed : List (List (List ℕ))) (known n : ℕ) (c : Bool) → n ≡ count_below (is_listed listed) known → n ≤ 16384 → nat_lt 65535 known ≡ c → crowd_in listed known ≡ cond c (Some TooManyKnown) None
crowd_by listed known n c e l k =
    ap (λ (b : Bool). cond b (Some TooManyLive) (cond (nat_lt 65535 known) (Some TooManyKnown) None)) (le-ltb 16384 (count_below (is_listed listed) known) (omega arith)) ∙ ap (λ (b : Bool). cond b (Some TooManyKnown) None) k

pub crowd_known : (listed : List (List (List ℕ))) (known n : ℕ) → n ≡ count_below (is_listed listed) known → n ≤ 16384 → 65535 < known → crowd_in listed known ≡ Some TooManyKnown
crowd_known listed known n e l k = crowd_by listed known n true e l (lt-ltb 65535 known k)

pub crowd_none : (listed : List (List (List ℕ))) (known n : ℕ) → n ≡ count_below (is_listed listed) known → n ≤ 16384 → known ≤ 65535 → crowd_in listed known ≡ None
crowd_none listed known n e l k = crowd_by listed known n false e l (le-ltb 65535 known k)

none_by : (a b : Bool) → ◌≡◌ {A = Option ListRefusal} (cond a (Some TooManyLive) (cond b (Some TooManyKnown) None)) None → (a ≡ false) × (b ≡ false)
none_by true b e = cc
none_by false true e = cc
none_by false false e = (refl, refl)

-- what the marks count
pub counted : (p : ℕ → Bool) (seen marks : List Bool) (known n : ℕ) → seen ≡ marks → length marks ≡ known → AreMarks p marks → n ≡ count_below (mark_at seen) (length seen) → n ≡ count_below p known
counted p seen marks known n s size are e =
    e ∙ ap (λ (ms : List Bool). count_below (mark_at ms) (length ms)) s ∙ count_alike (mark_at marks) p (length marks) are.at ∙ ap (λ (m : ℕ). count_below p m) size

pub added_is :
    (p : ℕ → Bool) (before seen marks : List Bool) (known n : ℕ) → seen ≡ marks → length marks ≡ known → AreMarks p marks → n ≡ count_below (λ (k : ℕ). mark_at seen k && not (mark_at before k)) (length seen) → n ≡ count_below (λ (k : ℕ). p k && not (mark_at before k)) known
added_is p before seen marks known n s size are e =
    e
    ∙ ap (λ (ms : List Bool). count_below (λ (k : ℕ). mark_at ms k && not (mark_at before k)) (length ms)) s
    ∙ count_alike (λ (k : ℕ). mark_at marks k && not (mark_at before k)) (λ (k : ℕ). p k && not (mark_at before k)) (length marks) (λ k l. ap (λ (b : Bool). b && not (mark_at before k)) (are.at k l))
    ∙ ap (λ (m : ℕ). count_below (λ (k : ℕ). p k && not (mark_at before k)) m) size

pub removed_is :
    (p : ℕ → Bool) (before seen marks : List Bool) (known n : ℕ) → seen ≡ marks → length marks ≡ known → length before ≡ known → AreMarks p marks → n ≡ count_below (λ (k : ℕ). mark_at before k && not (mark_at seen k)) (length before)
    → n ≡ count_below (λ (k : ℕ). mark_at before k && not (p k)) known
removed_is p before seen marks known n s size b_size are e =
    e
    ∙ ap (λ (ms : List Bool). count_below (λ (k : ℕ). mark_at before k && not (mark_at ms k)) (length before)) s
    ∙ count_alike (λ (k : ℕ). mark_at before k && not (mark_at marks k)) (λ (k : ℕ). mark_at before k && not (p k)) (length before) (λ k l. ap (λ (b : Bool). mark_at before k && not b) (are.at k (omega arith)))
    ∙ ap (λ (m : ℕ). count_below (λ (k : ℕ). mark_at before k && not (p k)) m) b_size

-- the same change, from the lists before
pub change_is :
    (old lists new seen_lists : List (List (List ℕ))) (seen marks : List Bool) (known : ℕ) (d : ℕ × ℕ) → seen ≡ marks → length marks ≡ known → AreMarks (is_listed lists) marks → lists ≡ old → seen_lists ≡ new
    → IsChangeFrom (mark_at seen) seen_lists known (Ok d) → IsChange old new known (Ok d)
change_is old lists new seen_lists seen marks known d s size are l n h =
    let same : (k : ℕ) → k < known → mark_at seen k ≡ is_listed old k =
    λ k less. ap (λ (ms : List Bool). mark_at ms k) s ∙ are.at k (omega arith) ∙ ap (λ (ls : List (List (List ℕ))). is_listed ls k) l in (
      ap (λ (ls : List (List (List ℕ))). crowd_in ls known) (sym n) ∙ h.0,
      h.1 ∙ ap (λ (ls : List (List (List ℕ))). count_below (λ (k : ℕ). is_listed ls k && not (mark_at seen k)) known) n
          ∙ count_alike (λ (k : ℕ). is_listed new k && not (mark_at seen k)) (λ (k : ℕ). is_listed new k && not (is_listed old k)) known (λ k less. ap (λ (b : Bool). is_listed new k && not b) (same k less)),
      h.2 ∙ ap (λ (ls : List (List (List ℕ))). count_below (λ (k : ℕ). mark_at seen k && not (is_listed ls k)) known) n
          ∙ count_alike (λ (k : ℕ). mark_at seen k && not (is_listed new k)) (λ (k : ℕ). is_listed old k && not (is_listed new k)) known (λ k less. ap (λ (b : Bool). b && not (is_listed new k)) (same k less)),
    )

home_by : (b : Bool) (jobs : ℕ) (known : List KnownTarget) (k : KnownTarget) → k.job < jobs → All (λ (x : KnownTarget). x.job < jobs) known → All (λ (x : KnownTarget). x.job < jobs) (cond b known (known ++ k ∷ []))
home_by true jobs known k home all = all
home_by false jobs known k home all = All-push (λ (x : KnownTarget). x.job < jobs) known k all home

known_homes : (jobs job : ℕ) (known : List KnownTarget) (targets : List FinalTarget) → job < jobs → All (λ (x : KnownTarget). x.job < jobs) known → All (λ (x : KnownTarget). x.job < jobs) (known_with known job targets)
known_homes jobs job known [] home all = all
known_homes jobs job known (t ∷ targets) home all =
    let k : KnownTarget = record { job = job; target = t } in
    known_homes jobs job (with_known known k) targets home (home_by (list_any (same_known k) known) jobs known k home all)

-- the numbers of a job's list, once its targets are known
abbrev pub entered_numbers : FleetState → ℕ → List FinalTarget → List ℕ
entered_numbers m job targets = chosen_below (is_in (numbers_of m.known job targets)) (length (known_with m.known job targets))

pub discover_kept :
    (m : FleetState) (job source : ℕ) (targets : List FinalTarget) (listed : List (List (List ℕ))) (known : List KnownTarget) → IsFleet m → job < length m.jobs → listed ≡ with_list m.listed job source (entered_numbers m job targets) → known ≡ known_with m.known job targets
    → crowd_in listed (length known) ≡ None → IsFleet (record m { listed = listed; known = known })
discover_kept m job source targets listed known kept home is_listed_now is_known crowd =
    let numbers : List ℕ = entered_numbers m job targets in
    let sources : List (List ℕ) = get_or m.listed job [] in
    let tests = none_by (nat_lt 16384 (count_below (is_listed listed) (length known))) (nat_lt 65535 (length known)) crowd in
    record {
      each_job = ap (λ (ls : List (List (List ℕ))). length ls) is_listed_now ∙ length-set m.listed job (set sources source numbers) ∙ kept.each_job;
      each_source = λ j. ap (λ (ls : List (List (List ℕ))). length (get_or ls j [])) is_listed_now
          ∙ elim (cases_eq j job) [
            | inl e ↦ subst (λ (i : ℕ). length (get_or (set m.listed job (set sources source numbers)) i []) ≡ sources_at m.jobs i) (sym e)
                (ap (λ (xs : List (List ℕ)). length xs) (get_or-set_same m.listed job (set sources source numbers) [] (omega (arith, kept.each_job))) ∙ length-set sources source numbers ∙ kept.each_source job)
            | inr d ↦ ap (λ (xs : List (List ℕ)). length xs) (get_or-set_other m.listed job j (set sources source numbers) [] d) ∙ kept.each_source j
          ];
      few_known = ltb-false 65535 (length known) tests.1;
      homes = subst (λ (ks : List KnownTarget). All (λ (k : KnownTarget). k.job < length m.jobs) ks) (sym is_known) (known_homes (length m.jobs) job m.known targets home kept.homes);
      few_live = ltb-false 16384 (count_below (is_listed listed) (length known)) tests.0;
      few_collectors = kept.few_collectors;
      few_bins = kept.few_bins;
      orderly = subst (λ (ks : List KnownTarget). IsOrderly listed ks m.collectors) (sym is_known)
          (subst (λ (ls : List (List (List ℕ))). IsOrderly ls (known_with m.known job targets) m.collectors) (sym is_listed_now) (orderly_discovered m.listed m.known m.collectors job source targets (omega (arith, kept.each_job)) kept.orderly));
      ascending = kept.ascending;
      were_given = kept.were_given;
      numbered = kept.numbered;
    }

-- the same, where no limit is passed by what is to be known and listed
pub relisted_kept :
    (m : FleetState) (job source : ℕ) (targets : List FinalTarget) (listed : List (List (List ℕ))) (known : List KnownTarget) → IsFleet m → job < length m.jobs → listed ≡ with_list m.listed job source (entered_numbers m job targets) → known ≡ known_with m.known job targets
    → crowd_in (with_list m.listed job source (entered_numbers m job targets)) (length (known_with m.known job targets)) ≡ None → IsFleet (record m { listed = listed; known = known })
relisted_kept m job source targets listed known kept home l k crowd =
    discover_kept m job source targets listed known kept home l k ((λ i. crowd_in (l i) (length (k i))) ∙ crowd)
