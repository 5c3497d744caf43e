-- Visits, one after another.
use Rattle.std.proofs.Common.{◌≡◌, ◌≢◌, ℕ, ◌+◌, ◌≤◌, List, [], ◌∷◌, ◌++◌, refl, sym, subst, ap, ◌∙◌, arith, length}
use Rattle.std.specs.Prelude.{Option, Some, None, Result, Ok, Err, IfOk, map, Bool, true, false, cond, sum_by, count_by}
use Rattle.std.proofs.lemmas.List.{map-append}
use Rattle.std.proofs.lemmas.List.Sums.{sum_by-append}
use Rattle.std.proofs.lemmas.List.Elements.{All-append, All-cons, All-nil}
use Rattle.sd_documents.specs.declared.config.Job.{Job}
use Rattle.http_get.specs.declared.get.Get.{Get}
use Rattle.http_get.specs.declared.reply.Reply.{Reply}
use Rattle.http_get.specs.declared.reply.FetchFault.{FetchFault}
use Rattle.http_get.specs.declared.reply.FetchFault.TheVariants.{Memory}
use Rattle.scrape_books.specs.declared.report.Outcome.{Outcome}
use Rattle.std.specs.declared.alloc.AllocError.{AllocError}
use Rattle.allocation_core.specs.State.{State}
use Rattle.alloc_desk.specs.Counts.{Counts}
use Rattle.alloc_desk.specs.Gains.{is_booked}
use Rattle.alloc_desk.specs.History.{History}
use Rattle.alloc_desk.specs.Reached.{Reached}
use Rattle.collector_pool.specs.Fetches.{Fetch, IsRun, IsStep, result_outcome}
use Rattle.collector_pool.specs.Visits.{AreVisits, CameTo, IsAsked, IsUnreported, IsVisit, Visit, booked_by, found_by}

-- what is told of a history may be told in other words
pub told_so : (m : State) (counts : Counts) (P Q : History → Type 0) → ((h : History) → P h → Q h) → Reached m counts P → Reached m counts Q
told_so m counts P Q so r = record { history = r.history; legal = r.legal; calls = r.calls; booked = r.booked; holds = so r.history r.holds }

-- what is told a pass is told one that did less
pub told_earlier : (m : State) (before counts : Counts) (P : History → Type 0) → before.calls ≤ counts.calls → before.booked ≤ counts.booked → Reached m counts P → Reached m before P
told_earlier m before counts P calls booked r =
    record { history = r.history; legal = r.legal; calls = omega (arith, r.calls); booked = omega (arith, r.booked); holds = r.holds }

pub came_to :
    (m : State) (counts : Counts) (jobs : List Job) (target : ℕ) (fetch : Fetch) (result : Result Outcome AllocError) → IsAsked m counts jobs target (Some fetch)
    → IfOk result (λ outcome. (outcome ≡ result_outcome fetch.result) × (fetch.result ≢ Err Memory)) → CameTo m counts jobs target (Some fetch) result
came_to m counts jobs target fetch (Ok outcome) asked h = (asked, λ e. h.1 (cc), h.0)
came_to m counts jobs target fetch (Err e) asked h = asked

pub unreported : (m : State) (counts : Counts) (jobs : List Job) (target : ℕ) (fetched : Option Fetch) → IsAsked m counts jobs target fetched → IsUnreported m counts jobs (Some target) fetched
unreported m counts jobs target None asked = tt
unreported m counts jobs target (Some fetch) asked = asked

pub unreported_earlier :
    (m : State) (before counts : Counts) (jobs : List Job) (next : Option ℕ) (fetched : Option Fetch) → before.calls ≤ counts.calls → before.booked ≤ counts.booked
    → IsUnreported m counts jobs next fetched → IsUnreported m before jobs next fetched
unreported_earlier m before counts jobs next None calls booked h = tt
unreported_earlier m before counts jobs (Some target) (Some fetch) calls booked h = told_earlier m before counts _ calls booked h
unreported_earlier m before counts jobs None (Some fetch) calls booked h = h

module _ {S : Type 0} (may : S → Get → Result Reply FetchFault → S → Type 0) where
  run_then : (a b c : S) (fs : List (Option Fetch)) (f : Option Fetch) → IsRun may a fs b → IsStep may b f c → IsRun may a (fs ++ f ∷ []) c
  run_then a b c [] f r s = (c, subst (λ (x : S). IsStep may x f c) r s, refl)
  run_then a b c (g ∷ fs) f r s = (r.0, r.1, run_then r.0 b c fs f r.2 s)

  module _ (opening : State) (counts : Counts) (jobs : List Job) (collector allocation round : ℕ) where
    pub visits_none : (a : S) → AreVisits opening counts jobs collector allocation round may [] [] a a
    visits_none a = record { each = All-nil (IsVisit opening counts jobs collector allocation round); targets = refl; run = refl }

    pub visits_then :
        (targets : List ℕ) (visits : List Visit) (v : Visit) (a b c : S) → AreVisits opening counts jobs collector allocation round may targets visits a b
        → IsVisit opening counts jobs collector allocation round v → IsStep may b v.fetched c
        → AreVisits opening counts jobs collector allocation round may (targets ++ v.target ∷ []) (visits ++ v ∷ []) a c
    visits_then targets visits v a b c h is step =
        let P : Visit → Type 0 = IsVisit opening counts jobs collector allocation round in
        let target_of : Visit → ℕ = λ x. x.target in
        let fetched_of : Visit → Option Fetch = λ x. x.fetched in
        let R : List (Option Fetch) → Type 0 = λ fs. IsRun may a fs c in
        record {
          each = All-append P visits (v ∷ []) h.each (All-cons P v [] is (All-nil P));
          targets = map-append target_of visits (v ∷ []) ∙ ap (λ ts. ts ++ v.target ∷ []) h.targets;
          run = subst R (sym (map-append fetched_of visits (v ∷ []))) (run_then a b c (map fetched_of visits) v.fetched h.run step);
        }

pub visit_earlier :
    (m : State) (before counts : Counts) (jobs : List Job) (collector allocation round : ℕ) (v : Visit) → before.calls ≤ counts.calls → before.booked ≤ counts.booked
    → IsVisit m counts jobs collector allocation round v → IsVisit m before jobs collector allocation round v
visit_earlier m before counts jobs collector allocation round v calls booked h =
    record {
      asked = told_earlier m before counts _ calls booked h.asked;
      answered = h.answered;
      reported = told_earlier m before counts _ calls booked h.reported;
    }

-- ---- samples

record AllOrNone (b : Bool) (n : ℕ) : Type 0 where
  pub few : cond b 1 0 ≤ 1
  pub most : cond b n 0 ≤ n
  pub all : 1 ≤ cond b 1 0 → cond b n 0 ≡ n

all_or_none : (b : Bool) (n : ℕ) → AllOrNone b n
all_or_none true n = record { few = omega arith; most = omega arith; all = λ e. refl }
all_or_none false n = record { few = omega arith; most = omega arith; all = λ e. absurd (omega (arith, e)) }

abbrev pub booked_one : Visit → ℕ
booked_one v = cond (is_booked v.answer) 1 0

abbrev booked_count : List Visit → ℕ
booked_count visits = count_by (λ (v : Visit). is_booked v.answer) visits

pub record AreFound (visits : List Visit) : Type 0 where
  pub few : booked_count visits ≤ length visits
  pub most : sum_by booked_by visits ≤ sum_by found_by visits
  pub all : booked_count visits ≡ length visits → sum_by booked_by visits ≡ sum_by found_by visits

pub are_found : (visits : List Visit) → AreFound visits
are_found [] = record { few = omega arith; most = omega arith; all = λ e. refl }
are_found (v ∷ visits) =
    let rest = are_found visits in
    let one = all_or_none (is_booked v.answer) (found_by v) in
    let many : length (v ∷ visits) ≡ 1 + length visits = omega arith in
    let count = sum_by-append booked_one (v ∷ []) visits in
    let booked = sum_by-append booked_by (v ∷ []) visits in
    let found = sum_by-append found_by (v ∷ []) visits in
    record {
      few = omega (arith, count, rest.few, one.few);
      most = omega (arith, booked, found, rest.most, one.most);
      all = λ e.
          let first : 1 ≤ cond (is_booked v.answer) 1 0 = omega (arith, e, count, rest.few, one.few) in
          let others : booked_count visits ≡ length visits = omega (arith, e, count, rest.few, one.few) in
          omega (arith, booked, found, one.all first, rest.all others);
    }
