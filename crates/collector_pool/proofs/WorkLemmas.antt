-- How far a turn has come.
use Rattle.std.proofs.Common.{◌≡◌, ◌≢◌, ℕ, ◌+◌, ◌-◌, ◌≤◌, ◌<◌, List, [], ◌∷◌, ◌++◌, refl, sym, subst, ap, ◌∙◌, arith, length, get_or}
use Rattle.std.specs.Prelude.{Option, Result, sum_by, count_by, take, slice_get}
use Rattle.std.proofs.lemmas.List.{length-map, length-take-le, take_more}
use Rattle.std.proofs.lemmas.List.Sums.{sum_by-append}
use Rattle.sd_documents.specs.declared.config.Job.{Job}
use Rattle.http_get.specs.declared.get.Get.{Get}
use Rattle.http_get.specs.declared.reply.Reply.{Reply}
use Rattle.http_get.specs.declared.reply.FetchFault.{FetchFault}
use Rattle.allocation_core.specs.State.{State}
use Rattle.alloc_desk.specs.Counts.{Counts}
use Rattle.alloc_desk.specs.Gains.{is_booked}
use Rattle.collector_pool.specs.Fetches.{Fetch, IsStep}
use Rattle.collector_pool.specs.Visits.{AreVisits, IsUnreported, Visit, Visited, booked_by}
use Rattle.collector_pool.specs.Turns.{Worked}
use Rattle.collector_pool.specs.declared.tally.Tally.{Tally}
use Rattle.collector_pool.specs.declared.turn.Turn.{Turn}
use Rattle.collector_pool.specs.declared.turn.TurnEnd.TheVariants.{Complete, NotJoined}
use Rattle.collector_pool.proofs.VisitLemmas.{are_found, booked_one, visit_earlier, visits_none, visits_then}

-- the first n targets are visited, and so many of them booked
pub record Progress {S : Type 0} (may : S → Get → Result Reply FetchFault → S → Type 0) (opening : State) (counts now : Counts) (jobs : List Job) (collector allocation round : ℕ) (held : List ℕ) (old new : S) (n count : ℕ) : Type 0 where
  pub visits : List Visit
  pub visited : AreVisits opening counts jobs collector allocation round may (take n held) visits old new
  pub booked : count ≡ count_by (λ (v : Visit). is_booked v.answer) visits
  pub samples : now.booked ≡ counts.booked + sum_by booked_by visits

module _ {S : Type 0} (may : S → Get → Result Reply FetchFault → S → Type 0) (opening : State) (counts : Counts) (jobs : List Job) (collector allocation round : ℕ) (held : List ℕ) (old : S) where
  pub progress_none : Progress may opening counts counts jobs collector allocation round held old old 0 0
  progress_none = record { visits = []; visited = visits_none may opening counts jobs collector allocation round old; booked = refl; samples = omega arith }

  pub progress_then :
      (now after : Counts) (new later : S) (n booked target d : ℕ) (tally : Tally) → Progress may opening counts now jobs collector allocation round held old new n booked
      → Visited may opening now after jobs collector allocation round target new later tally → n < length held → target ≡ get_or held n d → counts.calls ≤ now.calls
      → Progress may opening counts after jobs collector allocation round held old later (n + 1) (booked + tally.booked)
  progress_then now after new later n booked target d tally h v below at calls =
      let is = visit_earlier opening counts now jobs collector allocation round v.visit calls (omega (arith, h.samples)) v.is in
      let one = visits_then may opening counts jobs collector allocation round (take n held) h.visits v.visit old new later h.visited is v.step in
      let targets : take n held ++ v.visit.target ∷ [] ≡ take (n + 1) held =
      ap (λ x. take n held ++ x ∷ []) (v.of ∙ at) ∙ sym (take_more held n d below)
      in
      let P : List ℕ → Type 0 = λ ts. AreVisits opening counts jobs collector allocation round may ts (h.visits ++ v.visit ∷ []) old later in
      record {
        visits = h.visits ++ v.visit ∷ [];
        visited = subst P targets one;
        booked = omega (arith, h.booked, v.tallied.0, sum_by-append booked_one h.visits (v.visit ∷ []));
        samples = omega (arith, h.samples, v.booked, sum_by-append booked_by h.visits (v.visit ∷ []));
      }

  -- a turn that ends there, perhaps with one more fetch
  pub worked :
      (now : Counts) (then new : S) (n : ℕ) (last : Option Fetch) (turn : Turn) → Progress may opening counts now jobs collector turn.number round held old then n turn.booked
      → turn.booked + turn.refused ≡ n → n ≤ length held → turn.samples ≡ now.booked - counts.booked
      → IsUnreported opening counts jobs (slice_get held n) last → IsStep may then last new
      → (turn.end ≡ Complete → n ≡ length held) → turn.end ≢ NotJoined
      → Worked may opening counts jobs collector round held old new turn
  worked now then new n last turn h count within samples unreported step complete end =
      let found = are_found h.visits in
      let target_of : Visit → ℕ = λ x. x.target in
      let many : length h.visits ≡ n =
      sym (length-map h.visits target_of) ∙ ap length h.visited.targets ∙ length-take-le n held within
      in
      let V : ℕ → Type 0 = λ k. AreVisits opening counts jobs collector turn.number round may (take k held) h.visits old then in
      let U : ℕ → Type 0 = λ k. IsUnreported opening counts jobs (slice_get held k) last in
      record {
        visits = h.visits;
        then = then;
        visited = subst V (sym count) h.visited;
        last = last;
        unreported = subst U (sym count) unreported;
        step = step;
        booked = h.booked;
        samples = omega (arith, samples, h.samples);
        found = omega (arith, samples, h.samples, found.most);
        all_found = λ e. omega (arith, samples, h.samples, found.all (omega (arith, e, count, many, h.booked)));
        most = omega (arith, count, within);
        complete = λ e. omega (arith, count, complete e);
        end = end;
      }
