-- Lists that are told are of one moment.
use Rattle.std.proofs.Common.{◌≡◌, ℕ, zero, suc, ◌<◌, List, [], ◌∷◌, ◌++◌, true, length, refl, subst, ◌∙◌, arith, inl, inr}
use Rattle.std.specs.Prelude.{All, Option, Some, None, filter}
use Rattle.std.proofs.lemmas.List.Elements.{All-filter, All-nil, filter_passes}
use mathlib.Core.List.{IsPrefix}
use Rattle.fleet.specs.Orderly.{is_of}
use Rattle.fleet.specs.declared.known_target.KnownTarget.{KnownTarget}
use Rattle.fleet_events.specs.declared.answer.Answer.{Answer}
use Rattle.fleet_events.specs.declared.event.Event.{Event}
use Rattle.fleet_events.specs.declared.event.Event.TheVariants.{Take, Serve}
use Rattle.fleet_events.specs.declared.refusal.Refusal.{Refusal}
use Rattle.served_lists.specs.Served.{is_free}
use Rattle.journal_entries.specs.declared.entry.Entry.{Entry as Line}
use Rattle.allocation_core.specs.State.{State, held_by, held_live, list_at}
use Rattle.allocation_core.specs.Steps.{answer_of, place_of, refusal_of}
use Rattle.alloc_desk.specs.History.{History, history_of}
use Rattle.alloc_desk.specs.Seen.{entry_of}
use Rattle.sd_routes.specs.declared.list_head.ListHead.{ListHead}
use Rattle.sd_server.specs.Keeping.{is_had, kept_of}
use Rattle.sd_server.specs.Listing.{AreKnown, IsListText}
use Rattle.sd_server.specs.Moments.{IsListOf, KeptAreOfOneMoment, ServedAreOfOneMoment, TakenAreOfOneMoment}
use Rattle.sd_server.specs.Says.{IsAnswered, IsTold, at_of}
use Rattle.sd_server.specs.Spans.{OfSome, Span}
use Rattle.sd_server.proofs.KnownLemmas.{text_at}
use Rattle.sd_server.proofs.SpanLemmas.{prefix_trans}

is_of_known : (known : List KnownTarget) (job target : ℕ) → is_of known job target ≡ true → target < length known
is_of_known [] job target is = absurd cc
is_of_known (k ∷ known) job zero is = omega arith
is_of_known (k ∷ known) job (suc target) is = let below = is_of_known known job target is in omega (arith, below)

-- those of a job are known
of_job_known : (m : State) (job : ℕ) (targets : List ℕ) → All (λ (target : ℕ). target < length m.fleet.known) (filter (is_of m.fleet.known job) targets)
of_job_known m job targets = λ k d lt. is_of_known m.fleet.known job _ (filter_passes (is_of m.fleet.known job) targets k d lt)

list_known : (m : State) (id : ℕ) (o : Option ℕ) → All (λ (target : ℕ). target < length m.fleet.known) (list_at m id o)
list_known m id None = All-nil (λ (target : ℕ). target < length m.fleet.known)
list_known m id (Some job) =
    All-filter (is_free m.served.slots id) (λ (target : ℕ). target < length m.fleet.known) (filter (is_of m.fleet.known job) (held_live m id)) (of_job_known m job (held_live m id))

kept_known : (m : State) (place id : ℕ) → All (λ (target : ℕ). target < length m.fleet.known) (kept_of m place id)
kept_known m place id =
    All-filter (is_had m.served.slots id) (λ (target : ℕ). target < length m.fleet.known) (filter (is_of m.fleet.known place) (held_by m id)) (of_job_known m place (held_by m id))

module _ (span : Span) (at : Option (List ℕ)) (job : List ℕ) (place id : ℕ) (head : ListHead) (groups targets : List ℕ) (moment : List Line) where
  served_by :
      (o : Option Refusal) → refusal_of (history_of span.opening moment).state (Serve id job) ≡ o → IsPrefix moment span.after
      → IsTold id (answer_of (history_of span.opening moment).state (Serve id job)) head targets
      → IsListText span (at_of at (answer_of (history_of span.opening moment).state (Serve id job))) job head place targets groups
      → IsListOf at job place id head groups (list_at (history_of span.opening moment).state id (place_of (history_of span.opening moment).state job)) (history_of span.opening moment)
  unfolding answer_of
  served_by (Some refusal) is p told text = absurd (rw is at told)
  served_by None is p told text =
      let m = (history_of span.opening moment).state in
      let head_is = rw is at told in
      let text_is = rw is at text in
      record {
        collector = head_is.0.collector;
        allocation = head_is.0.allocation;
        round = head_is.0.round;
        text =
            text_at span at job head place (list_at m id (place_of m job)) groups moment (subst (λ (xs : List ℕ). IsListText span at job head place xs groups) head_is.1 text_is) p
            (list_known m id (place_of m job));
      }

-- a moment at which an event was answered so
module _ (span : Span) (event : Event) (answer : Answer) (P : History → Type 0) where
  answered_at :
      IsAnswered span event answer
      → ((moment : List Line) → IsPrefix moment span.after → answer ≡ answer_of (history_of span.opening moment).state event → P (history_of span.opening moment))
      → OfSome span P
  answered_at (inl x) holds =
      let entered = x.1 in
      let seen : IsPrefix entered.earlier span.after =
      prefix_trans entered.earlier (entered.earlier ++ entry_of event x.0 ∷ []) span.after (entry_of event x.0 ∷ [], refl) entered.stands in
      record { moment = entered.earlier; begun = entered.begun; seen = seen; holds = holds entered.earlier seen (x.2 ∙ entered.told.1.answer) }
  answered_at (inr s) holds = record { moment = s.moment; begun = s.begun; seen = s.seen; holds = holds s.moment s.seen s.holds.0 }

pub served_are_of_one_moment : ServedAreOfOneMoment
served_are_of_one_moment span at job place id head groups (inl x) =
    let answer = x.0 in
    let told = x.2 in
    answered_at span (Serve id job) answer (λ (h : History). IsListOf at job place id head groups (list_at h.state id (place_of h.state job)) h) x.1
    (λ moment p is. served_by span at job place id head groups told.0 moment (refusal_of (history_of span.opening moment).state (Serve id job)) refl p
    (subst (λ (a : Answer). IsTold id a head told.0) is told.1) (subst (λ (a : Answer). IsListText span (at_of at a) job head place told.0 groups) is told.2))
served_are_of_one_moment span at job place id head groups (inr x) = absurd (cc (x.2))

pub kept_are_of_one_moment : KeptAreOfOneMoment
kept_are_of_one_moment span at job place id head groups says =
    let look = says.1 in
    let s = says.1.1 in
    let tells = says.1.2 in
    let h = history_of span.opening s.moment in
    let finds = s.holds.1 in
    record {
      moment = s.moment;
      begun = s.begun;
      seen = s.seen;
      holds =
          record {
            collector = tells.0.collector;
            allocation = tells.0.allocation ∙ finds.allocation;
            round = tells.0.round ∙ finds.round;
            text =
                text_at span at job head place (kept_of h.state place id) groups s.moment (subst (λ (xs : List ℕ). IsListText span at job head place xs groups) finds.targets tells.1) s.seen
                (kept_known h.state place id);
          };
    }

module _ (span : Span) (at : Option (List ℕ)) (job : List ℕ) (place id : ℕ) (head : ListHead) (groups targets : List ℕ) (moment : List Line) where
  taken_by :
      (o : Option Refusal) → refusal_of (history_of span.opening moment).state (Take id) ≡ o → IsPrefix moment span.after
      → AreKnown (history_of span.opening moment) (held_by (history_of span.opening moment).state id)
      → IsTold id (answer_of (history_of span.opening moment).state (Take id)) head targets
      → IsListText span (at_of at (answer_of (history_of span.opening moment).state (Take id))) job head place targets groups
      → IsListOf None job place id head groups (held_by (history_of span.opening moment).state id) (history_of span.opening moment)
  unfolding answer_of
  taken_by (Some refusal) is p known told text = absurd (rw is at told)
  taken_by None is p known told text =
      let m = (history_of span.opening moment).state in
      let head_is = rw is at told in
      let text_is = rw is at text in
      record {
        collector = head_is.0.collector;
        allocation = head_is.0.allocation;
        round = head_is.0.round;
        text = text_at span None job head place (held_by m id) groups moment (subst (λ (xs : List ℕ). IsListText span None job head place xs groups) head_is.1 text_is) p known;
      }

pub taken_are_of_one_moment : TakenAreOfOneMoment
taken_are_of_one_moment span at job place id head groups known (inl x) =
    let answer = x.0 in
    let told = x.2 in
    answered_at span (Take id) answer (λ (h : History). IsListOf None job place id head groups (held_by h.state id) h) x.1
    (λ moment p is. taken_by span at job place id head groups told.0 moment (refusal_of (history_of span.opening moment).state (Take id)) refl p (known moment p id)
    (subst (λ (a : Answer). IsTold id a head told.0) is told.1) (subst (λ (a : Answer). IsListText span (at_of at a) job head place told.0 groups) is told.2))
taken_are_of_one_moment span at job place id head groups known (inr x) = absurd (cc (x.2))
