-- States that events and renewals of the machine lead to.
use Rattle.std.proofs.Common.{◌≡◌, List, [], ◌∷◌, ◌++◌, refl, sym, ap, subst, ◌∙◌}
use Rattle.allocation_core.specs.State.{State}
use Rattle.allocation_core.specs.Steps.{state_after}
use Rattle.allocation_core.specs.Runs.{state_of}
use Rattle.allocation_core.specs.Renewed.{renewed}
use Rattle.journal_entries.specs.Legal.{IsLegal, events_in}
use Rattle.journal_entries.specs.declared.entry.Entry.{Entry}
use Rattle.fleet_events.specs.declared.event.Event.{Event}
use Rattle.renewal.specs.Histories.{Stretch, AreGranted, stretch_end}
use Rattle.service_tasks.specs.Later.{IsLater, end_of}

run-append : (m : State) (es fs : List Event) → state_of m (es ++ fs) ≡ state_of (state_of m es) fs
run-append m [] fs = refl
run-append m (e ∷ es) fs = run-append (state_after m e) es fs

extended : Stretch → List Event → Stretch
extended s fs = record { jobs = s.jobs; report_rounds = s.report_rounds; events = s.events ++ fs }

-- a stretch and those behind it, the last of them with more events, and then others
followed : Stretch → List Stretch → List Event → List Stretch → List Stretch
followed s [] fs ts = extended s fs ∷ ts
followed s (r ∷ rs) fs ts = s ∷ followed r rs fs ts

followed-end : (m : State) (s : Stretch) (rs : List Stretch) (fs : List Event) (ts : List Stretch)
    → end_of m (followed s rs fs ts) ≡ end_of (state_of (end_of m (s ∷ rs)) fs) ts
unfolding followed extended
followed-end m s [] fs ts = ap (λ n. end_of n ts) (run-append (renewed m s.jobs s.report_rounds) s.events fs)
followed-end m s (r ∷ rs) fs ts = followed-end (stretch_end m s) r rs fs ts

followed-granted : (m : State) (s : Stretch) (rs : List Stretch) (fs : List Event) (ts : List Stretch)
    → AreGranted m (s ∷ rs) → AreGranted (state_of (end_of m (s ∷ rs)) fs) ts → AreGranted m (followed s rs fs ts)
unfolding followed extended
followed-granted m s [] fs ts g h = (g.0, subst (λ (n : State). AreGranted n ts) (sym (run-append (renewed m s.jobs s.report_rounds) s.events fs)) h)
followed-granted m s (r ∷ rs) fs ts g h = (g.0, followed-granted (stretch_end m s) r rs fs ts g.1 h)

later-by : (a c : State) (es : List Event) (ss : List Stretch) (fs : List Event) (ts : List Stretch)
    → AreGranted (state_of a es) ss → AreGranted (state_of (end_of (state_of a es) ss) fs) ts
    → c ≡ end_of (state_of (end_of (state_of a es) ss) fs) ts → IsLater a c
later-by a c es [] fs ts g h q =
    record { events = es ++ fs; stretches = ts; granted = subst (λ (n : State). AreGranted n ts) (sym (run-append a es fs)) h; state = q ∙ ap (λ n. end_of n ts) (sym (run-append a es fs)) }
later-by a c es (s ∷ ss) fs ts g h q =
    record { events = es; stretches = followed s ss fs ts; granted = followed-granted (state_of a es) s ss fs ts g h; state = q ∙ sym (followed-end (state_of a es) s ss fs ts) }

pub later_refl : (a : State) → IsLater a a
later_refl a = record { events = []; stretches = []; granted = tt; state = refl }

pub later_trans : (a b c : State) → IsLater a b → IsLater b c → IsLater a c
later_trans a b c x y =
    later-by a c x.events x.stretches y.events y.stretches x.granted (subst (λ (n : State). AreGranted (state_of n y.events) y.stretches) x.state y.granted)
    (y.state ∙ ap (λ n. end_of (state_of n y.events) y.stretches) x.state)

pub legal_is_later : (a b : State) (journal : List Entry) → IsLegal a journal b → IsLater a b
legal_is_later a b journal legal = record { events = events_in journal; stretches = []; granted = tt; state = legal.state }
