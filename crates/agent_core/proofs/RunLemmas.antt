-- No scrape twice, and nothing older than what was told before, over whole runs.
use Rattle.std.proofs.Common.{◌≡◌, ℕ, ◌≤◌, ◌++◌, List, [], ◌∷◌, Bool, true, false, Option, None, Some, All, get_or, take, cond, refl, sym, ap, subst, append_assoc, append-nil, arith}
use Rattle.std.specs.Prelude.{AllPairs, ◌&&◌, ◌==◌, nat_lt, option_and_then, option_map, slice_get}
use Rattle.std.proofs.lemmas.Bool.Decides.{nat_tests}
use Rattle.std.specs.List.{cons_option}
use Rattle.std.proofs.lemmas.List.Quantifiers.{all_pairs_push}
use Rattle.std.proofs.lemmas.List.Elements.{All-push}
use Rattle.agent_core.specs.Told.{Told, carried, is_open, mark_of, report_of, slot, with_report}
use Rattle.agent_core.specs.Choices.{after, chosen, chosen_of, points_of, with_chosen}
use Rattle.agent_core.specs.Offered.{after_offers, all_after, all_chosen, chosen_offer, chosen_offers, given_to, part_after}
use Rattle.agent_core.specs.Sharing.{offers}
use Rattle.agent_core.specs.declared.sharing.LastScrape.{LastScrape}
use Rattle.agent_core.specs.declared.sharing.Offer.{Offer}
use Rattle.agent_core.specs.Agents.{Input, Asked, Cut, Gone, Over, Shown, Taken, Unknown, State, may_report, next, reported, reports_of}
use Rattle.agent_core.specs.Laws.{GivenToOne, IsApart, IsNews}
use Rattle.agent_core.specs.declared.target.Series.{Series}
use Rattle.agent_core.specs.declared.target.Listed.{Listed}
use Rattle.agent_core.specs.declared.slot.Point.{Point}
use Rattle.agent_core.specs.declared.report.Head.{Head}
use Rattle.agent_core.specs.declared.report.Report.{Report}
use Rattle.agent_core.proofs.ToldLemmas.{closed_told, mark_told, rises_carried, rises_told, slot_behind, stays_closed}

-- a report is told of: its scrape is not reported again, nor its target in its round
pub record IsSaid (told : Told) (report : Report) : Type 0 where
  pub time : report.time ≤ mark_of told report.series
  pub closed : is_open told report.head.epoch report.head.round report.target ≡ false

-- what was told grows
pub record Grows (old new : Told) : Type 0 where
  pub marks : (q : Series) → mark_of old q ≤ mark_of new q
  pub rounds : (epoch round target : ℕ) → is_open old epoch round target ≡ false → is_open new epoch round target ≡ false

-- reports of a run that began with what was told at its start
pub record IsRun (start told : Told) (reports : List Report) : Type 0 where
  pub apart : AllPairs IsApart reports
  pub said : All (IsSaid told) reports
  pub news : All (IsNews start) reports
  pub grown : Grows start told

said_on : (old new : Told) (report : Report) → Grows old new → IsSaid old report → IsSaid new report
said_on old new report grows said =
    let up = grows.marks report.series in
    record { time = omega (arith, up, said.time); closed = grows.rounds report.head.epoch report.head.round report.target said.closed }

grown_on : (start old new : Told) → Grows start old → Grows old new → Grows start new
grown_on start old new first then_ = record {
  marks = λ q. omega (arith, first.marks q, then_.marks q);
  rounds = λ e r t closed. then_.rounds e r t (first.rounds e r t closed);
}

grows_told : (told : Told) (report : Report) → IsNews told report → Grows told (with_report told report)
grows_told told report news = record { marks = rises_told told report news.later; rounds = λ e r t closed. stays_closed told report e r t news.unsaid closed }

grows_carried : (told : Told) (at : ℕ) (targets : List Listed) → Grows told (carried told at targets)
grows_carried told at targets = record { marks = rises_carried told at targets; rounds = λ e r t closed. closed }

opens_before : (old new : Told) (e r t : ℕ) → Grows old new → is_open new e r t ≡ true → is_open old e r t ≡ true
opens_before old new e r t grows opens = by (is_open old e r t) refl
  where
    by : (b : Bool) → is_open old e r t ≡ b → is_open old e r t ≡ true
    by true is = is
    by false is = absurd (cc (grows.rounds e r t is, opens))

news_before : (start told : Told) (report : Report) → Grows start told → IsNews told report → IsNews start report
news_before start told report grows news =
    let up = grows.marks report.series in
    record { later = omega (arith, up, news.later); unsaid = opens_before start told report.head.epoch report.head.round report.target grows news.unsaid }

apart_from : (told : Told) (before report : Report) → IsSaid told before → IsNews told report → IsApart before report
apart_from told before report said news = record {
  later = λ same. let mark = ap (mark_of told) same in omega (arith, said.time, news.later, mark);
  another = λ e r t.
      let moved : is_open told before.head.epoch before.head.round before.target ≡ is_open told report.head.epoch report.head.round report.target = (λ i. is_open told (e i) (r i) (t i)) in
      absurd (cc (said.closed, news.unsaid, moved));
}

-- a report more
tells : (start told : Told) (done : List Report) (report : Report) → IsRun start told done → IsNews told report → IsRun start (with_report told report) (done ++ report ∷ [])
tells start told done report run news =
    let grows = grows_told told report news in
    let said : IsSaid (with_report told report) report = record { time = omega (arith, mark_told told report); closed = closed_told told report } in
    record {
      apart = all_pairs_push IsApart done report run.apart (λ k d l. apart_from told (get_or done k d) report (run.said k d l) news);
      said = All-push (IsSaid (with_report told report)) done report (λ k d l. said_on told (with_report told report) (get_or done k d) grows (run.said k d l)) said;
      news = All-push (IsNews start) done report run.news (news_before start told report run.grown news);
      grown = grown_on start told (with_report told report) run.grown grows;
    }

-- what is chosen is news
chosen_news : (told : Told) (head : Head) (points : List Point) (listed : Listed) (report : Report) → chosen_of told head points listed ≡ Some report → IsNews told report
chosen_news told head points listed report e = by listed.alone (is_open told head.epoch head.round listed.target) refl (slot (mark_of told listed.series) points) refl e
  where
    by : (alone opens : Bool) → is_open told head.epoch head.round listed.target ≡ opens → (o : Option Point) → slot (mark_of told listed.series) points ≡ o
        → cond (alone && opens) (option_map (report_of head listed) o) None ≡ Some report → IsNews told report
    by false opens is o s e = absurd (cc e)
    by true false is o s e = absurd (cc e)
    by true true is None s e = absurd (cc e)
    by true true is (Some point) s e =
        let same : report_of head listed point ≡ report = cc e in
        subst (IsNews told) same (record { later = slot_behind (mark_of told listed.series) points point s; unsaid = is })

chooses_by : (start told : Told) (done : List Report) (head : Head) (said : List (Series × List Point)) (listed : Listed) (targets : List Listed) (o : Option Report) → chosen_of told head (points_of said listed.series) listed ≡ o
    → IsRun start told done → ((t : Told) (d : List Report) → IsRun start t d → IsRun start (after t head said targets) (d ++ chosen t head said targets))
    → IsRun start (after (with_chosen told o) head said targets) (done ++ cons_option o (chosen (with_chosen told o) head said targets))
chooses_by start told done head said listed targets None is run rest = rest told done run
chooses_by start told done head said listed targets (Some report) is run rest =
    let more = tells start told done report run (chosen_news told head (points_of said listed.series) listed report is) in
    subst (IsRun start (after (with_report told report) head said targets)) (append_assoc done (report ∷ []) (chosen (with_report told report) head said targets))
    (rest (with_report told report) (done ++ report ∷ []) more)

chooses : (start told : Told) (done : List Report) (head : Head) (said : List (Series × List Point)) (targets : List Listed) → IsRun start told done → IsRun start (after told head said targets) (done ++ chosen told head said targets)
chooses start told done head said [] run = subst (IsRun start told) (sym (append-nil done)) run
chooses start told done head said (listed ∷ targets) run =
    chooses_by start told done head said listed targets (chosen_of told head (points_of said listed.series) listed) refl run (λ t d r. chooses start t d head said targets r)

-- what is given of a shared series is news
given_news : (told : Told) (head : Head) (point : Point) (listed : Listed) (report : Report) → given_to told head point listed ≡ Some report → IsNews told report
given_news told head point listed report e = by (is_open told head.epoch head.round listed.target) refl (nat_lt (mark_of told listed.series) point.time) refl e
  where
    by : (opens : Bool) → is_open told head.epoch head.round listed.target ≡ opens → (behind : Bool) → nat_lt (mark_of told listed.series) point.time ≡ behind
        → cond (opens && behind) (Some (report_of head listed point)) None ≡ Some report → IsNews told report
    by false is behind b e = absurd (cc e)
    by true is false b e = absurd (cc e)
    by true is true b e =
        let same : report_of head listed point ≡ report = cc e in
        subst (IsNews told) same (record { later = grind (arith, nat_tests, b); unsaid = is })

offer_news : (told : Told) (head : Head) (targets : List Listed) (offer : Offer) (report : Report) → chosen_offer told head targets offer ≡ Some report → IsNews told report
offer_news told head targets offer report e = by (slice_get targets offer.place) e
  where
    by : (found : Option Listed) → option_and_then (given_to told head offer.point) found ≡ Some report → IsNews told report
    by None e = absurd (cc e)
    by (Some listed) e = given_news told head offer.point listed report e

gives_by : (start told : Told) (done : List Report) (head : Head) (targets : List Listed) (offer : Offer) (offers : List Offer) (o : Option Report) → chosen_offer told head targets offer ≡ o
    → IsRun start told done → ((t : Told) (d : List Report) → IsRun start t d → IsRun start (after_offers t head targets offers) (d ++ chosen_offers t head targets offers))
    → IsRun start (after_offers (with_chosen told o) head targets offers) (done ++ cons_option o (chosen_offers (with_chosen told o) head targets offers))
gives_by start told done head targets offer offers None is run rest = rest told done run
gives_by start told done head targets offer offers (Some report) is run rest =
    let more = tells start told done report run (offer_news told head targets offer report is) in
    subst (IsRun start (after_offers (with_report told report) head targets offers)) (append_assoc done (report ∷ []) (chosen_offers (with_report told report) head targets offers))
    (rest (with_report told report) (done ++ report ∷ []) more)

gives : (start told : Told) (done : List Report) (head : Head) (targets : List Listed) (offers : List Offer) → IsRun start told done → IsRun start (after_offers told head targets offers) (done ++ chosen_offers told head targets offers)
gives start told done head targets [] run = subst (IsRun start told) (sym (append-nil done)) run
gives start told done head targets (offer ∷ offers) run =
    gives_by start told done head targets offer offers (chosen_offer told head targets offer) refl run (λ t d r. gives start t d head targets offers r)

-- all reports of what Prometheus said
chooses_all : (start told : Told) (done : List Report) (head : Head) (said : List (Series × List Point)) (lasts : List (Series × List LastScrape)) (targets : List Listed) → IsRun start told done
    → IsRun start (all_after told head said lasts targets) (done ++ all_chosen told head said lasts targets)
chooses_all start told done head said lasts targets run =
    let first = chosen told head said targets in
    let then_ = chosen_offers (after told head said targets) head targets (offers said targets lasts) in
    subst (IsRun start (all_after told head said lasts targets)) (append_assoc done first then_)
    (gives start (after told head said targets) (done ++ first) head targets (offers said targets lasts) (chooses start told done head said targets run))

nothing_more : (start told : Told) (done : List Report) → IsRun start told done → IsRun start told (done ++ [])
nothing_more start told done run = subst (IsRun start told) (sym (append-nil done)) run

grows_by : (told : Told) (head : Head) (said : List (Series × List Point)) (listed : Listed) (o : Option Report) → chosen_of told head (points_of said listed.series) listed ≡ o → Grows told (with_chosen told o)
grows_by told head said listed None is = record { marks = λ q. omega arith; rounds = λ e r t closed. closed }
grows_by told head said listed (Some report) is = grows_told told report (chosen_news told head (points_of said listed.series) listed report is)

grows_after : (told : Told) (head : Head) (said : List (Series × List Point)) (targets : List Listed) → Grows told (after told head said targets)
grows_after told head said [] = record { marks = λ q. omega arith; rounds = λ e r t closed. closed }
grows_after told head said (listed ∷ targets) =
    let o = chosen_of told head (points_of said listed.series) listed in
    grown_on told (with_chosen told o) (after (with_chosen told o) head said targets) (grows_by told head said listed o refl) (grows_after (with_chosen told o) head said targets)

grows_offer : (told : Told) (head : Head) (targets : List Listed) (offer : Offer) (o : Option Report) → chosen_offer told head targets offer ≡ o → Grows told (with_chosen told o)
grows_offer told head targets offer None is = record { marks = λ q. omega arith; rounds = λ e r t closed. closed }
grows_offer told head targets offer (Some report) is = grows_told told report (offer_news told head targets offer report is)

grows_offers : (told : Told) (head : Head) (targets : List Listed) (offers : List Offer) → Grows told (after_offers told head targets offers)
grows_offers told head targets [] = record { marks = λ q. omega arith; rounds = λ e r t closed. closed }
grows_offers told head targets (offer ∷ offers) =
    let o = chosen_offer told head targets offer in
    grown_on told (with_chosen told o) (after_offers (with_chosen told o) head targets offers) (grows_offer told head targets offer o refl) (grows_offers (with_chosen told o) head targets offers)

grows_part : (told : Told) (head : Head) (said : List (Series × List Point)) (lasts : List (Series × List LastScrape)) (targets : List Listed) (count more : ℕ) → Grows told (part_after told head said lasts targets count more)
grows_part told head said lasts targets count more =
    let first = after told head said (take count targets) in
    grown_on told first (part_after told head said lasts targets count more) (grows_after told head said (take count targets)) (grows_offers first head targets (take more (offers said targets lasts)))

-- no report more, where what was told grows
keeps : (start old new : Told) (done : List Report) → Grows old new → IsRun start old done → IsRun start new done
keeps start old new done grows run = record {
  apart = run.apart;
  said = λ k d l. said_on old new (get_or done k d) grows (run.said k d l);
  news = run.news;
  grown = grown_on start old new run.grown grows;
}

steps : (start : Told) (s : State) (done : List Report) (input : Input) → IsRun start s.told done → IsRun start (next s input).told (done ++ reported s input)
steps start s done (Taken at head until targets) run = nothing_more start (carried s.told at targets) done (keeps start s.told (carried s.told at targets) done (grows_carried s.told at targets) run)
steps start s done (Shown at head until targets) run = by (s.head.epoch == head.epoch)
  where
    by : (b : Bool) → IsRun start (cond b (record s { head = record s.head { round = head.round }; until = until }) (record s { until = 0 })).told (done ++ [])
    by true = nothing_more start s.told done run
    by false = nothing_more start s.told done run
steps start s done (Gone at) run = nothing_more start s.told done run
steps start s done (Unknown at) run = nothing_more start s.told done run
steps start s done Over run = nothing_more start s.told done run
steps start s done (Asked now said lasts) run = by (may_report s now)
  where
    by : (b : Bool) → IsRun start (cond b (record s { told = all_after s.told s.head said lasts s.targets }) s).told (done ++ cond b (all_chosen s.told s.head said lasts s.targets) [])
    by true = chooses_all start s.told done s.head said lasts s.targets run
    by false = nothing_more start s.told done run
steps start s done (Cut now said lasts count more) run = by (may_report s now)
  where
    part : Told
    part = part_after s.told s.head said lasts s.targets count more

    by : (b : Bool) → IsRun start (cond b (record s { told = part }) s).told (done ++ [])
    by true = nothing_more start part done (keeps start s.told part done (grows_part s.told s.head said lasts s.targets count more) run)
    by false = nothing_more start s.told done run

runs : (start : Told) (s : State) (done : List Report) (inputs : List Input) → IsRun start s.told done → (told : Told) × IsRun start told (done ++ reports_of s inputs)
runs start s done [] run = (s.told, nothing_more start s.told done run)
runs start s done (input ∷ inputs) run =
    let rest = runs start (next s input) (done ++ reported s input) inputs (steps start s done input run) in
    (rest.0, subst (IsRun start rest.0) (append_assoc done (reported s input) (reports_of (next s input) inputs)) rest.1)

pub whole_run : (s : State) (inputs : List Input) → (told : Told) × IsRun s.told told (reports_of s inputs)
whole_run s inputs = runs s.told s [] inputs (record {
  apart = λ i j d l w. absurd (omega arith);
  said = λ k d l. absurd (omega arith);
  news = λ k d l. absurd (omega arith);
  grown = record { marks = λ q. omega arith; rounds = λ e r t closed. closed };
})

pub whole_given : GivenToOne
whole_given s inputs = λ i j d before within same at.
    let apart = (whole_run s inputs).1.apart i j d before within in
    let later = apart.later same in
    absurd (omega (arith, later, at))
