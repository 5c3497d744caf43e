-- Each report is of a target of a list that was taken, and what is served is of the last one, over whole runs.
use Rattle.std.proofs.Common.{◌≡◌, ℕ, zero, suc, ◌+◌, ◌<◌, ◌++◌, ◌⊎◌, List, [], ◌∷◌, Bool, true, false, Option, None, Some, All, Contains, length, get_or, cond, refl, sym, ap, subst, ◌∙◌, append_assoc, append-nil, inl, inr, arith}
use Rattle.std.specs.Prelude.{Any, ◌&&◌, ◌==◌, option_and_then, option_map, not, nat_lt, filter}
use Rattle.std.specs.List.{cons_option, range_with_len}
use Rattle.std.proofs.lemmas.Bool.Decides.{nat_tests}
use Rattle.std.proofs.lemmas.Grind.{common_steps}
use Rattle.std.proofs.lemmas.List.Elements.{All-append, All-cons, All-nil, All-filter}
use Rattle.std.proofs.lemmas.List.Quantifiers.{Any-push}
use Rattle.agent_core.specs.Told.{Told, is_open, mark_of, report_of, slot, with_report}
use Rattle.agent_core.specs.Choices.{after, chosen, chosen_of, points_of, with_chosen}
use Rattle.agent_core.specs.Offered.{all_after, all_chosen, chosen_offer, chosen_offers, given_to, part_after}
use Rattle.agent_core.specs.Sharing.{offers}
use Rattle.agent_core.specs.declared.sharing.LastScrape.{LastScrape}
use Rattle.agent_core.specs.declared.sharing.Offer.{Offer}
use Rattle.agent_core.proofs.OwnLemmas.{IsOwn, contains_at, offers_own}
use Rattle.agent_core.specs.Agents.{Input, Asked, Cut, Gone, Over, Shown, Taken, Unknown, State, is_listed, is_nobody, is_same, may_report, next, nobody, reported, shown_standing, state_after}
use Rattle.agent_core.specs.Laws.{IsHeld, IsSaidLast, IsTold, ServesTaken, held, last_taken}
use Rattle.agent_core.specs.declared.serving.Standing.{Standing}
use Rattle.agent_core.specs.declared.serving.Standing.TheVariants.{Nobody, Holding, Following}
use Rattle.agent_core.specs.declared.target.Series.{Series}
use Rattle.agent_core.specs.declared.target.Listed.{Listed}
use Rattle.agent_core.specs.declared.slot.Point.{Point}
use Rattle.agent_core.specs.declared.report.Head.{Head}
use Rattle.agent_core.specs.declared.report.Report.{Report}

-- ---- reports of a list

-- a report is of a target of a list, by this head, and whose the scrape is, is known by this input
record IsOf (input : Input) (head : Head) (targets : List Listed) (report : Report) : Type 0 where
  by_head : report.head ≡ head
  listed : Listed
  among : Contains targets listed
  target : report.target ≡ listed.target
  series : report.series ≡ listed.series
  own : (listed.alone ≡ true) ⊎ IsSaidLast input listed report.time

more_targets : (input : Input) (head : Head) (first : Listed) (targets : List Listed) (report : Report) → IsOf input head targets report → IsOf input head (first ∷ targets) report
more_targets input head first targets report of = record {
  by_head = of.by_head;
  listed = of.listed;
  among = (suc of.among.0, omega (arith, of.among.1), of.among.2);
  target = of.target;
  series = of.series;
  own = of.own;
}

all_more : (input : Input) (head : Head) (first : Listed) (targets : List Listed) (reports : List Report) → All (IsOf input head targets) reports → All (IsOf input head (first ∷ targets)) reports
all_more input head first targets reports all k d l = more_targets input head first targets (get_or reports k d) (all k d l)

of_first : (input : Input) (told : Told) (head : Head) (points : List Point) (listed : Listed) (targets : List Listed) (report : Report) → chosen_of told head points listed ≡ Some report → IsOf input head (listed ∷ targets) report
of_first input told head points listed targets report e = by listed.alone refl (is_open told head.epoch head.round listed.target) (slot (mark_of told listed.series) points) e
  where
    by : (alone : Bool) → listed.alone ≡ alone → (opens : Bool) (o : Option Point) → cond (alone && opens) (option_map (report_of head listed) o) None ≡ Some report → IsOf input head (listed ∷ targets) report
    by false is opens o e = absurd (cc e)
    by true is false o e = absurd (cc e)
    by true is true None e = absurd (cc e)
    by true is true (Some point) e =
        let same : report_of head listed point ≡ report = cc e in
        subst (IsOf input head (listed ∷ targets)) same (record { by_head = refl; listed = listed; among = (0, omega arith, refl); target = refl; series = refl; own = inl is })

chosen_by : (input : Input) (told : Told) (head : Head) (said : List (Series × List Point)) (listed : Listed) (targets : List Listed) (o : Option Report) → chosen_of told head (points_of said listed.series) listed ≡ o
    → ((t : Told) → All (IsOf input head targets) (chosen t head said targets)) → All (IsOf input head (listed ∷ targets)) (cons_option o (chosen (with_chosen told o) head said targets))
chosen_by input told head said listed targets None is rest = all_more input head listed targets (chosen told head said targets) (rest told)
chosen_by input told head said listed targets (Some report) is rest =
    All-cons (IsOf input head (listed ∷ targets)) report (chosen (with_report told report) head said targets)
    (of_first input told head (points_of said listed.series) listed targets report is)
    (all_more input head listed targets (chosen (with_report told report) head said targets) (rest (with_report told report)))

chosen_held : (input : Input) (told : Told) (head : Head) (said : List (Series × List Point)) (targets : List Listed) → All (IsOf input head targets) (chosen told head said targets)
chosen_held input told head said [] = All-nil (IsOf input head [])
chosen_held input told head said (listed ∷ targets) =
    chosen_by input told head said listed targets (chosen_of told head (points_of said listed.series) listed) refl (λ t. chosen_held input t head said targets)

-- ---- reports of points of shared series

given_held : (now : ℕ) (said : List (Series × List Point)) (lasts : List (Series × List LastScrape)) (told : Told) (head : Head) (targets : List Listed) (offer : Offer) (report : Report) → IsOwn targets lasts offer
    → chosen_offer told head targets offer ≡ Some report → IsOf (Asked now said lasts) head targets report
given_held now said lasts told head targets offer report own e =
    by (is_open told head.epoch head.round own.listed.target && nat_lt (mark_of told own.listed.series) offer.point.time)
    (sym (ap (λ (found : Option Listed). option_and_then (given_to told head offer.point) found) own.at) ∙ e)
  where
    by : (b : Bool) → cond b (Some (report_of head own.listed offer.point)) None ≡ Some report → IsOf (Asked now said lasts) head targets report
    by false e = absurd (cc e)
    by true e =
        let same : report_of head own.listed offer.point ≡ report = cc e in
        subst (IsOf (Asked now said lasts) head targets) same (record { by_head = refl; listed = own.listed; among = contains_at targets offer.place own.listed own.at; target = refl; series = refl; own = inr own.own })

gives_by : (now : ℕ) (said : List (Series × List Point)) (lasts : List (Series × List LastScrape)) (told : Told) (head : Head) (targets : List Listed) (offer : Offer) (offers : List Offer) (o : Option Report) → IsOwn targets lasts offer
    → chosen_offer told head targets offer ≡ o → ((t : Told) → All (IsOf (Asked now said lasts) head targets) (chosen_offers t head targets offers))
    → All (IsOf (Asked now said lasts) head targets) (cons_option o (chosen_offers (with_chosen told o) head targets offers))
gives_by now said lasts told head targets offer offers None own is rest = rest told
gives_by now said lasts told head targets offer offers (Some report) own is rest =
    All-cons (IsOf (Asked now said lasts) head targets) report (chosen_offers (with_report told report) head targets offers) (given_held now said lasts told head targets offer report own is) (rest (with_report told report))

gives_held : (now : ℕ) (said : List (Series × List Point)) (lasts : List (Series × List LastScrape)) (told : Told) (head : Head) (targets : List Listed) (offers : List Offer) → All (IsOwn targets lasts) offers
    → All (IsOf (Asked now said lasts) head targets) (chosen_offers told head targets offers)
gives_held now said lasts told head targets [] own = All-nil (IsOf (Asked now said lasts) head targets)
gives_held now said lasts told head targets (offer ∷ offers) own =
    gives_by now said lasts told head targets offer offers (chosen_offer told head targets offer) (own 0 offer (omega arith)) refl
    (λ t. gives_held now said lasts t head targets offers (λ k d l. own (suc k) d (omega (arith, l))))

all_held : (now : ℕ) (said : List (Series × List Point)) (lasts : List (Series × List LastScrape)) (told : Told) (head : Head) (targets : List Listed) → All (IsOf (Asked now said lasts) head targets) (all_chosen told head said lasts targets)
all_held now said lasts told head targets =
    All-append (IsOf (Asked now said lasts) head targets) (chosen told head said targets) (chosen_offers (after told head said targets) head targets (offers said targets lasts))
    (chosen_held (Asked now said lasts) told head said targets)
    (gives_held now said lasts (after told head said targets) head targets (offers said targets lasts) (offers_own said targets lasts))

-- ---- what a state holds, behind these inputs

record IsGrounded (seen : List Input) (list : Option (Head × List Listed)) (s : State) : Type 0 where
  head : Head
  is : list ≡ Some (head, s.targets)
  collector : s.head.collector ≡ head.collector
  epoch : s.head.epoch ≡ head.epoch
  number : s.head.number ≡ head.number
  told : Any (IsTold s.head.epoch s.head.round) seen

abbrev Holds : List Input → Option (Head × List Listed) → State → Type 0
Holds seen list s = (is_nobody s.standing ≡ true) ⊎ IsGrounded seen list s

held_by : (before : List Input) (input : Input) (s : State) (report : Report) → IsGrounded before (held None before) s → IsOf input s.head s.targets report → IsHeld before input report
held_by before input s report g of =
    record {
      head = g.head;
      targets = s.targets;
      list = g.is;
      collector = ap (λ (h : Head). h.collector) of.by_head ∙ g.collector;
      epoch = ap (λ (h : Head). h.epoch) of.by_head ∙ g.epoch;
      number = ap (λ (h : Head). h.number) of.by_head ∙ g.number;
      listed = of.listed;
      among = of.among;
      target = of.target;
      series = of.series;
      own = of.own;
      told = subst (λ (h : Head). Any (IsTold h.epoch h.round) before) (sym of.by_head) g.told;
    }

held_reports : (before : List Input) (s : State) (input : Input) → Holds before (held None before) s → All (IsHeld before input) (reported s input)
held_reports before s (Taken at head until targets) holds = All-nil (IsHeld before (Taken at head until targets))
held_reports before s (Shown at head until targets) holds = All-nil (IsHeld before (Shown at head until targets))
held_reports before s (Gone at) holds = All-nil (IsHeld before (Gone at))
held_reports before s (Unknown at) holds = All-nil (IsHeld before (Unknown at))
held_reports before s Over holds = All-nil (IsHeld before Over)
held_reports before s (Cut now said lasts count more) holds = All-nil (IsHeld before (Cut now said lasts count more))
held_reports before s (Asked now said lasts) holds = by (is_nobody s.standing) refl (nat_lt now s.until)
  where
    grounded : is_nobody s.standing ≡ false → Holds before (held None before) s → IsGrounded before (held None before) s
    grounded is (inl nobody) = absurd (cc (is, nobody))
    grounded is (inr g) = g

    by : (nobody : Bool) → is_nobody s.standing ≡ nobody → (opens : Bool) → All (IsHeld before (Asked now said lasts)) (cond (not nobody && opens) (all_chosen s.told s.head said lasts s.targets) [])
    by true is opens = All-nil (IsHeld before (Asked now said lasts))
    by false is false = All-nil (IsHeld before (Asked now said lasts))
    by false is true =
        let g = grounded is holds in
        let reports = all_chosen s.told s.head said lasts s.targets in
        λ k d l. held_by before (Asked now said lasts) s (get_or reports k d) g (all_held now said lasts s.told s.head s.targets k d l)

-- what is among some inputs is among more
any_on : (P : Input → Type 0) (seen : List Input) (input : Input) → Any P seen → Any P (seen ++ input ∷ [])
any_on P seen input a = (a.0, a.1, grind (arith, common_steps, a.2), grind (arith, common_steps, a.2, a.3), a.4)

grounded_on : (seen : List Input) (list : Option (Head × List Listed)) (s : State) (input : Input) → IsGrounded seen list s → IsGrounded (seen ++ input ∷ []) list s
grounded_on seen list s input g = record {
  head = g.head;
  is = g.is;
  collector = g.collector;
  epoch = g.epoch;
  number = g.number;
  told = any_on (IsTold s.head.epoch s.head.round) seen input g.told;
}

-- a holder stays one of the same list, in the round that was told last
shown_holds : (seen : List Input) (list : Option (Head × List Listed)) (s : State) (at : ℕ) (head : Head) (until : ℕ) (targets : List Listed) → Holds seen list s
    → Holds (seen ++ Shown at head until targets ∷ []) list (next s (Shown at head until targets))
shown_holds seen list s at head until targets (inl none) = inl (standing_none s.standing (is_same s head targets) none)
  where
    standing_none : (standing : Standing) (same : Bool) → is_nobody standing ≡ true → is_nobody (shown_standing standing same at) ≡ true
    standing_none Nobody same e = refl
    standing_none Holding same e = absurd (cc e)
    standing_none (Following since) same e = absurd (cc e)
shown_holds seen list s at head until targets (inr g) = inr (by (s.head.epoch == head.epoch) refl)
  where
    by : (b : Bool) → (s.head.epoch == head.epoch) ≡ b → IsGrounded (seen ++ Shown at head until targets ∷ []) list (record (cond b (record s { head = record s.head { round = head.round }; until = until }) (record s { until = 0 })) {
      standing = shown_standing s.standing (is_same s head targets) at;
      served = filter (is_listed s.targets targets) s.served;
      heard = at;
    })
    by true is =
        let same : head.epoch ≡ s.head.epoch = grind (arith, nat_tests, is) in
        record {
          head = g.head;
          is = g.is;
          collector = g.collector;
          epoch = g.epoch;
          number = g.number;
          told = Any-push (IsTold s.head.epoch head.round) seen (Shown at head until targets) (same, refl);
        }
    by false is = record {
      head = g.head;
      is = g.is;
      collector = g.collector;
      epoch = g.epoch;
      number = g.number;
      told = any_on (IsTold s.head.epoch s.head.round) seen (Shown at head until targets) g.told;
    }

holds_next : (seen : List Input) (list : Option (Head × List Listed)) (s : State) (input : Input) → Holds seen list s → Holds (seen ++ input ∷ []) (held list (input ∷ [])) (next s input)
holds_next seen list s (Taken at head until targets) holds = inr (record {
  head = head;
  is = refl;
  collector = refl;
  epoch = refl;
  number = refl;
  told = Any-push (IsTold head.epoch head.round) seen (Taken at head until targets) (refl, refl);
})
holds_next seen list s (Shown at head until targets) holds = shown_holds seen list s at head until targets holds
holds_next seen list s (Gone at) holds = inl refl
holds_next seen list s (Unknown at) holds = inl refl
holds_next seen list s Over (inl none) = inl none
holds_next seen list s Over (inr g) = inr (let more = grounded_on seen list s Over g in record { head = more.head; is = more.is; collector = more.collector; epoch = more.epoch; number = more.number; told = more.told })
holds_next seen list s (Asked now said lasts) holds = by (may_report s now) holds
  where
    by : (b : Bool) → Holds seen list s → Holds (seen ++ Asked now said lasts ∷ []) list (cond b (record s { told = all_after s.told s.head said lasts s.targets }) s)
    by true (inl none) = inl none
    by true (inr g) = inr (let more = grounded_on seen list s (Asked now said lasts) g in record { head = more.head; is = more.is; collector = more.collector; epoch = more.epoch; number = more.number; told = more.told })
    by false (inl none) = inl none
    by false (inr g) = inr (grounded_on seen list s (Asked now said lasts) g)
holds_next seen list s (Cut now said lasts count more) holds = by (may_report s now) holds
  where
    by : (b : Bool) → Holds seen list s → Holds (seen ++ Cut now said lasts count more ∷ []) list (cond b (record s { told = part_after s.told s.head said lasts s.targets count more }) s)
    by true (inl none) = inl none
    by true (inr g) = inr (let more = grounded_on seen list s (Cut now said lasts count more) g in record { head = more.head; is = more.is; collector = more.collector; epoch = more.epoch; number = more.number; told = more.told })
    by false (inl none) = inl none
    by false (inr g) = inr (grounded_on seen list s (Cut now said lasts count more) g)

held_one : (list : Option (Head × List Listed)) (input : Input) (inputs : List Input) → held (held list (input ∷ [])) inputs ≡ held list (input ∷ inputs)
held_one list (Taken at head until targets) inputs = refl
held_one list (Shown at head until targets) inputs = refl
held_one list (Gone at) inputs = refl
held_one list (Unknown at) inputs = refl
held_one list Over inputs = refl
held_one list (Asked now said lasts) inputs = refl
held_one list (Cut now said lasts count more) inputs = refl

holds_run : (seen : List Input) (list : Option (Head × List Listed)) (s : State) (inputs : List Input) → Holds seen list s → Holds (seen ++ inputs) (held list inputs) (state_after s inputs)
holds_run seen list s [] holds = subst (λ (xs : List Input). Holds xs list s) (sym (append-nil seen)) holds
holds_run seen list s (input ∷ inputs) holds =
    let rest = holds_run (seen ++ input ∷ []) (held list (input ∷ [])) (next s input) inputs (holds_next seen list s input holds) in
    subst (λ (h : Option (Head × List Listed)). Holds (seen ++ input ∷ inputs) h (state_after (next s input) inputs)) (held_one list input inputs)
    (subst (λ (xs : List Input). Holds xs (held (held list (input ∷ [])) inputs) (state_after (next s input) inputs)) (append_assoc seen (input ∷ []) inputs) rest)

pub whole_held : (told : Told) (lease : Option ℕ) (before : List Input) (input : Input) → All (IsHeld before input) (reported (state_after (nobody told lease) before) input)
whole_held told lease before input = held_reports before (state_after (nobody told lease) before) input (holds_run [] None (nobody told lease) before (inl refl))

-- ---- what is served

places_below : (n from : ℕ) → All (λ (place : ℕ). place < from + n) (range_with_len from n)
places_below zero from = All-nil (λ (place : ℕ). place < from + 0)
places_below (suc n) from =
    let rest = places_below n (from + 1) in
    All-cons (λ (place : ℕ). place < from + suc n) from (range_with_len (from + 1) n) (omega arith) (λ k d l. omega (arith, rest k d l))

serves_next : (s : State) (input : Input) → All (λ (place : ℕ). place < length s.targets) s.served → All (λ (place : ℕ). place < length (next s input).targets) (next s input).served
serves_next s (Taken at head until targets) h = λ k d l. omega (arith, places_below (length targets) 0 k d l)
serves_next s (Shown at head until targets) h = by (s.head.epoch == head.epoch)
  where
    by : (b : Bool) → All (λ (place : ℕ). place < length (cond b (record s { head = record s.head { round = head.round }; until = until }) (record s { until = 0 })).targets) (filter (is_listed s.targets targets) s.served)
    by true = All-filter (is_listed s.targets targets) (λ (place : ℕ). place < length s.targets) s.served h
    by false = All-filter (is_listed s.targets targets) (λ (place : ℕ). place < length s.targets) s.served h
serves_next s (Gone at) h = λ k d l. absurd (omega (arith, l))
serves_next s (Unknown at) h = h
serves_next s Over h = h
serves_next s (Asked now said lasts) h = by (may_report s now)
  where
    by : (b : Bool) → All (λ (place : ℕ). place < length (cond b (record s { told = all_after s.told s.head said lasts s.targets }) s).targets) (cond b (record s { told = all_after s.told s.head said lasts s.targets }) s).served
    by true = h
    by false = h
serves_next s (Cut now said lasts count more) h = by (may_report s now)
  where
    by : (b : Bool) → All (λ (place : ℕ). place < length (cond b (record s { told = part_after s.told s.head said lasts s.targets count more }) s).targets) (cond b (record s { told = part_after s.told s.head said lasts s.targets count more }) s).served
    by true = h
    by false = h

served_run : (s : State) (targets : List Listed) (inputs : List Input) → s.targets ≡ targets → All (λ (place : ℕ). place < length s.targets) s.served → ServesTaken (state_after s inputs) (last_taken targets inputs)
served_run s targets [] e h = record { targets = e; places = h }
served_run s targets (Taken at head until ts ∷ inputs) e h = served_run (next s (Taken at head until ts)) ts inputs refl (serves_next s (Taken at head until ts) h)
served_run s targets (Shown at head until ts ∷ inputs) e h =
    let stays : (b : Bool) → (cond b (record s { head = record s.head { round = head.round }; until = until }) (record s { until = 0 })).targets ≡ s.targets = λ b. elim b as (λ v. (cond v (record s { head = record s.head { round = head.round }; until = until }) (record s { until = 0 })).targets ≡ s.targets) [ true ↦ refl | false ↦ refl ] in
    served_run (next s (Shown at head until ts)) targets inputs (stays (s.head.epoch == head.epoch) ∙ e) (serves_next s (Shown at head until ts) h)
served_run s targets (Gone at ∷ inputs) e h = served_run (next s (Gone at)) [] inputs refl (serves_next s (Gone at) h)
served_run s targets (Unknown at ∷ inputs) e h = served_run (next s (Unknown at)) targets inputs e (serves_next s (Unknown at) h)
served_run s targets (Over ∷ inputs) e h = served_run (next s Over) targets inputs e (serves_next s Over h)
served_run s targets (Asked now said lasts ∷ inputs) e h =
    let stays : (b : Bool) → (cond b (record s { told = all_after s.told s.head said lasts s.targets }) s).targets ≡ s.targets = λ b. elim b as (λ v. (cond v (record s { told = all_after s.told s.head said lasts s.targets }) s).targets ≡ s.targets) [ true ↦ refl | false ↦ refl ] in
    served_run (next s (Asked now said lasts)) targets inputs (stays (may_report s now) ∙ e) (serves_next s (Asked now said lasts) h)
served_run s targets (Cut now said lasts count more ∷ inputs) e h =
    let stays : (b : Bool) → (cond b (record s { told = part_after s.told s.head said lasts s.targets count more }) s).targets ≡ s.targets = λ b. elim b as (λ v. (cond v (record s { told = part_after s.told s.head said lasts s.targets count more }) s).targets ≡ s.targets) [ true ↦ refl | false ↦ refl ] in
    served_run (next s (Cut now said lasts count more)) targets inputs (stays (may_report s now) ∙ e) (serves_next s (Cut now said lasts count more) h)

pub whole_served : (told : Told) (lease : Option ℕ) (inputs : List Input) → ServesTaken (state_after (nobody told lease) inputs) (last_taken [] inputs)
whole_served told lease inputs = served_run (nobody told lease) [] inputs refl (λ k d l. absurd (omega (arith, l)))
