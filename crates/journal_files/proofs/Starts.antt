-- What an allocator begins with.
use Rattle.std.proofs.Common.{◌≡◌, ◌∙◌, ◌<◌, ◌-◌, ℕ, zero, suc, cond, Bool, false, List, [], ◌∷◌, ◌++◌, AllPairs, length, take, Option, None, Some, IfSome, Result, Ok, Err, IfOk, ap, arith, refl, subst, sym}
use Rattle.std.specs.Prelude.{◌==◌, codes, decimal, option_and_then, option_map}
use Rattle.std.specs.List.{list_any, onto_first}
use Rattle.std.specs.Option.{option_map_or}
use Rattle.allocation_core.specs.Renewed.{renewed}
use Rattle.allocation_core.specs.State.{State, current_pairs}
use Rattle.fleet.specs.declared.job.JobSpec.{JobSpec}
use Rattle.json_values.proofs.OneLine.{one_line}
use Rattle.json_values.specs.Texts.{json_of}
use Rattle.serde_json.specs.Data.{number, unsigned}
use Rattle.replay_lines.specs.AsRuns.{events_of}
use Rattle.replay_lines.specs.Configurations.{opened}
use Rattle.replay_lines.specs.Resumes.{damage_at, resumed, resumed_by, resumed_from, resumption_at, unread_from}
use Rattle.replay_lines.specs.declared.resuming.Resumption.{Resumption}
use Rattle.sealed_lines.specs.Lines.{HasNoFeed, lines_in}
use Rattle.sealed_lines.specs.declared.chain.Chain.{Chain}
use Rattle.sealed_lines.proofs.SealedTexts.{any_append, or_both}
use Rattle.sealed_lines.proofs.Texts.{or_false}
use Rattle.durable_journal.specs.Beginnings.{Opens, value_of}
use Rattle.durable_journal.specs.Epochs.{with_epoch}
use Rattle.durable_journal.specs.Marks.{found_in, marked}
use Rattle.durable_journal.specs.declared.beginning.FirstLine.{FirstLine}
use Rattle.durable_journal.specs.declared.recovering.Recovered.TheVariants.{Found}
use Rattle.journal_files.specs.Leading.{LeadsTo, has_empty_line}
use Rattle.journal_files.specs.Starting.{Asked, BeginsAnew, GoesOnIn, IsAnew, IsConfigured, IsRenewed, IsReplacedBy, RenewsUnder, ReplacesWith, Starts, StartsIn}
use Rattle.journal_files.specs.declared.reading.Begun.{Begun}
use Rattle.journal_files.specs.declared.reading.Next.{Next}
use Rattle.journal_files.specs.declared.reading.Next.TheVariants.{Begins, GoesOn, IsReplaced}
use Rattle.journal_files.specs.declared.reading.Start.{Start}
use Rattle.journal_files.proofs.Leading.{found_lead}

-- ---- the line of a configuration

-- a line without a line feed stands alone
alone : (line : List ℕ) → HasNoFeed line → lines_in line ≡ line ∷ []
alone [] absent = refl
alone (b ∷ bs) absent =
    let parts = or_false (b == 10) (list_any (λ x. x == 10) bs) absent in
    ap (λ (t : Bool). cond t ([] ∷ lines_in bs) (onto_first b (lines_in bs))) parts.0 ∙ ap (onto_first b) (alone bs parts.1)

nothing_behind : (m : State) → resumed_from m [] ≡ Ok (resumption_at m 0)
unfolding unread_from events_of
nothing_behind m = refl

opened_alone : (o : Option State) (r : Resumption) → option_map_or (λ m. resumed_from m []) o (Err (damage_at 1)) ≡ Ok r → o ≡ Some r.core
opened_alone None r e = cc
opened_alone (Some m) r e =
    let both : Ok (resumption_at m 0) ≡ Ok r = sym (nothing_behind m) ∙ e in
    let same : resumption_at m 0 ≡ r = cc in
    ap (λ (x : Resumption). Some x.core) same

pub line_opens : (line : List ℕ) (r : Resumption) → resumed line ≡ Ok r → IsConfigured line r.core
unfolding resumed
line_opens line r e = λ absent. opened_alone (opened line) r (ap resumed_by (sym (alone line absent)) ∙ e)

-- ---- with an epoch

front_has_none : (n : ℕ) (line : List ℕ) → HasNoFeed line → HasNoFeed (take n line)
front_has_none zero line absent = refl
front_has_none (suc n) [] absent = refl
front_has_none (suc n) (b ∷ bs) absent = let parts = or_false (b == 10) (list_any (λ x. x == 10) bs) absent in or_both _ _ parts.0 (front_has_none n bs parts.1)

number_no_feed : (n : ℕ) → HasNoFeed (decimal n)
number_no_feed n = one_line (number (unsigned n))

epoch_no_feed : (line : List ℕ) (epoch : ℕ) → HasNoFeed line → HasNoFeed (with_epoch line epoch)
epoch_no_feed line epoch absent =
    any_append (take (length line - 1) line) (codes ",\"epoch\":" ++ (decimal epoch ++ codes "}")) (front_has_none (length line - 1) line absent)
    (any_append (codes ",\"epoch\":") (decimal epoch ++ codes "}") refl (any_append (decimal epoch) (codes "}") (number_no_feed epoch) refl))

-- what begins of a journal without a line
pub begins_anew : (asked : Asked) (begun : Begun) (core : State) (first : FirstLine) (line other : List ℕ) (given : Option FirstLine) → line ≡ with_epoch asked.line asked.epoch → other ≡ line → begun.core ≡ core
    → begun.past.epoch ≡ asked.epoch → begun.next ≡ Begins first → given ≡ Some first → IsConfigured other core → IfSome given (Opens (opened line)) → option_map value_of given ≡ option_and_then marked (json_of line)
    → BeginsAnew asked begun.core begun.past.epoch begun.next
begins_anew asked begun core first line other given is same core_is epoch_is next_is some configured opens says =
    let begins : IfSome (Some first) (Opens (opened line)) = subst (λ o. IfSome o (Opens (opened line))) some opens in
    let opened_is : HasNoFeed asked.line → opened line ≡ Some core = λ absent. ap opened (sym same) ∙ configured (subst HasNoFeed (sym (same ∙ is)) (epoch_no_feed asked.line asked.epoch absent)) in
    let anew : IsAnew asked core asked.epoch first =
    record {
      configured = λ absent. ap opened (sym is) ∙ opened_is absent;
      opens = λ absent. subst (λ o. Opens o first) (opened_is absent) begins;
      says = sym (ap (option_map value_of) some) ∙ says ∙ ap (λ l. option_and_then marked (json_of l)) is;
      epoch_is = refl;
    } in
    subst (BeginsAnew asked begun.core begun.past.epoch) (sym next_is) (subst (λ e. IsAnew asked begun.core e first) (sym epoch_is) (subst (λ s. IsAnew asked s asked.epoch first) (sym core_is) anew))

-- ---- a renewal

pub is_renewed : (before m : State) (jobs : List JobSpec) (report_rounds : ℕ) (pairs : List (ℕ × ℕ)) → pairs ≡ current_pairs before → AllPairs (λ (a b : ℕ × ℕ). a.0 < b.0) pairs → m ≡ renewed before jobs report_rounds → IsRenewed m
unfolding renewed
is_renewed before m jobs report_rounds pairs same ascending is =
    record {
      before = before;
      jobs = jobs;
      ascending = subst (λ (ps : List (ℕ × ℕ)). AllPairs (λ (a b : ℕ × ℕ). a.0 < b.0) ps) same ascending;
      is = is ∙ ap (renewed before jobs) (sym (ap (λ (x : State). x.report_rounds) is));
    }

next_renews : (m new : State) (last : ℕ) (jobs : List JobSpec) (report_rounds : ℕ) (core : State) (epoch : ℕ) (next : Next) → new ≡ renewed m jobs report_rounds → ReplacesWith new last core epoch next → RenewsUnder m last jobs report_rounds core epoch next
next_renews m new last jobs report_rounds core epoch (Begins first) is by = absurd by
next_renews m new last jobs report_rounds core epoch (GoesOn events) is by = absurd by
next_renews m new last jobs report_rounds core epoch (IsReplaced first) is by = record { is = by.0 ∙ is; line = subst (λ s. IsReplacedBy s last epoch first) (sym by.0) by.1 }

pub renews_under : {E : Type 0} (r : Result Begun E) (m new : State) (last : ℕ) (jobs : List JobSpec) (report_rounds : ℕ) → new ≡ renewed m jobs report_rounds → IfOk r (λ b. ReplacesWith new last b.core b.past.epoch b.next)
    → IfOk r (λ b. RenewsUnder m last jobs report_rounds b.core b.past.epoch b.next)
renews_under (Err e) m new last jobs report_rounds is by = tt
renews_under (Ok b) m new last jobs report_rounds is by = next_renews m new last jobs report_rounds b.core b.past.epoch b.next is by

-- ---- all of it

led_on : (asked : Asked) (bytes text : List ℕ) (chain : Option Chain) (whole torn : ℕ) (core : State) (epoch count : ℕ) → found_in bytes ≡ Found text chain whole torn → Starts asked text core epoch (GoesOn count) → has_empty_line text ≡ false
    → LeadsTo core (take whole bytes) chain
led_on asked bytes [] chain whole torn core epoch count found starts none = absurd starts
led_on asked bytes (b ∷ bs) chain whole torn core epoch count found starts none =
    subst (λ s. LeadsTo s (take whole bytes) chain) (sym starts.behind.core_is) (found_lead bytes (b ∷ bs) chain whole torn starts.events starts.state found (omega arith) starts.leads none)

goes_on_in : (asked : Asked) (bytes text : List ℕ) (start : Start) (next : Next) → start.journal.next ≡ next → found_in bytes ≡ Found text start.journal.chain start.journal.whole start.journal.torn → Starts asked text start.core start.past.epoch next → GoesOnIn bytes text start next
goes_on_in asked bytes text start (Begins first) is found starts = tt
goes_on_in asked bytes text start (GoesOn events) is found starts = λ none. led_on asked bytes text start.journal.chain start.journal.whole start.journal.torn start.core start.past.epoch events found starts none
goes_on_in asked bytes text start (IsReplaced first) is found starts = tt

goes_on_where : (asked : Asked) (known : Option (List ℕ)) (text : List ℕ) (start : Start) → IfSome known (λ bytes. found_in bytes ≡ Found text start.journal.chain start.journal.whole start.journal.torn)
    → Starts asked text start.core start.past.epoch start.journal.next → IfSome known (λ bytes. GoesOnIn bytes text start start.journal.next)
goes_on_where asked None text start found starts = tt
goes_on_where asked (Some bytes) text start found starts = goes_on_in asked bytes text start start.journal.next refl found starts

turned : (known : Option (List ℕ)) (text : List ℕ) (chain : Option Chain) (whole torn : ℕ) → IfSome known (λ bytes. Found text chain whole torn ≡ found_in bytes) → IfSome known (λ bytes. found_in bytes ≡ Found text chain whole torn)
turned None text chain whole torn found = tt
turned (Some bytes) text chain whole torn found = sym found

pub starts_in : (asked : Asked) (known : Option (List ℕ)) (text : List ℕ) (begun : Begun) (start : Start) (chain : Option Chain) (whole torn : ℕ) → start ≡ record { core = begun.core; past = begun.past; journal = record { whole = whole; chain = chain; torn = torn; next = begun.next } }
    → IfSome known (λ bytes. Found text chain whole torn ≡ found_in bytes) → Starts asked text begun.core begun.past.epoch begun.next → StartsIn asked known start
starts_in asked known text begun start chain whole torn is found starts =
    let made : Start = record { core = begun.core; past = begun.past; journal = record { whole = whole; chain = chain; torn = torn; next = begun.next } } in
    let there = turned known text chain whole torn found in
    subst (StartsIn asked known) (sym is) (record { text = text; found = there; starts = starts; leads = goes_on_where asked known text made there starts })
