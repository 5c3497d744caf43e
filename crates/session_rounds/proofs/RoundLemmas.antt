-- Turns and rounds, one after another.
use Rattle.std.proofs.Common.{◌≡◌, ℕ, suc, ◌+◌, ◌<◌, List, [], ◌∷◌, ◌++◌, refl, sym, subst, ap, ◌∙◌, arith, inl, inr, length, get_or, drop, append_assoc}
use Rattle.std.specs.Prelude.{Option, Some, None, IfSome, Result, All, ◌⊎◌, map, sum_by}
use Rattle.std.proofs.Math.Seq.{drop-cons}
use Rattle.std.proofs.lemmas.List.{append-nil, length-append}
use Rattle.std.proofs.lemmas.List.Sums.{sum_by-append}
use Rattle.std.proofs.lemmas.List.Elements.{All-append, All-cons, All-nil}
use Rattle.sd_documents.specs.declared.config.Job.{Job}
use Rattle.http_get.specs.declared.get.Get.{Get}
use Rattle.http_get.specs.declared.reply.Reply.{Reply}
use Rattle.http_get.specs.declared.reply.FetchFault.{FetchFault}
use Rattle.allocation_core.specs.State.{State}
use Rattle.alloc_desk.specs.Counts.{Counts}
use Rattle.collector_pool.specs.Turns.{DidTurn, Turned}
use Rattle.collector_pool.specs.declared.turn.Turn.{Turn}
use Rattle.collector_pool.specs.declared.turn.TurnEnd.{TurnEnd}
use Rattle.collector_pool.specs.declared.turn.TurnEnd.TheVariants.{Complete, NotJoined, JournalFull, Memory}
use Rattle.collector_pool.specs.declared.worker.Worker.{Worker}
use Rattle.session.specs.Lines.{no_sums, round_line, sums_from, with_turn}
use Rattle.session.specs.declared.sums.Sums.{Sums}
use Rattle.session_rounds.specs.Rounds.{HadRounds, HadTurns, IsDone, RanRounds, booked_in, calls_in, entries_told, round_lines, samples_told}
use Rattle.session_rounds.specs.Turns.{turns_in}

-- ---- the sums over turns

pub booked_sum : (sums : Sums) (turns : List Turn) → (sums_from sums turns).booked ≡ sums.booked + sum_by (λ (t : Turn). t.booked) turns
booked_sum sums [] = omega arith
booked_sum sums (turn ∷ turns) =
    let booked : Turn → ℕ = λ t. t.booked in
    omega (arith, booked_sum (with_turn sums turn) turns, sum_by-append booked (turn ∷ []) turns)

pub refused_sum : (sums : Sums) (turns : List Turn) → (sums_from sums turns).refused ≡ sums.refused + sum_by (λ (t : Turn). t.refused) turns
refused_sum sums [] = omega arith
refused_sum sums (turn ∷ turns) =
    let refused : Turn → ℕ = λ t. t.refused in
    omega (arith, refused_sum (with_turn sums turn) turns, sum_by-append refused (turn ∷ []) turns)

pub samples_sum : (sums : Sums) (turns : List Turn) → (sums_from sums turns).samples ≡ sums.samples + sum_by (λ (t : Turn). t.samples) turns
samples_sum sums [] = omega arith
samples_sum sums (turn ∷ turns) =
    let samples : Turn → ℕ = λ t. t.samples in
    omega (arith, samples_sum (with_turn sums turn) turns, sum_by-append samples (turn ∷ []) turns)

-- ---- lines, and ends

lines_then : (number : ℕ) (rounds : List (List Turn)) (turns : List Turn) → round_lines number (rounds ++ turns ∷ []) ≡ round_lines number rounds ++ round_line (number + length rounds) (sums_from no_sums turns)
lines_then number [] turns =
    let behind : ℕ → List ℕ = λ n. round_line n (sums_from no_sums turns) in
    let same : number ≡ number + 0 = omega arith in
    append-nil (behind number) ∙ ap behind same
lines_then number (first ∷ rounds) turns =
    let behind : ℕ → List ℕ = λ n. round_line n (sums_from no_sums turns) in
    let line = round_line number (sums_from no_sums first) in
    let same : (number + 1) + length rounds ≡ number + suc (length rounds) = omega arith in
    ap (λ l. line ++ l) (lines_then (number + 1) rounds turns) ∙ sym (append_assoc line (round_lines (number + 1) rounds) (behind ((number + 1) + length rounds))) ∙ ap (λ n. (line ++ round_lines (number + 1) rounds) ++ behind n) same

never_done : (end : TurnEnd) → (end ≡ Complete) ⊎ (end ≡ NotJoined) → (end ≡ JournalFull) ⊎ (end ≡ Memory) → ⊥
never_done end (inl complete) (inl full) = cc
never_done end (inl complete) (inr memory) = cc
never_done end (inr unknown) (inl full) = cc
never_done end (inr unknown) (inr memory) = cc

done_first : (turn : Option Turn) (turns : List (Option Turn)) → IfSome turn IsDone → All IsDone (turns_in turns) → All IsDone (turns_in (turn ∷ turns))
done_first None turns done rest = rest
done_first (Some turn) turns done rest = All-cons IsDone turn (turns_in turns) done rest

-- one worker more, of which no turn is left undone
pub done_then :
    {L B N S : Type 0} (workers : List (Worker L B N S)) (index : ℕ) (worker : Worker L B N S) → index < length workers → worker ≡ get_or workers index worker → IfSome worker.turn IsDone
    → All IsDone (turns_in (map (λ w. w.turn) (drop (index + 1) workers))) → All IsDone (turns_in (map (λ w. w.turn) (drop index workers)))
done_then {L = L} {B = B} {N = N} {S = S} workers index worker below at done rest =
    let P : List (Worker L B N S) → Type 0 = λ ws. All IsDone (turns_in (map (λ w. w.turn) ws)) in
    let next : index + 1 ≡ suc index = omega arith in
    let Q : ℕ → Type 0 = λ n. P (drop n workers) in
    let R : Worker L B N S → Type 0 = λ w. P (w ∷ drop (suc index) workers) in
    subst P (sym (drop-cons workers index worker below)) (subst R at (done_first worker.turn (map (λ w. w.turn) (drop (suc index) workers)) done (subst Q next rest)))

-- each Take and each report of a turn that is done has an entry
turn_entered :
    {S : Type 0} (may : S → Get → Result Reply FetchFault → S → Type 0) (opening : State) (jobs : List Job) (before after : Counts) (id : ℕ) (old new : S) (turn : Turn) → IsDone turn
    → Turned may opening before after jobs id old new turn → after.calls ≡ before.calls + (1 + (turn.booked + turn.refused))
turn_entered may opening jobs before after id old new turn done (inl took) = took.calls
turn_entered may opening jobs before after id old new turn done (inr (same, nothing, inl unknown)) = omega (arith, unknown.2, nothing.1, nothing.2)
turn_entered may opening jobs before after id old new turn done (inr (same, nothing, inr not)) = absurd (never_done turn.end done not.0)

module _ {L B N S : Type 0} (may : S → Get → Result Reply FetchFault → S → Type 0) (opening : State) (jobs : List Job) where
  -- ---- one turn of each worker

  had_turn :
      (old new : Worker L B N S) (turn : Option Turn) → new.turn ≡ turn → new.id ≡ old.id → DidTurn may opening jobs old.id old.pass new.pass old.scrape new.scrape turn
      → (olds news : List (Worker L B N S)) → HadTurns may opening jobs olds (turns_in (map (λ w. w.turn) news)) news
      → HadTurns may opening jobs (old ∷ olds) (turns_in (turn ∷ map (λ w. w.turn) news)) (new ∷ news)
  had_turn old new None is id did olds news rest = absurd did
  had_turn old new (Some turn) is id did olds news rest =
      let D : Option Turn → Type 0 = λ t. DidTurn may opening jobs old.id old.pass new.pass old.scrape new.scrape t in
      (record { id = id; last = is; did = subst D (sym is) did }, rest)

  pub had_turns :
      (olds news : List (Worker L B N S)) → length news ≡ length olds
      → ((i : ℕ) (d : Worker L B N S) → i < length olds → DidTurn may opening jobs (get_or olds i d).id (get_or olds i d).pass (get_or news i d).pass (get_or olds i d).scrape (get_or news i d).scrape (get_or news i d).turn)
      → ((i : ℕ) (d : Worker L B N S) → i < length olds → (get_or news i d).id ≡ (get_or olds i d).id)
      → HadTurns may opening jobs olds (turns_in (map (λ w. w.turn) news)) news
  had_turns [] [] same did ids = tt
  had_turns [] (new ∷ news) same did ids = absurd (omega (arith, same))
  had_turns (old ∷ olds) [] same did ids = absurd (omega (arith, same))
  had_turns (old ∷ olds) (new ∷ news) same did ids =
      had_turn old new new.turn refl (ids 0 old (omega arith)) (did 0 old (omega arith)) olds news
      (had_turns olds news (omega (arith, same)) (λ i d below. did (suc i) d (omega (arith, below))) (λ i d below. ids (suc i) d (omega (arith, below))))

  -- what the passes count rises by what the turns booked
  pub turns_book : (olds news : List (Worker L B N S)) (turns : List Turn) → HadTurns may opening jobs olds turns news → booked_in news ≡ booked_in olds + sum_by (λ (t : Turn). t.samples) turns
  turns_book [] [] [] had = refl
  turns_book [] [] (turn ∷ turns) had = absurd had
  turns_book [] (new ∷ news) [] had = absurd had
  turns_book [] (new ∷ news) (turn ∷ turns) had = absurd had
  turns_book (old ∷ olds) [] [] had = absurd had
  turns_book (old ∷ olds) [] (turn ∷ turns) had = absurd had
  turns_book (old ∷ olds) (new ∷ news) [] had = absurd had
  turns_book (old ∷ olds) (new ∷ news) (turn ∷ turns) had =
      let D : Option Turn → Type 0 = λ t. DidTurn may opening jobs old.id old.pass new.pass old.scrape new.scrape t in
      let did = subst D had.0.last had.0.did in
      let pass_booked : Worker L B N S → ℕ = λ w. w.pass.booked in
      let samples : Turn → ℕ = λ t. t.samples in
      omega (arith, did.1, turns_book olds news turns had.1, sum_by-append pass_booked (old ∷ []) olds, sum_by-append pass_booked (new ∷ []) news, sum_by-append samples (turn ∷ []) turns)

  -- each Take and each report of these turns has an entry
  pub turns_entered :
      (olds news : List (Worker L B N S)) (turns : List Turn) → HadTurns may opening jobs olds turns news → All IsDone turns
      → calls_in news ≡ calls_in olds + (length turns + (sum_by (λ (t : Turn). t.booked) turns + sum_by (λ (t : Turn). t.refused) turns))
  turns_entered [] [] [] had done = omega arith
  turns_entered [] [] (turn ∷ turns) had done = absurd had
  turns_entered [] (new ∷ news) [] had done = absurd had
  turns_entered [] (new ∷ news) (turn ∷ turns) had done = absurd had
  turns_entered (old ∷ olds) [] [] had done = absurd had
  turns_entered (old ∷ olds) [] (turn ∷ turns) had done = absurd had
  turns_entered (old ∷ olds) (new ∷ news) [] had done = absurd had
  turns_entered (old ∷ olds) (new ∷ news) (turn ∷ turns) had done =
      let D : Option Turn → Type 0 = λ t. DidTurn may opening jobs old.id old.pass new.pass old.scrape new.scrape t in
      let did = subst D had.0.last had.0.did in
      let here = turn_entered may opening jobs old.pass new.pass old.id old.scrape new.scrape turn (done 0 turn (omega arith)) did.0 in
      let rest = turns_entered olds news turns had.1 (λ i d below. done (suc i) d (omega (arith, below))) in
      let pass_calls : Worker L B N S → ℕ = λ w. w.pass.calls in
      let booked : Turn → ℕ = λ t. t.booked in
      let refused : Turn → ℕ = λ t. t.refused in
      let many : length (turn ∷ turns) ≡ 1 + length turns = omega arith in
      omega (arith, many, here, rest, sum_by-append pass_calls (old ∷ []) olds, sum_by-append pass_calls (new ∷ []) news, sum_by-append booked (turn ∷ []) turns, sum_by-append refused (turn ∷ []) turns)

  -- ---- one round after another

  rounds_then :
      (old mid new : List (Worker L B N S)) (rounds : List (List Turn)) (turns : List Turn) → HadRounds may opening jobs old rounds mid → HadTurns may opening jobs mid turns new
      → HadRounds may opening jobs old (rounds ++ turns ∷ []) new
  rounds_then old mid new [] turns had more =
      let H : List (Worker L B N S) → Type 0 = λ ws. HadTurns may opening jobs ws turns new in
      (new, subst H had more, refl)
  rounds_then old mid new (first ∷ rounds) turns had more = (had.0, had.1, rounds_then had.0 mid new rounds turns had.2 more)

  pub ran_none : (workers : List (Worker L B N S)) (text : List ℕ) → RanRounds may opening jobs 0 workers workers text text
  ran_none workers text =
      record {
        rounds = [];
        many = refl;
        turned = refl;
        done = All-nil (All IsDone);
        text = sym (append-nil text);
        samples = omega arith;
        calls = omega arith;
      }

  pub ran_then :
      (count : ℕ) (old mid new : List (Worker L B N S)) (turns : List Turn) (before text after : List ℕ) → RanRounds may opening jobs count old mid before text
      → HadTurns may opening jobs mid turns new → All IsDone turns → after ≡ text ++ round_line (1 + count) (sums_from no_sums turns)
      → RanRounds may opening jobs (count + 1) old new before after
  ran_then count old mid new turns before text after ran had done line =
      let D : List Turn → Type 0 = All IsDone in
      let many : List Turn → ℕ = λ ts. 1 in
      let behind : ℕ → List ℕ = λ n. round_line n (sums_from no_sums turns) in
      let numbered : behind (1 + count) ≡ behind (1 + length ran.rounds) = ap (λ n. behind (1 + n)) (sym ran.many) in
      record {
        rounds = ran.rounds ++ turns ∷ [];
        many = length-append ran.rounds (turns ∷ []) ∙ omega (arith, ran.many);
        turned = rounds_then old mid new ran.rounds turns ran.turned had;
        done = All-append D ran.rounds (turns ∷ []) ran.done (All-cons D turns [] done (All-nil D));
        text = line ∙ ap (λ t. t ++ behind (1 + count)) ran.text ∙ append_assoc before (round_lines 1 ran.rounds) (behind (1 + count)) ∙ ap (λ l. before ++ (round_lines 1 ran.rounds ++ l)) numbered ∙ ap (λ l. before ++ l) (sym (lines_then 1 ran.rounds turns));
        samples = omega (arith, ran.samples, turns_book mid new turns had, samples_sum no_sums turns, sum_by-append samples_told ran.rounds (turns ∷ []));
        calls = omega (arith, ran.calls, turns_entered mid new turns had done, booked_sum no_sums turns, refused_sum no_sums turns, sum_by-append entries_told ran.rounds (turns ∷ []));
      }
