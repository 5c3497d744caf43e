-- What a seat asks is a script.
use Rattle.std.proofs.Common.{◌≡◌, ◌≢◌, ◌⊎◌, inl, inr, ◌==◌, ◌&&◌, ◌++◌, ℕ, zero, suc, ◌+◌, ◌<◌, ◌≤◌, Bool, true, false, List, [], ◌∷◌, Option, Some, None, cond, refl, sym, ap, subst, ◌∙◌, arith}
use Rattle.std.specs.Prelude.{is_none, nat_le, nat_lt, not}
use Rattle.std.specs.List.{list_all}
use Rattle.std.specs.Option.{option_map_or}
use Rattle.std.proofs.lemmas.Bool.{and_from, and_left, and_parts, cases_Bool, cond-false, cond-true, eq-eqb, eqb-false, eqb-true, le-leb, ltb-true, ne_eqb}
use Rattle.etcd_laws.specs.Scripts.{IsMade, IsScript, writes_in}
use Rattle.etcd_laws.specs.Stores.{Block, Request, Claim, Write, Remove, Switch as Switches, Forget as Forgets, Store, after, created_at, created_of, done, is_of, leads, passes}
use Rattle.etcd_answers.specs.Verdicts.{found_at}
use Rattle.etcd_answers.specs.declared.answer.Answer.{Answer}
use Rattle.etcd_answers.specs.declared.found.Found.{Found}
use Rattle.etcd_answers.specs.declared.verdict.Verdict.{Verdict}
use Rattle.etcd_answers.specs.declared.verdict.Verdict.TheVariants.{Kept, Deposed, Unknown as NotKnown}
use Rattle.etcd_terms.specs.declared.seat.Seat.{Seat}
use Rattle.etcd_terms.specs.declared.seat.Wish.{Wish}
use Rattle.etcd_terms.specs.declared.seat.Wish.TheVariants.{Append, Cut, Look, Clear, Fill, Switch, Forget}
use Rattle.etcd_terms.specs.declared.seat.Ahead.{Ahead}
use Rattle.etcd_terms.specs.declared.seat.Ahead.TheVariants.{Unknown, Left, Has}
use Rattle.etcd_terms.specs.Laws.{AsksAScript}
use Rattle.etcd_terms.specs.Runs.{AreTrue, HasNext, IsAhead, IsEnd, IsFound, IsFree, IsSeen, IsUnwritten, Stands, Turn, Wishes, Hears, Ends, done_all, is_looking, requests_of, script}
use Rattle.etcd_terms.specs.Seats.{ahead_of, ended, filled, heard, is_filled, is_granted, is_left, is_unknown, judged, kept, leads_verdict, left_at, may, may_fill, settled, up, verdict_of}

up_is : (n : ℕ) → n < 4294967295 → up n ≡ suc n
up_is n below = omega (arith, below)

-- ---- an epoch in another store

record Same (old new : Store) (epoch : ℕ) : Type 0 where
  blocks : (n : ℕ) → created_at new epoch n ≡ created_at old epoch n
  revision : old.revision ≤ new.revision

free_kept : (old new : Store) (epoch number : ℕ) → Same old new epoch → IsFree old epoch number → IsFree new epoch number
free_kept old new epoch number same free n above = same.blocks n ∙ free n above

seen_kept : (old new : Store) (epoch number created : ℕ) → Same old new epoch → IsSeen old epoch number created → IsSeen new epoch number created
seen_kept old new epoch number created same seen = record { some = seen.some; before = omega (arith, seen.before, same.revision); there = same.blocks number ∙ seen.there }

end_kept : (old new : Store) (asked more : List Request) (epoch next torn : ℕ) → Same old new epoch → (IsUnwritten epoch asked → IsUnwritten epoch more) → IsEnd old asked epoch next torn → IsEnd new more epoch next torn
end_kept old new asked more epoch next zero same unwritten e = free_kept old new epoch next same e
end_kept old new asked more epoch next (suc before) same unwritten e = (seen_kept old new epoch next (suc before) same e.0, unwritten e.1)

ahead_kept : (old new : Store) (asked more : List Request) (epoch : ℕ) (ahead : Ahead) → Same old new epoch → (IsUnwritten epoch asked → IsUnwritten epoch more) → IsAhead old asked epoch ahead → IsAhead new more epoch ahead
ahead_kept old new asked more epoch Unknown same unwritten a = unwritten a
ahead_kept old new asked more epoch (Left created) same unwritten a = (seen_kept old new epoch 0 created same a.0, unwritten a.1)
ahead_kept old new asked more epoch (Has zero) same unwritten a = (free_kept old new epoch 0 same a.0, unwritten a.1)
ahead_kept old new asked more epoch (Has (suc before)) same unwritten a = free_kept old new epoch (suc before) same a

-- ---- what a request leaves

elsewhere : (b c : Bool) (x y : Option Block) → b ≡ false → created_of (cond (b && c) x y) ≡ created_of y
elsewhere true c x y e = absurd (cc e)
elsewhere false c x y e = refl

beside : (b c : Bool) (x y : Option Block) → c ≡ false → created_of (cond (b && c) x y) ≡ created_of y
beside true true x y e = absurd (cc e)
beside true false x y e = refl
beside false c x y e = refl

gone : (b c : Bool) (y : Option Block) → b ≡ true → c ≡ true → created_of (cond (b && c) None y) ≡ 0
gone true true y e f = refl
gone true false y e f = absurd (cc f)
gone false c y e f = absurd (cc e)

write_same : (s : Store) (t g e0 n0 : ℕ) (block : List ℕ) (epoch : ℕ) → epoch ≢ e0 → Same s (done s (Write t g e0 n0 block)) epoch
write_same s t g e0 n0 block epoch other =
    record {
      blocks = λ n. elsewhere (epoch == e0) (n == n0) (Some (record { created = s.revision; bytes = block })) (s.blocks epoch n) (ne_eqb epoch e0 other);
      revision = omega arith;
    }

write_free : (s : Store) (t g epoch number : ℕ) (block : List ℕ) → IsFree s epoch number → IsFree (done s (Write t g epoch number block)) epoch (suc number)
write_free s t g epoch number block free n above =
    beside (epoch == epoch) (n == number) (Some (record { created = s.revision; bytes = block })) (s.blocks epoch n) (ne_eqb n number (λ same. absurd (omega (arith, above, same)))) ∙ free n (omega (arith, above))

remove_same : (s : Store) (t g e0 n0 created epoch : ℕ) → epoch ≢ e0 → Same s (done s (Remove t g e0 n0 created)) epoch
remove_same s t g e0 n0 created epoch other =
    record {
      blocks = λ n. elsewhere (epoch == e0) (nat_le n0 n) None (s.blocks epoch n) (ne_eqb epoch e0 other);
      revision = omega arith;
    }

remove_free : (s : Store) (t g epoch number created : ℕ) → IsFree (done s (Remove t g epoch number created)) epoch number
remove_free s t g epoch number created n above = gone (epoch == epoch) (nat_le number n) (s.blocks epoch n) (eq-eqb epoch epoch refl) (le-leb number n above)

forget_same : (s : Store) (t e0 epoch : ℕ) → epoch ≢ e0 → Same s (done s (Forgets t e0)) epoch
forget_same s t e0 epoch other =
    record {
      blocks = λ n. elsewhere (epoch == e0) (nat_le 0 n) None (s.blocks epoch n) (ne_eqb epoch e0 other);
      revision = omega arith;
    }

-- ---- what was asked

wrote_other : (t g e0 n0 : ℕ) (block : List ℕ) (asked : List Request) (epoch : ℕ) → epoch ≢ e0 → IsUnwritten epoch asked → IsUnwritten epoch (Write t g e0 n0 block ∷ asked)
wrote_other t g e0 n0 block asked epoch other unwritten =
    ap (λ (b : Bool). not b && list_all (λ r. not (writes_in epoch r)) asked) (ne_eqb e0 epoch (λ same. other (sym same))) ∙ unwritten

-- ---- one request of a seat

-- it is one of a script, and behind it the seat stands as it does when it is done
record Made (t : ℕ) (store : Store) (asked : List Request) (r : Request) (s : Seat) : Type 0 where
  of : is_of t r ≡ true
  passes : passes store r ≡ true
  made : IsMade store asked r
  stands : Stands t (done store r) (r ∷ asked) s

three : (a b c : Bool) → a ≡ true → b ≡ true → c ≡ true → (a && (b && c)) ≡ true
three a b c x y z = and_from a (b && c) x (and_from b c y z)

end_free : (store : Store) (asked : List Request) (epoch next torn : ℕ) → torn ≡ 0 → IsEnd store asked epoch next torn → IsFree store epoch next
end_free store asked epoch next torn e h = subst (IsEnd store asked epoch next) e h

end_seen : (store : Store) (asked : List Request) (epoch next torn : ℕ) → torn ≢ 0 → IsEnd store asked epoch next torn → IsSeen store epoch next torn × IsUnwritten epoch asked
end_seen store asked epoch next zero e h = absurd (e refl)
end_seen store asked epoch next (suc before) e h = h

ahead_free : (store : Store) (asked : List Request) (epoch count : ℕ) → IsAhead store asked epoch (Has count) → IsFree store epoch count
ahead_free store asked epoch zero h = h.0
ahead_free store asked epoch (suc before) h = h

not_eq : (a b : ℕ) → not (a == b) ≡ true → a ≢ b
not_eq a b e same = cc (e, eq-eqb a b same)

append_made : (t : ℕ) (store : Store) (asked : List Request) (s : Seat) (block : List ℕ) → Stands t store asked s → may s (Append block) ≡ true → Made t store asked (Write t s.going s.going s.next block) (settled s (Append block))
append_made t store asked s block st m =
    let parts = and_parts (s.torn == 0) (not (s.going == 0) && nat_lt s.next 4294967295) m in
    let whole : s.torn ≡ 0 = eqb-true s.torn 0 parts.0 in
    let below : s.next < 4294967295 = ltb-true s.next 4294967295 (and_parts (not (s.going == 0)) (nat_lt s.next 4294967295) parts.1).1 in
    let free = end_free store asked s.going s.next s.torn whole st.«end» in
    let r = Write t s.going s.going s.next block in
    record {
      of = eq-eqb t t refl;
      passes = three (leads store.leader t) (store.epoch == s.going) (created_at store s.going s.next == 0) st.leads (eq-eqb store.epoch s.going st.epoch) (eq-eqb (created_at store s.going s.next) 0 (free s.next (omega arith)));
      made = omega arith;
      stands =
          record {
            leads = st.leads;
            epoch = st.epoch;
            some = omega arith;
            numbers = st.numbers;
            «end» =
                subst
                (λ (n : ℕ). IsEnd (done store r) (r ∷ asked) s.going n s.torn)
                (sym (up_is s.next below))
                (subst (IsEnd (done store r) (r ∷ asked) s.going (suc s.next)) (sym whole) (write_free store t s.going s.going s.next block free));
            ahead =
                ahead_kept store (done store r) asked (r ∷ asked) (s.going + 1) s.ahead (write_same store t s.going s.going s.next block (s.going + 1) (λ same. absurd (omega (arith, same))))
                (wrote_other t s.going s.going s.next block asked (s.going + 1) (λ same. absurd (omega (arith, same))))
                st.ahead;
            later = λ epoch above. wrote_other t s.going s.going s.next block asked epoch (λ same. absurd (omega (arith, above, same))) (st.later epoch above);
          };
    }

cut_made : (t : ℕ) (store : Store) (asked : List Request) (s : Seat) → Stands t store asked s → may s Cut ≡ true → Made t store asked (Remove t s.going s.going s.next s.torn) (settled s Cut)
cut_made t store asked s st m =
    let seen = end_seen store asked s.going s.next s.torn (not_eq s.torn 0 m) st.«end» in
    let r = Remove t s.going s.going s.next s.torn in
    record {
      of = eq-eqb t t refl;
      passes = three (leads store.leader t) (store.epoch == s.going) (created_at store s.going s.next == s.torn) st.leads (eq-eqb store.epoch s.going st.epoch) (eq-eqb (created_at store s.going s.next) s.torn seen.0.there);
      made = (seen.0.some, seen.0.before, seen.1);
      stands =
          record {
            leads = st.leads;
            epoch = st.epoch;
            some = omega arith;
            numbers = st.numbers;
            «end» = remove_free store t s.going s.going s.next s.torn;
            ahead =
                ahead_kept store (done store r) asked (r ∷ asked) (s.going + 1) s.ahead (remove_same store t s.going s.going s.next s.torn (s.going + 1) (λ same. absurd (omega (arith, same)))) (λ u. u) st.ahead;
            later = λ epoch above. st.later epoch above;
          };
    }

clear_made : (t : ℕ) (store : Store) (asked : List Request) (s : Seat) (ahead : Ahead) → s.ahead ≡ ahead → Stands t store asked s → is_left ahead ≡ true → Made t store asked (Remove t s.going (up s.going) 0 (left_at s.ahead)) (settled s Clear)
clear_made t store asked s Unknown is st m = absurd (cc m)
clear_made t store asked s (Has count) is st m = absurd (cc m)
clear_made t store asked s (Left created) is st m =
    let below : s.going < 4294967295 = subst (λ (a : Ahead). HasNext a s.going) is st.numbers in
    let known : IsSeen store (s.going + 1) 0 created × IsUnwritten (s.going + 1) asked = subst (IsAhead store asked (s.going + 1)) is st.ahead in
    let next : up s.going ≡ s.going + 1 = omega (arith, below) in
    let at : left_at s.ahead ≡ created = ap left_at is in
    let r = Remove t s.going (s.going + 1) 0 created in
    subst
    (λ (n : ℕ). Made t store asked (Remove t s.going n 0 (left_at s.ahead)) (settled s Clear))
    (sym next)
    (subst
    (λ (c : ℕ). Made t store asked (Remove t s.going (s.going + 1) 0 c) (settled s Clear))
    (sym at)
    (record {
      of = eq-eqb t t refl;
      passes = three (leads store.leader t) (store.epoch == s.going) (created_at store (s.going + 1) 0 == created) st.leads (eq-eqb store.epoch s.going st.epoch) (eq-eqb (created_at store (s.going + 1) 0) created known.0.there);
      made = (known.0.some, known.0.before, known.1);
      stands =
          record {
            leads = st.leads;
            epoch = st.epoch;
            some = omega arith;
            numbers = (below, omega arith);
            «end» = end_kept store (done store r) asked (r ∷ asked) s.going s.next s.torn (remove_same store t s.going (s.going + 1) 0 created s.going (λ same. absurd (omega (arith, same)))) (λ u. u) st.«end»;
            ahead = (remove_free store t s.going (s.going + 1) 0 created, known.1);
            later = λ epoch above. st.later epoch above;
          };
    }))

fill_made : (t : ℕ) (store : Store) (asked : List Request) (s : Seat) (block : List ℕ) (ahead : Ahead) → s.ahead ≡ ahead → Stands t store asked s → may_fill ahead ≡ true → Made t store asked (Write t s.going (up s.going) (filled s.ahead) block) (settled s (Fill block))
fill_made t store asked s block Unknown is st m = absurd (cc m)
fill_made t store asked s block (Left created) is st m = absurd (cc m)
fill_made t store asked s block (Has count) is st m =
    let numbers : (s.going < 4294967295) × (count ≤ 4294967295) = subst (λ (a : Ahead). HasNext a s.going) is st.numbers in
    let below : s.going < 4294967295 = numbers.0 in
    let fewer : count < 4294967295 = ltb-true count 4294967295 m in
    let free : IsFree store (s.going + 1) count = ahead_free store asked (s.going + 1) count (subst (IsAhead store asked (s.going + 1)) is st.ahead) in
    let next : up s.going ≡ s.going + 1 = omega (arith, below) in
    let at : filled s.ahead ≡ count = ap filled is in
    let more : up (filled s.ahead) ≡ suc count = ap up at ∙ up_is count fewer in
    let r = Write t s.going (s.going + 1) count block in
    subst
    (λ (n : ℕ). Made t store asked (Write t s.going n (filled s.ahead) block) (settled s (Fill block)))
    (sym next)
    (subst
    (λ (c : ℕ). Made t store asked (Write t s.going (s.going + 1) c block) (settled s (Fill block)))
    (sym at)
    (record {
      of = eq-eqb t t refl;
      passes = three (leads store.leader t) (store.epoch == s.going) (created_at store (s.going + 1) count == 0) st.leads (eq-eqb store.epoch s.going st.epoch) (eq-eqb (created_at store (s.going + 1) count) 0 (free count (omega arith)));
      made = omega arith;
      stands =
          record {
            leads = st.leads;
            epoch = st.epoch;
            some = omega arith;
            numbers = (below, subst (λ (n : ℕ). n ≤ 4294967295) (sym more) (omega (arith, fewer)));
            «end» =
                end_kept store (done store r) asked (r ∷ asked) s.going s.next s.torn (write_same store t s.going (s.going + 1) count block s.going (λ same. absurd (omega (arith, same))))
                (wrote_other t s.going (s.going + 1) count block asked s.going (λ same. absurd (omega (arith, same))))
                st.«end»;
            ahead = subst (λ (n : ℕ). IsAhead (done store r) (r ∷ asked) (s.going + 1) (Has n)) (sym more) (write_free store t s.going (s.going + 1) count block free);
            later = λ epoch above. wrote_other t s.going (s.going + 1) count block asked epoch (λ same. absurd (omega (arith, above, same))) (st.later epoch above);
          };
    }))

switch_made : (t : ℕ) (store : Store) (asked : List Request) (s : Seat) (ahead : Ahead) → s.ahead ≡ ahead → Stands t store asked s → is_filled ahead ≡ true → Made t store asked (Switches t s.going) (settled s Switch)
switch_made t store asked s Unknown is st m = absurd (cc m)
switch_made t store asked s (Left created) is st m = absurd (cc m)
switch_made t store asked s (Has count) is st m =
    let numbers : (s.going < 4294967295) × (count ≤ 4294967295) = subst (λ (a : Ahead). HasNext a s.going) is st.numbers in
    let free : IsFree store (s.going + 1) count = ahead_free store asked (s.going + 1) count (subst (IsAhead store asked (s.going + 1)) is st.ahead) in
    let below : s.going < 4294967295 = numbers.0 in
    let next : up s.going ≡ s.going + 1 = omega (arith, below) in
    let at : filled s.ahead ≡ count = ap filled is in
    let r = Switches t s.going in
    record {
      of = eq-eqb t t refl;
      passes = and_from (leads store.leader t) (store.epoch == s.going) st.leads (eq-eqb store.epoch s.going st.epoch);
      made = tt;
      stands =
          record {
            leads = st.leads;
            epoch = sym next;
            some = omega arith;
            numbers = omega arith;
            «end» = subst (λ (n : ℕ). IsFree (done store r) n (filled s.ahead)) (sym next) (subst (IsFree (done store r) (s.going + 1)) (sym at) free);
            ahead = st.later (up s.going + 1) (omega (arith, next));
            later = λ epoch above. st.later epoch (omega (arith, above, next));
          };
    }

forget_made : (t : ℕ) (store : Store) (asked : List Request) (s : Seat) (epoch : ℕ) → Stands t store asked s → may s (Forget epoch) ≡ true → Made t store asked (Forgets t epoch) (settled s (Forget epoch))
forget_made t store asked s e0 st m =
    let over : e0 < s.going = ltb-true e0 s.going m in
    let r = Forgets t e0 in
    record {
      of = eq-eqb t t refl;
      passes = st.leads;
      made = omega (arith, over, st.epoch);
      stands =
          record {
            leads = st.leads;
            epoch = st.epoch;
            some = omega arith;
            numbers = st.numbers;
            «end» = end_kept store (done store r) asked (r ∷ asked) s.going s.next s.torn (forget_same store t e0 s.going (λ same. absurd (omega (arith, over, same)))) (λ u. u) st.«end»;
            ahead = ahead_kept store (done store r) asked (r ∷ asked) (s.going + 1) s.ahead (forget_same store t e0 (s.going + 1) (λ same. absurd (omega (arith, over, same)))) (λ u. u) st.ahead;
            later = λ epoch above. st.later epoch above;
          };
    }

-- ---- turns

-- what a look that is asked knows
abbrev Looks : Seat → Wish → Type 0
Looks s (Append block) = Unit {0}
Looks s Cut = Unit {0}
Looks s Look = (s.ahead ≡ Unknown) × (s.going < 4294967295)
Looks s Clear = Unit {0}
Looks s (Fill block) = Unit {0}
Looks s Switch = Unit {0}
Looks s (Forget epoch) = Unit {0}

-- a seat stands behind what it has asked
abbrev Live : ℕ → Store → List Request → Seat → Option Wish → Type 0
Live t store asked s None = Stands t store asked s
Live t store asked s (Some wish) = Stands t store asked (settled s wish) × Looks s wish

abbrev Good : ℕ → Store → List Request → Seat → Type 0
Good t store asked s = ((s.is_over ≡ true) × (s.asked ≡ None)) ⊎ Live t store asked s s.asked

-- what is shown of all turns that follow
abbrev Goes : ℕ → List ℕ → List Turn → Type 0
Goes t term turns = (store : Store) (asked : List Request) (s : Seat) → Good t store asked s → AreTrue t term store s turns → IsScript t store asked (script t term s turns)

asks_one : (t : ℕ) (term : List ℕ) (store : Store) (asked : List Request) (s new : Seat) (r : Request) (turns : List Turn) → Made t store asked r new → (Stands t (done store r) (r ∷ asked) new → Good t (done store r) (r ∷ asked) s)
    → AreTrue t term (after store r) s turns → Goes t term turns → IsScript t store asked (r ∷ script t term s turns)
asks_one t term store asked s new r turns m good tr go =
    let same : after store r ≡ done store r = cond-true (passes store r) (done store r) store m.passes in
    ((m.of, m.passes, m.made), go (after store r) (r ∷ asked) s (subst (λ (x : Store). Good t x (r ∷ asked) s) (sym same) (good m.stands)) tr)

unknown_is : (ahead : Ahead) → is_unknown ahead ≡ true → ahead ≡ Unknown
unknown_is Unknown e = refl
unknown_is (Left created) e = absurd (cc e)
unknown_is (Has count) e = absurd (cc e)

-- the seat without what it asks
still_stands : (t : ℕ) (store : Store) (asked : List Request) (s : Seat) (o : Option Wish) → Stands t store asked s → Stands t store asked (record s { asked = o })
still_stands t store asked s o st = record { leads = st.leads; epoch = st.epoch; some = st.some; numbers = st.numbers; «end» = st.«end»; ahead = st.ahead; later = st.later }

wishing : (t : ℕ) (term : List ℕ) (store : Store) (asked : List Request) (s : Seat) (wish : Wish) (turns : List Turn) → Stands t store asked s → may s wish ≡ true
    → AreTrue t term (done_all store (requests_of t s wish)) (record s { asked = Some wish }) turns → Goes t term turns → IsScript t store asked (requests_of t s wish ++ script t term (record s { asked = Some wish }) turns)
wishing t term store asked s (Append block) turns st m tr go =
    asks_one t term store asked (record s { asked = Some (Append block) }) (settled s (Append block)) (Write t s.going s.going s.next block) turns (append_made t store asked s block st m) (λ x. inr (x, tt)) tr go
wishing t term store asked s Cut turns st m tr go =
    asks_one t term store asked (record s { asked = Some Cut }) (settled s Cut) (Remove t s.going s.going s.next s.torn) turns (cut_made t store asked s st m) (λ x. inr (x, tt)) tr go
wishing t term store asked s Look turns st m tr go =
    let parts = and_parts (is_unknown s.ahead) (nat_lt s.going 4294967295) m in
    go store asked (record s { asked = Some Look }) (inr (still_stands t store asked s None st, (unknown_is s.ahead parts.0, ltb-true s.going 4294967295 parts.1))) tr
wishing t term store asked s Clear turns st m tr go =
    asks_one t term store asked (record s { asked = Some Clear }) (settled s Clear) (Remove t s.going (up s.going) 0 (left_at s.ahead)) turns (clear_made t store asked s s.ahead refl st m) (λ x. inr (x, tt)) tr go
wishing t term store asked s (Fill block) turns st m tr go =
    asks_one t term store asked (record s { asked = Some (Fill block) }) (settled s (Fill block)) (Write t s.going (up s.going) (filled s.ahead) block) turns (fill_made t store asked s block s.ahead refl st m) (λ x. inr (x, tt)) tr go
wishing t term store asked s Switch turns st m tr go =
    asks_one t term store asked (record s { asked = Some Switch }) (settled s Switch) (Switches t s.going) turns (switch_made t store asked s s.ahead refl st m) (λ x. inr (x, tt)) tr go
wishing t term store asked s (Forget epoch) turns st m tr go =
    asks_one t term store asked (record s { asked = Some (Forget epoch) }) (settled s (Forget epoch)) (Forgets t epoch) turns (forget_made t store asked s epoch st m) (λ x. inr (x, tt)) tr go

none_is : (o : Option Wish) → is_none o ≡ true → o ≡ None
none_is None e = refl
none_is (Some wish) e = absurd (cc e)

not_over : (t : ℕ) (store : Store) (asked : List Request) (s : Seat) → Good t store asked s → not s.is_over ≡ true → is_none s.asked ≡ true → Stands t store asked s
not_over t store asked s (inl over) live none = absurd (cc (live, over.0))
not_over t store asked s (inr stands) live none = subst (Live t store asked s) (none_is s.asked none) stands

granted : (t : ℕ) (term : List ℕ) (store : Store) (asked : List Request) (s : Seat) (wish : Wish) (turns : List Turn) (b : Bool) → is_granted s wish ≡ b → Good t store asked s
    → AreTrue t term (done_all store (cond b (requests_of t s wish) [])) (cond b (record s { asked = Some wish }) s) turns → Goes t term turns
    → IsScript t store asked (cond b (requests_of t s wish) [] ++ script t term (cond b (record s { asked = Some wish }) s) turns)
granted t term store asked s wish turns false e good tr go = go store asked s good tr
granted t term store asked s wish turns true e good tr go =
    let first = and_parts (not s.is_over) (is_none s.asked && may s wish) e in
    let second = and_parts (is_none s.asked) (may s wish) first.1 in
    wishing t term store asked s wish turns (not_over t store asked s good first.0 second.0) second.1 tr go

found_ahead : (t : ℕ) (store : Store) (asked : List Request) (s : Seat) (found : List Found) → Stands t store asked s → s.ahead ≡ Unknown → s.going < 4294967295 → IsFound store (s.going + 1) (ahead_of found)
    → Stands t store asked (record s { ahead = ahead_of found; asked = None })
found_ahead t store asked s [] st is below found =
    let unwritten : IsUnwritten (s.going + 1) asked = subst (IsAhead store asked (s.going + 1)) is st.ahead in
    record { leads = st.leads; epoch = st.epoch; some = st.some; numbers = (below, omega arith); «end» = st.«end»; ahead = (found, unwritten); later = st.later }
found_ahead t store asked s (f ∷ more) st is below found =
    let unwritten : IsUnwritten (s.going + 1) asked = subst (IsAhead store asked (s.going + 1)) is st.ahead in
    record { leads = st.leads; epoch = st.epoch; some = st.some; numbers = below; «end» = st.«end»; ahead = (found, unwritten); later = st.later }

kept_good : (t : ℕ) (term : List ℕ) (store : Store) (asked : List Request) (s : Seat) (answer : Answer) (wish : Wish) → Live t store asked s (Some wish) → verdict_of term s answer wish ≡ Kept
    → (is_looking (Some wish) → leads_verdict term s.going answer ≡ Kept → IsFound store (s.going + 1) (ahead_of (found_at 2 answer))) → Good t store asked (kept s answer wish)
kept_good t term store asked s answer (Append block) live is found = inr live.0
kept_good t term store asked s answer Cut live is found = inr live.0
kept_good t term store asked s answer Look live is found =
    inr (found_ahead t store asked s (found_at 2 answer) (still_stands t store asked (record s { asked = None }) s.asked live.0) live.1.0 live.1.1 (found tt is))
kept_good t term store asked s answer Clear live is found = inr live.0
kept_good t term store asked s answer (Fill block) live is found = inr live.0
kept_good t term store asked s answer Switch live is found = inr live.0
kept_good t term store asked s answer (Forget epoch) live is found = inr live.0

judged_good : (t : ℕ) (term : List ℕ) (store : Store) (asked : List Request) (s : Seat) (answer : Answer) (wish : Wish) (v : Verdict) → verdict_of term s answer wish ≡ v → s.asked ≡ Some wish → Live t store asked s (Some wish)
    → (is_looking (Some wish) → leads_verdict term s.going answer ≡ Kept → IsFound store (s.going + 1) (ahead_of (found_at 2 answer))) → Good t store asked (judged s answer wish v)
judged_good t term store asked s answer wish Kept is e live found = kept_good t term store asked s answer wish live is found
judged_good t term store asked s answer wish Deposed is e live found = inl (refl, refl)
judged_good t term store asked s answer wish NotKnown is e live found = inr (subst (Live t store asked s) (sym e) live)

live_heard : (t : ℕ) (term : List ℕ) (store : Store) (asked : List Request) (s : Seat) (answer : Answer) (o : Option Wish) → s.asked ≡ o → Live t store asked s o
    → (is_looking o → leads_verdict term s.going answer ≡ Kept → IsFound store (s.going + 1) (ahead_of (found_at 2 answer))) → Good t store asked (option_map_or (λ wish. judged s answer wish (verdict_of term s answer wish)) o s)
live_heard t term store asked s answer None e live found = inr (subst (Live t store asked s) (sym e) live)
live_heard t term store asked s answer (Some wish) e live found = judged_good t term store asked s answer wish (verdict_of term s answer wish) refl e live found

heard_good : (t : ℕ) (term : List ℕ) (store : Store) (asked : List Request) (s : Seat) (answer : Answer) → Good t store asked s
    → (is_looking s.asked → leads_verdict term s.going answer ≡ Kept → IsFound store (s.going + 1) (ahead_of (found_at 2 answer))) → Good t store asked (heard term s answer)
heard_good t term store asked s answer (inl over) found =
    subst (Good t store asked) (sym (ap (λ (o : Option Wish). option_map_or (λ wish. judged s answer wish (verdict_of term s answer wish)) o s) over.1)) (inl over)
heard_good t term store asked s answer (inr live) found = live_heard t term store asked s answer s.asked refl live found

go_on : (t : ℕ) (term : List ℕ) (turns : List Turn) → Goes t term turns
go_on t term [] store asked s good tr = tt
go_on t term (Wishes wish ∷ turns) store asked s good tr = granted t term store asked s wish turns (is_granted s wish) refl good tr (go_on t term turns)
go_on t term (Hears answer ∷ turns) store asked s good tr = go_on t term turns store asked (heard term s answer) (heard_good t term store asked s answer good tr.0) tr.1
go_on t term (Ends ∷ turns) store asked s good tr = go_on t term turns store asked (ended s) (inl (refl, refl)) tr

pub asks_a_script : AsksAScript
asks_a_script t term store s turns st none tr = go_on t term turns store [] s (inr (subst (Live t store [] s) (sym none) st)) tr
