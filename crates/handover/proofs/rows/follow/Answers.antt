use Rattle.std.proofs.Common.{◌∙◌, ℕ, sym, subst, AllPairs, ◌<◌, arith}
use Rattle.handover.specs.Spans.{without}
use Rattle.handover.proofs.PairLemmas.{all_pairs, ascends, ascends_without}
use Rattle.handover.proofs.KeptLemmas.{current_ascends, kept-same, lists_of-room, kept_follow, lists_follow, all_follow, on_err}
use Rattle.handover.proofs.rows.follow.Goals as goal

pub without-requires-clause-pairs : goal.without-requires-clause-pairs
without-requires-clause-pairs c = all_pairs 0 c.args.current.now (current_ascends c.args.number c.args.current.now c.args.rows.now.items c.requires.kept)

pub without-requires-2-clause-others : goal.without-requires-2-clause-others
without-requires-2-clause-others c = all_pairs 0 c.args.current.now (current_ascends c.args.number c.args.current.now c.args.rows.now.items c.requires.kept)

pub returns-in_err-reserve_all-clause-err_kept : goal.returns-in_err-reserve_all-clause-err_kept
returns-in_err-reserve_all-clause-err_kept c =
    on_err c.from_residual-in_err-reserve_all.result (kept-same c.args.number c.args.current.now c.args.rows.now.items c.reserve_all.new.rows.items c.requires.kept c.in_err-reserve_all.ensures.spans c.in_err-reserve_all.ensures.most)

pub returns-in_err-reserve_all-clause-err_lists : goal.returns-in_err-reserve_all-clause-err_lists
returns-in_err-reserve_all-clause-err_lists c =
    on_err c.from_residual-in_err-reserve_all.result (lists_of-room c.args.rows.now.items c.reserve_all.new.rows.items c.args.number c.in_err-reserve_all.ensures.spans)

pub open_all-requires-clause-ascending : goal.open_all-requires-clause-ascending
open_all-requires-clause-ascending c =
    let added = without c.args.current.now c.args.pairs.now in
    let up : AllPairs (λ (a b : ℕ × ℕ). a.0 < b.0) added = all_pairs 0 added (ascends_without c.args.current.now c.args.pairs.now 0 (ascends c.args.pairs.now c.requires.ascending)) in
    subst (AllPairs (λ (a b : ℕ × ℕ). a.0 < b.0)) (sym (c.as_slice-3.ensures.value ∙ c.in_ok-added.ensures)) up

pub returns-clause-kept : goal.returns-clause-kept
returns-clause-kept c =
    let follow = all_follow c.args.number c.args.current.now c.args.pairs.now c.args.rows.now.items c.requires.kept c.requires.ascending c.requires.numbers c.as_slice-2.result.now c.as_slice-3.result.now c.reserve_all.new.rows.items c.close_all.new.rows.items c.open_all.new.rows.items
    (c.as_slice-2.ensures.value ∙ c.in_ok-dropped.ensures) (c.as_slice-3.ensures.value ∙ c.in_ok-added.ensures) c.in_ok-reserve_all.ensures.spans c.close_all.ensures.spans c.open_all.ensures.spans in
    kept_follow c.args.number c.args.pairs.now c.args.rows.now.items c.open_all.new.rows.items c.requires.ascending follow (omega (arith, c.in_ok-reserve_all.ensures.most, c.close_all.ensures.len, c.open_all.ensures.len))

pub returns-clause-lists : goal.returns-clause-lists
returns-clause-lists c =
    let follow = all_follow c.args.number c.args.current.now c.args.pairs.now c.args.rows.now.items c.requires.kept c.requires.ascending c.requires.numbers c.as_slice-2.result.now c.as_slice-3.result.now c.reserve_all.new.rows.items c.close_all.new.rows.items c.open_all.new.rows.items
    (c.as_slice-2.ensures.value ∙ c.in_ok-dropped.ensures) (c.as_slice-3.ensures.value ∙ c.in_ok-added.ensures) c.in_ok-reserve_all.ensures.spans c.close_all.ensures.spans c.open_all.ensures.spans in
    lists_follow c.args.number c.args.pairs.now c.args.rows.now.items c.open_all.new.rows.items c.requires.ascending follow
