use Rattle.std.proofs.Common.{◌≡◌, ℕ, ◌+◌, List, [], ◌∷◌, ◌++◌, drop, false, Some, string_bytes, sym, ap, ◌∙◌, subst, arith, rules, append_assoc, append-nil}
use Rattle.std.specs.Prelude.{IsUtf8, option_and_then}
use Rattle.std.proofs.lemmas.List.{drop_more, drop_all}
use Rattle.std.proofs.lemmas.Result.{on_ok_weaker}
use Rattle.std.specs.List.Sorted.{IsStrictlySortedBy}
use Rattle.std.specs.Map.{keys_of}
use Rattle.std.specs.String.{string_cmp}
use Rattle.json.specs.Json as json
use Rattle.json.specs.Print.{token_text}
use Rattle.json.specs.Token.{key}
use Rattle.serde_json.specs.Data.{array, object, put}
use Rattle.serde_json.specs.Read.{of_members}
use Rattle.serde_json.specs.View.{view, items_view, members_view}
use Rattle.serde_json.specs.Written.{comma_if}
use Rattle.serde_json.proofs.Views.{Entry, put_last}
use Rattle.json_pieces.specs.Texts.{WritesValue}
use Rattle.json_pieces.proofs.Steps.{WritesItems, WritesMembers, behind, next_item, no_item, whole_array, next_member, no_member, whole_object}
use Rattle.json_pieces.proofs.writing.+write.Goals as goal

pub write_items-loop-item-init : goal.write_items-loop-item-init
write_items-loop-item-init g t c = (91 ∷ [], c.in_ok-write_piece.ensures, λ rest r. whole_array _ rest r)

pub write_items-loop-item-preserved : goal.write_items-loop-item-preserved
write_items-loop-item-preserved g t c =
    let l = c.loop-item in
    let xs = c.deref-item-items.result.now in
    let x = c.item-item.result in
    let left = drop (l.item-index + 1) xs in
    let comma = comma_if l.is_later in
    let before = l.invariant.0 in
    let w = c.in_ok-write.ensures in
    let here : drop l.item-index xs ≡ x ∷ left = drop_more xs l.item-index x (omega arith) ∙ ap (λ y. y ∷ left) (sym c.item-item.is) in
    let apart : g.P.Pieces.grows l.out c.write_piece-in-loop-item.new.self comma = subst (g.P.Pieces.grows l.out c.write_piece-in-loop-item.new.self) c.comma.ensures c.in_ok-write_piece-2.ensures in
    let next : g.P.Pieces.grows l.out c.write.new.out (comma ++ w.0) = g.met.P.Pieces.joins l.out c.write_piece-in-loop-item.new.self c.write.new.out comma w.0 apart w.1 in (
      before ++ (comma ++ w.0),
      g.met.P.Pieces.joins c.args.out.now l.out c.write.new.out before (comma ++ w.0) l.invariant.1 next,
      λ rest r.
          subst (WritesValue (array (items_view xs))) (behind before comma w.0 rest)
          (l.invariant.2 (comma ++ (w.0 ++ rest)) (subst (λ ys. WritesItems l.is_later (items_view ys) (comma ++ (w.0 ++ rest))) (sym here) (next_item l.is_later (view x) (items_view left) w.0 rest w.2 r))),
    )

pub write_items-returns : goal.write_items-returns
write_items-returns g t c =
    let l = c.loop-item in
    let xs = c.deref-item-items.result.now in
    let before = l.invariant.0 in
    let end : List ℕ = 93 ∷ [] in
    let none : drop l.item-index xs ≡ [] = drop_all l.item-index xs (omega arith) in
    let whole : WritesValue (array (items_view xs)) (before ++ end) = l.invariant.2 end (subst (λ ys. WritesItems l.is_later (items_view ys) end) (sym none) (no_item l.is_later)) in
    on_ok_weaker c.write_piece-2.result (λ e. (
      before ++ end,
      g.met.P.Pieces.joins c.args.out.now l.out c.write_piece-2.new.self before end l.invariant.1 e,
      subst (λ ys. WritesValue (array (items_view ys)) (before ++ end)) c.deref-item-items.ensures.value whole,
    )) c.write_piece-2.ensures

pub write_members-loop-name-init : goal.write_members-loop-name-init
write_members-loop-name-init g t c =
    let same : c.args.members.now.entries ≡ c.into_iter-name-iterator.result = search rules in (
      123 ∷ [],
      c.in_ok-write_piece.ensures,
      [],
      same,
      λ ms rest r reads. whole_object ms (members_view c.args.members.now.entries) rest (subst (λ es. WritesMembers false ms (members_view es) rest) (sym same) r) reads,
    )

pub write_members-loop-name-preserved : goal.write_members-loop-name-preserved
write_members-loop-name-preserved g t c =
    let l = c.loop-name in
    let before = l.invariant.0 in
    let done = l.invariant.2 in
    let e : Entry = (c.in-Some.name.now, c.in-Some.member.now) in
    let k = string_bytes c.in-Some.name.now in
    let left = c.next.new.self in
    let step : l.name-iterator ≡ e ∷ left = c.in-Some.ensures.steps in
    let all : c.args.members.now.entries ≡ done ++ e ∷ left = l.invariant.3 ∙ ap (λ es. done ++ es) step in
    let last = put_last done e left (subst (λ es. IsStrictlySortedBy string_cmp (keys_of es)) all c.iter-name-items.ensures.ordered) in
    let named : c.as_str.result.now ≡ k = c.as_str.ensures.value in
    let head = comma_if l.is_later ++ token_text (key k) in
    let name : g.P.Pieces.grows l.out c.write_name.new.out head = subst (λ n. g.P.Pieces.grows l.out c.write_name.new.out (comma_if l.is_later ++ token_text (key n))) named c.in_ok-write_name.ensures.0 in
    let utf8 : IsUtf8 (token_text (key k)) = subst (λ n. IsUtf8 (token_text (key n))) named c.in_ok-write_name.ensures.1 in
    let w = c.in_ok-write.ensures in
    let next : g.P.Pieces.grows l.out c.write.new.out (head ++ w.0) = g.met.P.Pieces.joins l.out c.write_name.new.out c.write.new.out head w.0 name w.1 in (
      before ++ (head ++ w.0),
      g.met.P.Pieces.joins c.args.out.now l.out c.write.new.out before (head ++ w.0) l.invariant.1 next,
      done ++ e ∷ [],
      all ∙ sym (append_assoc done (e ∷ []) left),
      λ ms rest r reads.
          subst (WritesValue (object (members_view c.args.members.now.entries))) (behind before head w.0 rest)
          (l.invariant.4 (json.member k w.2.written ms) (head ++ (w.0 ++ rest))
          (subst (λ es. WritesMembers l.is_later (json.member k w.2.written ms) (members_view es) (head ++ (w.0 ++ rest))) (sym step) (next_member l.is_later k (view e.1) ms (members_view left) w.0 rest utf8 w.2 r))
          (ap (option_and_then (λ d. of_members ms (put k d (members_view done)))) w.2.reads ∙ ap (of_members ms) last ∙ reads)),
    )

pub write_members-returns : goal.write_members-returns
write_members-returns g t c =
    let l = c.loop-name in
    let before = l.invariant.0 in
    let end : List ℕ = 125 ∷ [] in
    let none : l.name-iterator ≡ [] = c.in-None.ensures.steps.0 in
    let all : c.args.members.now.entries ≡ l.invariant.2 = l.invariant.3 ∙ ap (λ es. l.invariant.2 ++ es) none ∙ append-nil l.invariant.2 in
    let whole = l.invariant.4 json.no_members end (subst (λ es. WritesMembers l.is_later json.no_members (members_view es) end) (sym none) (no_member l.is_later)) (ap (λ es. Some (members_view es)) (sym all)) in
    on_ok_weaker c.write_piece-2.result (λ e. (before ++ end, g.met.P.Pieces.joins c.args.out.now l.out c.write_piece-2.new.self before end l.invariant.1 e, whole)) c.write_piece-2.ensures
