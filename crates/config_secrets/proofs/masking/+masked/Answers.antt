use Rattle.std.proofs.Common.{◌≡◌, List, [], ◌∷◌, ◌++◌, map, string_bytes, sym, ap, ◌∙◌, subst, append_assoc, arith}
use Rattle.std.proofs.lemmas.List.{take_all}
use Rattle.std.specs.List.Sorted.{IsStrictlySortedBy}
use Rattle.std.specs.Map.{keys_of}
use Rattle.std.specs.String.{string_cmp}
use Rattle.serde_json.specs.View.{view, items_of, items_view, members_view}
use Rattle.serde_json.specs.declared.value.Value.{Value}
use Rattle.serde_json.proofs.Views.{Entry, members_view-insert_entry}
use Rattle.config_secrets.specs.Masked.{masked, masked_items}
use Rattle.config_secrets.proofs.Masks.{items_in_order, masked_last}
use Rattle.config_secrets.proofs.masking.+masked.Goals as goal

pub masked_members-loop-key-preserved : goal.masked_members-loop-key-preserved
masked_members-loop-key-preserved t c =
    let l = c.loop-key in
    let done = l.invariant.0 in
    let e : Entry = (c.in-Some.key.now, c.in-Some.member.now) in
    let left = c.next.new.self in
    let all : c.args.members.now.entries ≡ done ++ e ∷ left = l.invariant.1 ∙ ap (λ es. done ++ es) c.in-Some.ensures.steps in
    let last = masked_last c.args.how done e left (subst (λ es. IsStrictlySortedBy string_cmp (keys_of es)) all c.iter-key-items.ensures.ordered) in
    let named : string_bytes c.in_ok-name.name ≡ string_bytes e.0 = c.in_ok-name.ensures.cases in (
      done ++ e ∷ [],
      all ∙ sym (append_assoc done (e ∷ []) left),
      ap members_view c.in_ok-insert.ensures.entries ∙ members_view-insert_entry l.others.entries c.in_ok-name.name c.in_ok-masked.field-0 ∙ rw (named, c.in_ok-masked.ensures, l.invariant.2, c.treatment_of-treatment.ensures, c.as_str.ensures.value) last,
    )

pub masked_items-returns : goal.masked_items-returns
masked_items-returns t c =
    let items = c.deref-item-items.result.now in
    let all = take_all c.loop-item.item-index items (omega arith) in
    ap items_of c.loop-item.invariant ∙ ap (λ (vs : List Value). items_of (map (λ (v : Value). masked c.args.how (view v)) vs)) all ∙ items_in_order c.args.how items
    ∙ ap (λ (vs : List Value). masked_items c.args.how (items_view vs)) c.deref-item-items.ensures.value
