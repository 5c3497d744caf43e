use Rattle.std.proofs.Common.{List, ℕ, Bor, map, ap}
use Rattle.sd_documents.proofs.Joined.{list_text-pieces}
use Rattle.sd_documents.proofs.written.write_groups.Goals as goal

pub returns : goal.returns
returns c =
    let shown : List (Bor (List ℕ)) → List (List ℕ) = map (λ t. t.now) in
    list_text-pieces (shown c.args.texts.now) c.in-Some.first.now.now (shown c.in-Some.others.now) _ _ _ _ _ (ap shown c.in-Some.ensures.cases.0) c.as_bytes.ensures.value c.in_ok-bytes.ensures.items c.in_ok-extend_from_slice.ensures.items c.in_ok-push_others.ensures c.in_ok-push.ensures.items
