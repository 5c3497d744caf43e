use Rattle.std.proofs.Common.{sym, subst, arith}
use Rattle.std.proofs.lemmas.Result.{on_ok_weaker}
use Rattle.serde_json.specs.View.{view}
use Rattle.json_pieces.specs.Texts.{WritesValue}
use Rattle.json_pieces.proofs.Whole.{whole_written}
use Rattle.json_pieces.proofs.writing.write_whole.Goals as goal

pub returns : goal.returns
returns g c =
    let d = view c.args.value.now in
    let text = c.in_ok-text.text.items in
    let facts = c.in_ok-text.ensures in
    let written : WritesValue d text = whole_written d text (omega (arith, c.requires)) facts.compact facts.utf8 facts.order (facts.reads_back (omega (arith, c.requires))) in
    on_ok_weaker c.write_piece.result (λ e. (c.as_slice.result.now, e, subst (WritesValue d) (sym c.as_slice.ensures.value) written)) c.write_piece.ensures
