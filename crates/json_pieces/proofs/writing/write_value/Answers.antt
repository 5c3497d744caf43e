use Rattle.std.proofs.lemmas.Result.{on_ok_weaker}
use Rattle.serde_json.specs.View.{view}
use Rattle.json_pieces.proofs.Said.{said}
use Rattle.json_pieces.proofs.writing.write_value.Goals as goal

pub returns : goal.returns
returns g c = on_ok_weaker c.write.result (λ w. (w.0, w.1, said (view c.args.value.now) w.0 w.2)) c.write.ensures
