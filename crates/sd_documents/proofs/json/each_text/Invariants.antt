use Rattle.std.proofs.Common.{◌≡◌, ◌++◌, drop, Ok}
use Rattle.serde_json.specs.View.{items_view}
use Rattle.sd_documents.specs.Reading.{◌>>=◌, each_said, text_said}
use Rattle.sd_documents.proofs.json.each_text.Given as goal

abbrev pub invariant-loop-value : goal.invariant-loop-value
invariant-loop-value l =
    each_said (text_said l.index l.member) (items_view (drop l.value-index l.values)) >>= (λ xs. Ok (l.texts ++ xs))
    ≡ each_said (text_said l.index l.member) (items_view l.values)
