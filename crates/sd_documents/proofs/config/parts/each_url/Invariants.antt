use Rattle.std.proofs.Common.{◌≡◌, ◌++◌, drop, Ok}
use Rattle.serde_json.specs.View.{items_view}
use Rattle.sd_documents.specs.Reading.{◌>>=◌, each_said}
use Rattle.sd_documents.specs.Config.{url_said}
use Rattle.sd_documents.proofs.config.parts.each_url.Given as goal

abbrev pub invariant-loop-value : goal.invariant-loop-value
invariant-loop-value l =
    each_said (url_said l.index) (items_view (drop l.value-index l.values)) >>= (λ xs. Ok (l.urls ++ xs))
    ≡ each_said (url_said l.index) (items_view l.values)
