use Rattle.std.proofs.Common.{◌≡◌, List, ℕ, [], ap, ◌∙◌, arith}
use Rattle.std.specs.Prelude.{slice_set, slice_index_or}
use Rattle.std.proofs.lemmas.Grind.{common_steps}
use Rattle.std.proofs.lemmas.List.{set-set}
use Rattle.fleet.proofs.listing.replace_list.Goals as goal

pub returns-clause-listed : goal.returns-clause-listed
returns-clause-listed c =
    let e : c.from_vec.result ≡ slice_set (slice_index_or c.args.listed.now.items c.args.job []) c.args.source c.args.numbers = grind (arith, common_steps) in
    set-set c.args.listed.now.items c.args.job c.replace-sources.new.dest c.from_vec.result ∙ ap (λ (l : List (List ℕ)). slice_set c.args.listed.now.items c.args.job l) e
