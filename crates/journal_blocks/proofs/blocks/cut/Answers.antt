use Rattle.std.proofs.Common.{◌≡◌, ◌∙◌, ◌++◌, [], ◌∷◌, ℕ, List, ap}
use Rattle.std.specs.Prelude.{map}
use Rattle.std.proofs.lemmas.List.{map-append}
use Rattle.journal_blocks.proofs.BlockLemmas.{cut_lines, cut_sizes, cut_state, cut_whole}
use Rattle.journal_blocks.proofs.blocks.cut.Goals as goal

pub loop-rest-preserved : goal.loop-rest-preserved
loop-rest-preserved c =
    let old : List (List ℕ) = map (λ b. b.now) c.loop-rest.blocks.items in
    let new : List (List ℕ) = map (λ b. b.now) c.push.new.self.items in
    let block = c.split_at.result.0.now in
    let rest = c.loop-rest.rest.now in
    let n = c.block_length.result in
    let pushed : new ≡ old ++ block ∷ [] = ap (λ bs. map (λ b. b.now) bs) c.in_ok-push.ensures.items ∙ map-append (λ b. b.now) c.loop-rest.blocks.items (c.split_at.result.0 ∷ []) in
    record {
      whole = cut_whole old new block rest c.split_at.result.1.now c.args.text.now n pushed c.split_at.ensures.front c.split_at.ensures.back c.loop-rest.invariant.whole;
      sizes = cut_sizes old new block rest n pushed c.split_at.ensures.front c.block_length.ensures.some c.block_length.ensures.there c.block_length.ensures.short c.loop-rest.invariant.sizes;
      lines = cut_lines old new block rest n c.loop-rest.within pushed c.split_at.ensures.front c.block_length.ensures.fits c.loop-rest.invariant.state c.loop-rest.invariant.lines;
      state = cut_state old new block c.ends_line-within.result pushed c.ends_line-within.ensures;
    }
