use Rattle.std.proofs.Common.{[], ◌∷◌, ◌++◌}
use Rattle.std.proofs.lemmas.Result.{on_ok_weaker}
use Rattle.json.specs.Token.{end_object}
use Rattle.json_values.specs.Spelling.{list_data}
use Rattle.json_values.specs.Texts.{tokens_of}
use Rattle.label_sets.specs.Target.{target_data}
use Rattle.fleet_events.specs.Writing.{source_tokens}
use Rattle.fleet_events.proofs.DiscoverLemmas.{written_more}
use Rattle.fleet_events.proofs.writing.put_discover.Goals as goal

pub returns-clause-tokens : goal.returns-clause-tokens
returns-clause-tokens c =
    let before = c.args.out.now.tokens in
    let head = source_tokens c.args.job.now c.args.source in
    let list = tokens_of (list_data target_data c.args.targets.now) in
    let targets = written_more before head list c.put_source.new.out.tokens c.put_targets.new.out.tokens (rw c.from.ensures at c.in_ok-put_source.ensures.tokens) c.in_ok-put_targets.ensures.tokens in
    on_ok_weaker c.end_object.result (written_more before (head ++ list) (end_object ∷ []) c.put_targets.new.out.tokens c.end_object.new.self.tokens targets) c.end_object.ensures.ok
