use Rattle.std.proofs.Common.{[], ◌∷◌, codes, decimal}
use Rattle.std.proofs.lemmas.Result.{on_ok_weaker}
use Rattle.json.specs.Token.{begin_object, key, number, string}
use Rattle.fleet_events.proofs.DiscoverLemmas.{written_more}
use Rattle.fleet_events.proofs.writing.put_source.Goals as goal

pub returns-clause-tokens : goal.returns-clause-tokens
returns-clause-tokens c =
    let before = c.args.out.now.tokens in
    let event = written_more before (begin_object ∷ []) (key (codes "event") ∷ string (codes "discover") ∷ []) c.begin_object.new.self.tokens c.put_text.new.out.tokens c.in_ok-begin_object.ensures.ok c.in_ok-put_text.ensures.tokens in
    let job = written_more before _ (key (codes "job") ∷ string c.args.job.now ∷ []) c.put_text.new.out.tokens c.put_text-2.new.out.tokens event c.in_ok-put_text-2.ensures.tokens in
    let name = written_more before _ (key (codes "source") ∷ []) c.put_text-2.new.out.tokens c.key.new.self.tokens job c.in_ok-key.ensures.ok in
    let source = written_more before _ (number (decimal c.args.source) ∷ []) c.key.new.self.tokens c.u64.new.self.tokens name c.in_ok-u64.ensures.ok in
    on_ok_weaker c.key-2.result (written_more before _ (key (codes "targets") ∷ []) c.u64.new.self.tokens c.key-2.new.self.tokens source) c.key-2.ensures.ok
