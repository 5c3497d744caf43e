use Rattle.std.proofs.lemmas.Result.{IfOk-weaker}
use Rattle.serde_json.specs.View.{view}
use Rattle.spread_certificate.proofs.DocumentLemmas.{text_of_form, is_document}
use Rattle.spread_certificate.proofs.document.write_spread_document.Goals as goal

pub returns-clause-form : goal.returns-clause-form
returns-clause-form c = IfOk-weaker c.to_vec.result _ _ (λ b text. text_of_form b.items c.args.instance.now c.args.spread.now (view c.in_ok-value_of.field-0) c.in_ok-value_of.ensures.form text) c.to_vec.ensures.text

pub returns-clause-reads_back : goal.returns-clause-reads_back
returns-clause-reads_back c =
    is_document c.to_vec.result c.args.instance.now c.args.spread.now (view c.in_ok-value_of.field-0) c.in_ok-value_of.ensures.form c.in_ok-value_of.ensures.instance c.in_ok-value_of.ensures.certificate c.to_vec.ensures.utf8 c.to_vec.ensures.reads_back
