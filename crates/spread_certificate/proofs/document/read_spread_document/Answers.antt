use Rattle.std.proofs.Common.{sym, ◌∙◌}
use Rattle.serde_json.specs.View.{view}
use Rattle.spread_certificate.proofs.DocumentLemmas.{no_certificate, no_instance}
use Rattle.spread_certificate.proofs.document.read_spread_document.Goals as goal

pub returns-in_default-clause-shape : goal.returns-in_default-clause-shape
returns-in_default-clause-shape c e p said = no_certificate c.args.bytes.now (view c.in_ok-value.value) p said c.in_ok-value.ensures.ok (sym c.in_ok-certificate.ensures ∙ c.in_default.is)

pub returns-in_default-2-clause-shape : goal.returns-in_default-2-clause-shape
returns-in_default-2-clause-shape c e p said = no_instance c.args.bytes.now (view c.in_ok-value.value) p said c.in_ok-value.ensures.ok (sym c.in_ok-instance.ensures ∙ c.in_default-2.is)
