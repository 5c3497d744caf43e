use Rattle.std.proofs.Common.{◌≡◌, IfOk, sym, subst}
use Rattle.std.proofs.lemmas.Result.{IfOk-weaker}
use Rattle.serde_json.specs.Data.{Data}
use Rattle.serde_json.specs.declared.value.Value.{Value}
use Rattle.serde_json.specs.View.{view}
use Rattle.price_certificate.specs.Document.{object_of, SpellsInstance}
use Rattle.price_certificate.specs.declared.version.Version.{Version}
use Rattle.price_certificate.proofs.DocumentParts.{spells_instance}
use Rattle.price_certificate.proofs.document.writing.value_of.Goals as goal

pub returns-clause-instance : goal.returns-clause-instance
returns-clause-instance c =
    let p = c.args.instance.now in
    let spelled = spells_instance p (view c.in_ok-before_of.field-0) (view c.in_ok-write.field-0) (view c.in_ok-bins_of.field-0) (view c.in_ok-draining_of.field-0) (view c.in_ok-write-2.field-0) (view c.in_ok-write-3.field-0) (view c.in_ok-reach_by.field-0) c.is_problem.ensures c.in_ok-before_of.ensures.reads_back c.in_ok-bins_of.ensures.reads_back c.in_ok-draining_of.ensures.reads_back c.in_ok-reach_by.ensures.reads_back in
    let told = subst (λ (v : Version). IfOk c.object_of.result (λ (x : Value). view x ≡ object_of v (view c.in_ok-before_of.field-0) (view c.in_ok-write.field-0) (view c.in_ok-bins_of.field-0) (view c.in_ok-draining_of.field-0) (view c.in_ok-write-2.field-0) (view c.in_ok-write-3.field-0) (view c.in_ok-reach_by.field-0))) c.version.ensures c.object_of.ensures in
    IfOk-weaker c.object_of.result _ _ (λ v form. subst (λ (d : Data). SpellsInstance d p) (sym form) spelled) told
