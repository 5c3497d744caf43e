use Rattle.std.proofs.Common.{rules, ◌≡◌, false, []}
use Rattle.std.specs.Prelude.{codes}
use Rattle.std.specs.Str.{bytes_eq}
use Rattle.label_sets.specs.Labels.{label_text}
use Rattle.label_sets.proofs.Finals.{is_final}
use Rattle.label_sets.proofs.target.finish.Goals as goal

pub of_parts-requires : goal.of_parts-requires
of_parts-requires c =
    let filled : bytes_eq (label_text c.args.labels.now (codes "__address__")) [] ≡ false = search rules in
    rw (c.keep_group.ensures, c.in_ok-add_instance.ensures.ok, c.in_ok-kept.ensures, c.in_ok-address.ensures, c.get-2.ensures.text) (is_final c.args.labels.now c.get.ensures.set filled)
