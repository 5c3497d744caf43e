use Rattle.relabel.proofs.rule.Rule.compile.Goals as goal

pub invariant_of-result : goal.invariant_of-result
invariant_of-result g c =
    let made = c.in_ok-regex.ensures in (
      record {
        finds = rw c.as_str.ensures at made.form;
        target_is = rw (c.capture_names-names.ensures, made.names, c.as_str.ensures, c.as_str-2.ensures) at c.in_ok-target.ensures.read;
        replacement_is = rw (c.capture_names-names.ensures, made.names, c.as_str.ensures, c.as_str-3.ensures) at c.in_ok-replacement.ensures.read;
      },
      c.requires,
    )
