use Rattle.std.proofs.Common.{◌≡◌, length, map, ap, ◌∙◌, sym}
use Rattle.price_certificate.specs.Problem.{Problem, bins_of}
use Rattle.price_certificate.specs.Derived.{open_bins}
use Rattle.price_certificate.specs.Rows.{rows_of}
use Rattle.price_certificate.proofs.DerivedLemmas.{capped_parts}
use Rattle.price_certificate.proofs.instance.Instance.capped.Goals as goal

pub invariant_of-result : goal.invariant_of-result
invariant_of-result c =
    let i = c.self.inside in
    let p : Problem = record { version = i.version; limits = i.limits; draining = i.draining; rows = rows_of i.rows; before = i.before } in
    let caps = c.args.caps.now in
    let each : length caps ≡ bins_of p = c.requires ∙ ap bins_of (sym c.self.view_is) in
    let limits : c.from_vec.result ≡ caps = c.from_vec.ensures ∙ c.in_ok-limits.ensures.items in
    let rows : rows_of c.in_ok-rows.rows ≡ map (open_bins caps) (rows_of i.rows) = c.in_ok-rows.ensures in
    capped_parts caps p _ _ _ _ each c.self.invariant limits c.in_ok-draining.ensures rows c.in_ok-before.ensures
