use Rattle.std.proofs.Common.{◌≡◌, arith, rules}
use Rattle.percent_encoding.specs.Percent.{percent_encode}
use Rattle.sd_routes.specs.Links.{escaped}
use Rattle.sd_routes.specs.declared.link.TheConstants.{RESERVED}
use Rattle.sd_routes.proofs.Escapes.{escaped_bytes}
use Rattle.sd_routes.proofs.link.push_escaped.Goals as goal

pub returns : goal.returns
returns c =
    let same : percent_encode RESERVED c.args.segment.now ≡ escaped c.args.segment.now = escaped_bytes c.args.segment.now (λ i. omega (arith, c.type_inv.segment i)) in
    rw (← same) (search rules)
