use Rattle.http_get.proofs.Escapes.{escaped}
use Rattle.http_get.proofs.path.path_of.Goals as goal

pub returns : goal.returns
returns c = rw (c.in_ok-append_to.ensures.ok, c.in_ok-path.ensures.ok, c.slash_before.ensures, c.utf8_percent_encode.ensures.text) (escaped c.args.text.now)
