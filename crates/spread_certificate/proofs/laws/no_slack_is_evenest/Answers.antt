use Rattle.spread_certificate.proofs.EvenLemmas.{no_slack_is_evenest}
use Rattle.spread_certificate.proofs.laws.no_slack_is_evenest.Goals as goal

pub returns : goal.returns
returns c = no_slack_is_evenest
