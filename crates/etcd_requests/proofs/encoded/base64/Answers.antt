use Rattle.etcd_requests.specs.Texts.{base64}
use Rattle.etcd_requests.proofs.encoded.base64.Goals as goal

pub returns : goal.returns
unfolding base64
returns c = c.encode.ensures.text
