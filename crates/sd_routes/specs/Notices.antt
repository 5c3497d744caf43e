-- The status code (RFC 9110, section 15) and the line of each notice.
use Rattle.std.specs.Prelude.{ℕ, List, codes}
use Rattle.sd_routes.specs.declared.notice.Notice.{Notice}
use Rattle.sd_routes.specs.declared.notice.Notice.TheVariants.{Healthy, Broken, Ready, NotReady, Leading, Quitting, NoLifecycle}

abbrev pub status_noticed : Notice → ℕ
status_noticed Healthy = 200
status_noticed Broken = 503
status_noticed Ready = 200
status_noticed NotReady = 503
status_noticed Leading = 200
status_noticed Quitting = 200
status_noticed NoLifecycle = 403

abbrev pub text_noticed : Notice → List ℕ
text_noticed Healthy = codes "allocd is healthy.\n"
text_noticed Broken = codes "allocd cannot keep what is submitted.\n"
text_noticed Ready = codes "allocd is ready.\n"
text_noticed NotReady = codes "allocd is not ready.\n"
text_noticed Leading = codes "allocd leads.\n"
text_noticed Quitting = codes "allocd ends. Goodbye!\n"
text_noticed NoLifecycle = codes "The lifecycle API is not enabled.\n"
