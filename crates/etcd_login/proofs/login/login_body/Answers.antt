use Rattle.std.proofs.Common.{◌≡◌, refl}
use Rattle.serde_json.specs.View.{view}
use Rattle.etcd_login.specs.Logins.{login_data}
use Rattle.etcd_login.proofs.Floats.{text_is}
use Rattle.etcd_login.proofs.login.login_body.Goals as goal

pub returns : goal.returns
returns c =
    let said = login_data c.args.login.now.name c.args.login.now.password in
    let is : view c.in_ok-value.value ≡ said = cc (c.in_ok-value.ensures, c.as_str.ensures, c.as_str-2.ensures) in
    text_is c.text_of.result (view c.in_ok-value.value) said is refl c.text_of.ensures.form
