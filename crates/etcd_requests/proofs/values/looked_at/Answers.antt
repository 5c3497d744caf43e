use Rattle.std.proofs.Common.{◌≡◌, ◌∙◌, ◌-◌, ◌<◌, arith}
use Rattle.std.proofs.lemmas.Result.{IfOk-weaker}
use Rattle.serde_json.specs.Data.{array, item, no_items}
use Rattle.serde_json.specs.View.{view}
use Rattle.etcd_requests.specs.declared.key.Key.TheVariants.{Block, Epoch, Leader}
use Rattle.json_values.specs.Spelling.{items_data}
use Rattle.etcd_requests.specs.Requests.{reads}
use Rattle.etcd_requests.specs.Texts.{operation_data}
use Rattle.etcd_requests.specs.Transactions.{Get, GetFrom, GetKey}
use Rattle.etcd_requests.proofs.Looks.{reads_behind}
use Rattle.etcd_requests.proofs.values.looked_at.Goals as goal

pub returns : goal.returns
returns c =
    let prefix = c.args.prefix.now in
    let epoch = c.args.epoch in
    let number = c.args.number in
    let some : 0 < number = omega arith in
    let leader : view c.in_ok-leader.leader ≡ operation_data prefix (Get Leader) = c.in_ok-leader.ensures in
    let going : view c.in_ok-going.going ≡ operation_data prefix (Get Epoch) = c.in_ok-going.ensures in
    let next : view c.in_ok-next.next ≡ operation_data prefix (GetFrom epoch number 4) = c.in_ok-next.ensures in
    let last : view c.in_ok-last.last ≡ operation_data prefix (GetKey (Block epoch (number - 1))) = c.in_ok-last.ensures in
    IfOk-weaker c.four.result (λ v. view v ≡ array (item (view c.in_ok-leader.leader) (item (view c.in_ok-going.going) (item (view c.in_ok-next.next) (item (view c.in_ok-last.last) no_items))))) (λ v. view v ≡ array (items_data (operation_data prefix) (reads epoch number)))
    (λ v e. e ∙ rw (leader, going, next, last) (reads_behind prefix epoch number some)) c.four.ensures
