-- What a look behind block 0 reads.
use Rattle.std.proofs.Common.{◌≡◌, ℕ, zero, suc, ◌-◌, ◌<◌, List, ap, arith}
use Rattle.serde_json.specs.Data.{Data, array, item, no_items}
use Rattle.json_values.specs.Spelling.{items_data}
use Rattle.etcd_requests.specs.declared.key.Key.TheVariants.{Block, Epoch, Leader}
use Rattle.etcd_requests.specs.Requests.{reads}
use Rattle.etcd_requests.specs.Texts.{operation_data}
use Rattle.etcd_requests.specs.Transactions.{Get, GetFrom, GetKey}

abbrev four_of : List ℕ → ℕ → ℕ → ℕ → Data
four_of prefix epoch number last = array (item (operation_data prefix (Get Leader)) (item (operation_data prefix (Get Epoch)) (item (operation_data prefix (GetFrom epoch number 4)) (item (operation_data prefix (GetKey (Block epoch last))) no_items))))

pub reads_behind : (prefix : List ℕ) (epoch number : ℕ) → 0 < number
    → array (item (operation_data prefix (Get Leader)) (item (operation_data prefix (Get Epoch)) (item (operation_data prefix (GetFrom epoch number 4)) (item (operation_data prefix (GetKey (Block epoch (number - 1)))) no_items))))
    ≡ array (items_data (operation_data prefix) (reads epoch number))
reads_behind prefix epoch zero h = absurd (omega arith)
reads_behind prefix epoch (suc last) h =
    let e : suc last - 1 ≡ last = omega arith in
    ap (four_of prefix epoch (suc last)) e
