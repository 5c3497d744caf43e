-- The bodies of requests to etcd 3.4's JSON gateway: members in order of name, numbers of 64 bits as texts, keys and values in base64 with padding.
use Rattle.std.specs.Prelude.{ℕ, List, [], ◌∷◌, codes, decimal, true}
use Rattle.base64.specs.Engines.{standard}
use Rattle.base64.specs.GeneralPurpose.{encode_of}
use Rattle.serde_json.specs.Data.{Data, string, boolean, array, object, Items, no_items, item, member, no_members}
use Rattle.json_values.specs.Spelling.{items_data}
use Rattle.etcd_requests.specs.declared.key.Key.{Key}
use Rattle.etcd_requests.specs.declared.key.Key.TheVariants.{Block}
use Rattle.etcd_requests.specs.Keys.{key_text, blocks_end}
use Rattle.etcd_requests.specs.Transactions.{Compare, HasValue, WasCreated, Operation, Put, PutUnder, Get, GetKey, GetFrom, RemoveFrom, Transaction}

-- standard base64 with padding (RFC 4648, section 4)
unfoldable pub base64 : List ℕ → List ℕ
base64 bytes = encode_of standard bytes

abbrev pub bytes_data : List ℕ → Data
bytes_data bytes = string (base64 bytes)

abbrev pub key_data : List ℕ → Key → Data
key_data prefix key = bytes_data (key_text prefix key)

abbrev pub end_data : List ℕ → ℕ → Data
end_data prefix epoch = bytes_data (blocks_end prefix epoch)

abbrev pub long_data : ℕ → Data
long_data n = string (decimal n)

abbrev pub compare_data : List ℕ → Compare → Data
compare_data prefix (HasValue key value) = object (member (codes "key") (key_data prefix key) (member (codes "target") (string (codes "VALUE")) (member (codes "value") (bytes_data value) no_members)))
compare_data prefix (WasCreated key revision) = object (member (codes "create_revision") (long_data revision) (member (codes "key") (key_data prefix key) (member (codes "target") (string (codes "CREATE")) no_members)))

-- an operation is the one member of its kind
abbrev pub of_kind : List ℕ → Data → Data
of_kind kind what = object (member kind what no_members)

abbrev pub operation_data : List ℕ → Operation → Data
operation_data prefix (Put key value) = of_kind (codes "request_put") (object (member (codes "key") (key_data prefix key) (member (codes "value") (bytes_data value) no_members)))
operation_data prefix (PutUnder key value lease) = of_kind (codes "request_put") (object (member (codes "key") (key_data prefix key) (member (codes "lease") (long_data lease) (member (codes "value") (bytes_data value) no_members))))
operation_data prefix (Get key) = of_kind (codes "request_range") (object (member (codes "key") (key_data prefix key) no_members))
operation_data prefix (GetKey key) = of_kind (codes "request_range") (object (member (codes "key") (key_data prefix key) (member (codes "keys_only") (boolean true) no_members)))
operation_data prefix (GetFrom epoch number most) =
    of_kind (codes "request_range") (object (member (codes "key") (key_data prefix (Block epoch number)) (member (codes "limit") (long_data most) (member (codes "range_end") (end_data prefix epoch) no_members))))
operation_data prefix (RemoveFrom epoch number) = of_kind (codes "request_delete_range") (object (member (codes "key") (key_data prefix (Block epoch number)) (member (codes "range_end") (end_data prefix epoch) no_members)))

-- what compares nothing has only what it does
abbrev pub parts_data : Items → Items → Items → Data
parts_data no_items failure success = object (member (codes "success") (array success) no_members)
parts_data (item d ds) failure success = object (member (codes "compare") (array (item d ds)) (member (codes "failure") (array failure) (member (codes "success") (array success) no_members)))

-- POST /v3/kv/txn
abbrev pub transaction_data : List ℕ → Transaction → Data
transaction_data prefix t = parts_data (items_data (compare_data prefix) t.compares) (items_data (operation_data prefix) t.failure) (items_data (operation_data prefix) t.success)

-- POST /v3/kv/range
abbrev pub get_data : List ℕ → Key → Data
get_data prefix key = object (member (codes "key") (key_data prefix key) no_members)

-- POST /v3/lease/grant
abbrev pub grant_data : ℕ → Data
grant_data seconds = object (member (codes "TTL") (long_data seconds) no_members)

-- POST /v3/lease/keepalive and /v3/lease/revoke
abbrev pub lease_data : ℕ → Data
lease_data lease = object (member (codes "ID") (long_data lease) no_members)

-- the text of a term: where others are sent while it leads, and what nobody else has
abbrev pub term_data : List ℕ → List ℕ → Data
term_data advertise instance = object (member (codes "advertise") (string advertise) (member (codes "instance") (string instance) no_members))
