-- The keys of a journal in etcd. Each begins with the journal's prefix between slashes.
use Rattle.std.specs.Prelude.{ℕ, zero, suc, ◌+◌, ◌/◌, ◌%◌, List, [], ◌∷◌, ◌++◌, codes}
use Rattle.etcd_requests.specs.declared.key.Key.{Key}
use Rattle.etcd_requests.specs.declared.key.Key.TheVariants.{Leader, Epoch, Block}

-- the last so many digits of a number, in decimal
unfoldable pub last_digits : ℕ → ℕ → List ℕ
last_digits zero n = []
last_digits (suc count) n = last_digits count (n / 10) ++ (48 + n % 10) ∷ []

-- a name below the prefix
abbrev pub below : List ℕ → List ℕ → List ℕ
below prefix name = codes "/" ++ (prefix ++ name)

-- what the blocks of an epoch have in common, without the slash behind it
abbrev pub blocks_name : ℕ → List ℕ
blocks_name epoch = codes "/j/" ++ last_digits 10 epoch

-- what stands behind the prefix: of block N of epoch E it is /j/EEEEEEEEEE/NNNNNNNNNN
abbrev pub key_name : Key → List ℕ
key_name Leader = codes "/leader"
key_name Epoch = codes "/epoch"
key_name (Block epoch number) = blocks_name epoch ++ (codes "/" ++ last_digits 10 number)

abbrev pub key_text : List ℕ → Key → List ℕ
key_text prefix key = below prefix (key_name key)

-- the first text behind the keys of all blocks of an epoch, since '0' follows '/'
abbrev pub blocks_end : List ℕ → ℕ → List ℕ
blocks_end prefix epoch = below prefix (blocks_name epoch ++ codes "0")
