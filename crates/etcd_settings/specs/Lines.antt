-- The text of each fault: the way to the member, and what is wrong with it.
use Rattle.std.specs.Prelude.{ℕ, List, codes}
use Rattle.etcd_settings.specs.declared.error.SettingsError.{SettingsError}
use Rattle.etcd_settings.specs.declared.error.SettingsError.TheVariants.{NotJson, Shape, NoPasswordFile, NoUser, NotInEtcd, Memory}
use Rattle.etcd_settings.specs.declared.error.Member.{Member}
use Rattle.etcd_settings.specs.declared.error.Member.TheVariants.{Endpoints, Prefix, Advertise, Lease, User, PasswordFile}

abbrev pub member_path : Member → List ℕ
member_path Endpoints = codes "allocator.journal"
member_path Prefix = codes "allocator.journal"
member_path Advertise = codes "allocator.advertise"
member_path Lease = codes "allocator.lease"
member_path User = codes "allocator.etcd_user"
member_path PasswordFile = codes "allocator.etcd_password_file"

abbrev pub missing : Member → List ℕ
missing Endpoints = codes "no hosts with ports behind etcd://, with commas between them, as in etcd://10.0.0.5:2379,10.0.0.6:2379/allocd/prod"
missing Prefix = codes "no names behind the hosts, with slashes between them, as allocd/prod in etcd://10.0.0.5:2379/allocd/prod"
missing Advertise = codes "no URL without a slash at its end, as http://10.0.0.7:8080 is"
missing Lease = codes "no duration from 2s to 1m"
missing User = codes "no name of a user"
missing PasswordFile = codes "no path of a file"

abbrev pub error_path : SettingsError → List ℕ
error_path NotJson = codes "document"
error_path (Shape member) = member_path member
error_path NoPasswordFile = member_path User
error_path NoUser = member_path PasswordFile
error_path (NotInEtcd member) = member_path member
error_path Memory = codes "document"

abbrev pub error_missing : SettingsError → List ℕ
error_missing NotJson = codes "no JSON"
error_missing (Shape member) = missing member
error_missing NoPasswordFile = codes "no allocator.etcd_password_file beside it: name the file that has the user's password"
error_missing NoUser = codes "no allocator.etcd_user beside it: name the user whose password the file has"
error_missing (NotInEtcd member) = codes "the journal is not in etcd: leave this out, or name a journal as etcd://10.0.0.5:2379/allocd/prod"
error_missing Memory = codes "no memory"
