-- What etcd 3.4's JSON gateway answers about a lease.
use Rattle.std.specs.Prelude.{ℕ, ◌==◌, List, Option, Some, None, codes, if◌then◌else◌}
use Rattle.std.specs.Option.{option_and_then, option_map, option_map_or}
use Rattle.serde_json.specs.Data.{Data}
use Rattle.serde_json.specs.Find.{as_str, get}
use Rattle.json_values.specs.Texts.{json_of}
use Rattle.etcd_answers.specs.Numbers.{long_said, long_in}
use Rattle.etcd_answers.specs.declared.leases.Granted.{Granted}
use Rattle.etcd_answers.specs.declared.leases.Lease.{Lease}
use Rattle.etcd_answers.specs.declared.leases.Lease.TheVariants.{GoesOn, Ended, Unknown}

abbrev pub granted_in : Data → Option Granted
granted_in d = option_and_then (λ lease. option_map (λ seconds. record { lease = lease; seconds = seconds }) (long_in (codes "TTL") d)) (long_in (codes "ID") d)

abbrev pub granted_said : ℕ → List ℕ → Option Granted
granted_said status body = if status == 200 then option_and_then granted_in (json_of body) else None

abbrev pub seconds_left : List ℕ → Lease
seconds_left text = option_map_or GoesOn (long_said text) Unknown

-- a lease that ended has no time left, which is absent
abbrev pub left_in : Option Data → Lease
left_in None = Ended
left_in (Some d) = option_map_or seconds_left (as_str d) Unknown

-- what is said of another lease says nothing
abbrev pub kept_in : ℕ → Data → Lease
kept_in lease d = option_map_or (λ id. if id == lease then left_in (get (codes "TTL") d) else Unknown) (long_in (codes "ID") d) Unknown

abbrev pub lease_in : ℕ → Data → Lease
lease_in lease d = option_map_or (kept_in lease) (get (codes "result") d) Unknown

abbrev pub lease_said : ℕ → ℕ → List ℕ → Lease
lease_said lease status body = if status == 200 then option_map_or (lease_in lease) (json_of body) Unknown else Unknown
