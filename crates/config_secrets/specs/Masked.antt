-- A document in which secrets are masked.
use Rattle.std.specs.Prelude.{ℕ, List, [], ◌∷◌, Bool, codes, if◌then◌else◌}
use Rattle.std.specs.List.{list_any}
use Rattle.std.specs.Str.{bytes_eq}
use Rattle.serde_json.specs.Data.{Data, null, boolean, number, string, array, object, Items, no_items, item, Members, no_members, member}
use Rattle.config_secrets.specs.declared.masking.Treatment.{Treatment}
use Rattle.config_secrets.specs.declared.masking.Treatment.TheVariants.{Kept, Searched, Hidden}

abbrev pub secret_names : List (List ℕ)
secret_names =
    codes "password" ∷ codes "credentials" ∷ codes "client_secret" ∷ codes "bearer_token" ∷ codes "key" ∷ codes "secret_key"
    ∷ codes "proxy_connect_header" ∷ codes "secrets" ∷ []

-- what may be read here, whatever the names in it are
abbrev pub read_names : List (List ℕ)
read_names =
    codes "allocator" ∷ codes "params" ∷ codes "static_configs" ∷ codes "relabel_configs" ∷ codes "metric_relabel_configs" ∷ []

abbrev pub is_secret : List ℕ → Bool
is_secret name = list_any (bytes_eq name) secret_names

abbrev pub is_read : List ℕ → Bool
is_read name = list_any (bytes_eq name) read_names

-- what becomes of a member of what is treated so
abbrev pub treatment_of : Treatment → List ℕ → Treatment
treatment_of Kept name = Kept
treatment_of Searched name = if is_secret name then Hidden else (if is_read name then Kept else Searched)
treatment_of Hidden name = Hidden

-- what becomes of a value that has no others in it
abbrev pub leaf : Treatment → Data → Data
leaf Kept d = d
leaf Searched d = d
leaf Hidden d = string (codes "<secret>")

abbrev mutual
  pub masked : Treatment → Data → Data
  masked how null = null
  masked how (boolean b) = leaf how (boolean b)
  masked how (number n) = leaf how (number n)
  masked how (string s) = leaf how (string s)
  masked how (array ds) = array (masked_items how ds)
  masked how (object ms) = object (masked_members how ms)

  pub masked_items : Treatment → Items → Items
  masked_items how no_items = no_items
  masked_items how (item d ds) = item (masked how d) (masked_items how ds)

  pub masked_members : Treatment → Members → Members
  masked_members how no_members = no_members
  masked_members how (member name d ms) = member name (masked (treatment_of how name) d) (masked_members how ms)
