-- How a source of discovery is asked: by its URL (RFC 3986, section 3), of which the scheme `http` alone is known.
use Rattle.std.specs.Prelude.{ℕ, List, [], Bool, ◌||◌, ◌==◌, drop, codes}
use Rattle.std.specs.Option.{option_map_or}
use Rattle.std.specs.List.{before_first, position_or_len}
use Rattle.http_get.specs.declared.get.Get.{Get}
use Rattle.http_get.specs.Prefixes.{behind}
use Rattle.http_get.specs.Paths.{with_slash}

-- a slash or a question mark
abbrev pub begins_path : ℕ → Bool
begins_path b = b == 47 || b == 63

-- the path and the query as they stand
abbrev pub from_path : List ℕ → List ℕ
from_path text = drop (position_or_len begins_path text) text

-- a path begins with a slash
abbrev pub get_from : List ℕ → List ℕ → Get
get_from address path = record { address = address; path = with_slash path }

-- any other URL is an address
abbrev pub url_get : List ℕ → Get
url_get url = option_map_or (λ rest. get_from (before_first begins_path rest) (from_path rest)) (behind (codes "http://") url) (get_from url [])
