-- The addresses that a request can be sent to: `localhost` or dotted IPv4 (RFC 6943, section 3.1.1, strict form), with a
-- port or without.
use Rattle.std.specs.Prelude.{◌≡◌, ◌⊎◌, ◌==◌, ◌<◌, ◌^◌, ℕ, List, [], ◌∷◌, Option, Some, None, codes, if◌then◌else◌}
use Rattle.std.specs.List.{before_first}
use Rattle.std.specs.declared.net.ipv4_addr.Ipv4Addr.{Ipv4Addr}
use Rattle.std.specs.declared.net.socket_addr.SocketAddrV4.{SocketAddrV4}
use Rattle.std.specs.Net.Addr.{ipv4_octets}
use Rattle.std.specs.Net.Grammar.{IsIpv4Text, IsNumber}
use Rattle.std.specs.Net.Socket.{v4_ip, v4_port}
use Rattle.http_get.specs.declared.address.TheConstants.{DEFAULT_PORT}

-- `localhost`, which is 127.0.0.1, or four decimal numbers without leading zeros and with dots between them
abbrev pub IsHost : List ℕ → Ipv4Addr → Type 0
IsHost text host = ((text ≡ codes "localhost") × (ipv4_octets host ≡ 127 ∷ 0 ∷ 0 ∷ 1 ∷ [])) ⊎ IsIpv4Text text host

-- one decimal digit or more, which write a number of 16 bits
abbrev pub IsNumberedPort : List ℕ → ℕ → Type 0
IsNumberedPort digits port = IsNumber 10 digits port × (port < 2 ^ 16)

-- what stands behind the first colon, where there is one
abbrev pub behind_colon : List ℕ → Option (List ℕ)
behind_colon [] = None
behind_colon (b ∷ bs) = if b == 58 then Some bs else behind_colon bs

abbrev pub IsPort : Option (List ℕ) → ℕ → Type 0
IsPort (Some digits) port = IsNumberedPort digits port
IsPort None port = port ≡ DEFAULT_PORT

abbrev pub IsAddress : List ℕ → SocketAddrV4 → Type 0
IsAddress text address = IsHost (before_first (λ b. b == 58) text) (v4_ip address) × IsPort (behind_colon text) (v4_port address)
