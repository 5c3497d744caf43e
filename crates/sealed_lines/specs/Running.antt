-- The digest of a line that comes in pieces.
use Rattle.std.specs.Prelude.{◌≡◌, ℕ, List, ◌++◌}
use Rattle.sha2.specs.Hashers.{Holds256}
use Rattle.sealed_lines.specs.Chains.{behind}
use Rattle.sealed_lines.specs.declared.chain.Chain.{Chain}
use Rattle.sealed_lines.specs.declared.chain.RunningDigest.{RunningDigest}

-- what it has taken so far is this beginning of a line, behind a line with this digest
unfoldable pub Digests : RunningDigest → Chain → List ℕ → Type 0
Digests running chain front = Holds256 running.hasher (chain.digits ++ front)

-- whatever it had taken, it has taken the piece too
abbrev pub TakesPiece : RunningDigest → RunningDigest → List ℕ → Type 0
TakesPiece old new piece = (chain : Chain) (front : List ℕ) → Digests old chain front → Digests new chain (front ++ piece)

-- it is the digest of what was taken
abbrev pub EndsAs : RunningDigest → Chain → Type 0
EndsAs running end = (chain : Chain) (line : List ℕ) → Digests running chain line → end ≡ behind chain line
