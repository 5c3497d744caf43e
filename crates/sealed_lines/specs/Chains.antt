-- Lines with digests. The digest of a line is the first 8 bytes of SHA-256 over the 16 digits of the digest before it and the line's bytes;
-- it stands behind the line in hex digits, after a space and between quotation marks.
use Rattle.std.specs.Prelude.{ℕ, List, [], ◌∷◌, ◌++◌, take, codes}
use Rattle.hex.specs.Hex.{encode_lower}
use Rattle.sha2.specs.Sha256.{sha256}
use Rattle.sealed_lines.specs.Lines.{with_line}
use Rattle.sealed_lines.specs.declared.chain.Chain.{Chain}

-- what stands for a digest before the first line
abbrev pub start : Chain
start = record { digits = codes "0000000000000000" }

-- the digest of the next line
unfoldable pub behind : Chain → List ℕ → Chain
behind chain line = record { digits = encode_lower (take 8 (sha256 (chain.digits ++ line))) }

-- what stands behind a line with this digest
abbrev pub seal : Chain → List ℕ
seal chain = codes " \"" ++ (chain.digits ++ codes "\"")

abbrev pub sealed_line : Chain → List ℕ → List ℕ
sealed_line chain line = line ++ seal (behind chain line)

-- the digest of the last of some lines
abbrev pub chain_after : Chain → List (List ℕ) → Chain
chain_after chain [] = chain
chain_after chain (line ∷ lines) = chain_after (behind chain line) lines

-- the bytes of lines with their digests, each ended by a line feed
abbrev pub sealed : Chain → List (List ℕ) → List ℕ
sealed chain [] = []
sealed chain (line ∷ lines) = with_line (sealed_line chain line) (sealed (behind chain line) lines)
