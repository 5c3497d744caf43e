-- What of lines with digests is read, and what is read are such lines.
use Rattle.std.specs.Prelude.{◌≡◌, ◌⊎◌, ℕ, List, [], ◌∷◌, ◌++◌, Ok, true}
use Rattle.sealed_lines.specs.Chains.{chain_after, sealed, start}
use Rattle.sealed_lines.specs.Lines.{AreLines, written}
use Rattle.sealed_lines.specs.Reading.{is_sealed, read_as, unsealed}
use Rattle.sealed_lines.specs.declared.unsealing.PlainLines.{PlainLines}

-- lines that are written with their digests are told to have them, and are read
abbrev pub SealedAreRead : Type 0
SealedAreRead =
    (first : List ℕ) (lines : List (List ℕ)) → AreLines (first ∷ lines)
    → (is_sealed (sealed start (first ∷ lines)) ≡ true) × (unsealed (sealed start (first ∷ lines)) ≡ Ok (read_as (written (first ∷ lines)) (chain_after start (first ∷ lines))))

-- The text is that of these lines with their digests, of which the last may want its line feed.
pub record IsSealed (text : List ℕ) (u : PlainLines) : Type 0 where
  pub lines : List (List ℕ)
  pub are : AreLines lines
  pub whole : (text ≡ sealed start lines) ⊎ (text ++ 10 ∷ [] ≡ sealed start lines)
  pub says : u.text ≡ written lines
  pub chain : u.chain ≡ chain_after start lines

-- Whatever text is accepted: byte for byte it is its lines with the digest of each behind that of the one before.
abbrev pub AcceptedAreSealed : Type 0
AcceptedAreSealed = (text : List ℕ) (u : PlainLines) → unsealed text ≡ Ok u → IsSealed text u
