-- The lines that a session writes.
use Rattle.std.specs.Prelude.{ℕ, ◌+◌, List, [], ◌∷◌, ◌++◌, codes}
use Rattle.std.specs.Fmt.{decimal}
use Rattle.collector_pool.specs.declared.turn.Turn.{Turn}
use Rattle.session.specs.declared.sums.Sums.{Sums}

abbrev pub no_sums : Sums
no_sums = record { booked = 0; refused = 0; samples = 0 }

abbrev pub with_turn : Sums → Turn → Sums
with_turn sums turn = record { booked = sums.booked + turn.booked; refused = sums.refused + turn.refused; samples = sums.samples + turn.samples }

-- the sums with those of these turns
abbrev pub sums_from : Sums → List Turn → Sums
sums_from sums [] = sums
sums_from sums (turn ∷ turns) = sums_from (with_turn sums turn) turns

abbrev pub round_line : ℕ → Sums → List ℕ
round_line round sums =
    codes "round " ++ (decimal round ++ (codes " booked " ++ (decimal sums.booked ++ (codes " refused " ++ (decimal sums.refused ++ (codes " samples " ++ (decimal sums.samples ++ codes "\n")))))))

-- a source that was refused, by the job's name as it stands, the source's number and the refusal's name
abbrev pub source_line : List ℕ → ℕ → List ℕ → List ℕ
source_line job source name = codes "source " ++ (job ++ (codes " " ++ (decimal source ++ (codes " " ++ (name ++ codes "\n")))))

abbrev pub total_line : ℕ → List ℕ
total_line total = codes "total " ++ (decimal total ++ codes "\n")
