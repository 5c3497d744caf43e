-- The turns that workers had.
use Rattle.std.specs.Prelude.{List, [], ◌∷◌, Option, Some, None}
use Rattle.collector_pool.specs.declared.turn.Turn.{Turn}

-- a worker that had none adds nothing
abbrev pub turns_in : List (Option Turn) → List Turn
turns_in [] = []
turns_in (None ∷ rest) = turns_in rest
turns_in (Some turn ∷ rest) = turn ∷ turns_in rest
