-- runs of a program on plain shared memory
use Rattle.std.specs.Prelude.{ℕ, List, [], ◌∷◌, replicate}
use Rattle.rv_flat.specs.FlatState.{FlatState}
use Rattle.rv_flat.specs.Step.{flat}

-- a step of each hart of a list, from left to right
abbrev pub run : FlatState → List ℕ → FlatState
run state [] = state
run state (hart ∷ harts) = run (flat state hart) harts

-- so many steps of one hart
abbrev pub alone : FlatState → ℕ → ℕ → FlatState
alone state hart count = run state (replicate count hart)
