-- a line is in a set of a cache once
use Rattle.std.specs.Prelude.{◌≡◌, List, [], ◌∷◌, None}
use Rattle.residency.specs.Residency.{Way, way_in}

-- no later way of the set has the line of an earlier one
abbrev pub IsOnce : List Way → Type 0
IsOnce [] = Unit {0}
IsOnce (way ∷ ways) = (way_in ways way.line ≡ None) × IsOnce ways

-- of each set of a cache
abbrev pub AreOnce : List (List Way) → Type 0
AreOnce [] = Unit {0}
AreOnce (set ∷ sets) = IsOnce set × AreOnce sets
