-- each element of a list once
use Rattle.std.specs.Prelude.{Bool, List, [], ◌∷◌, filter, not}

-- the elements of a list, each at its first place alone, by a test that says which are the same
abbrev pub firsts : {X : Type 0} → (X → X → Bool) → List X → List X
firsts same [] = []
firsts same (x ∷ xs) = x ∷ filter (λ y. not (same x y)) (firsts same xs)
