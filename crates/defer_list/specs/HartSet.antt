-- a set of harts, as a list of their numbers
use Rattle.std.specs.Prelude.{ℕ, ◌≤◌, Bool, true, false, count_by, List, [], ◌∷◌, map, ◌==◌, if◌then◌else◌}
use Rattle.defer_list.specs.declared.told.Origin.{Origin}

-- whether the set has a hart
abbrev pub has : List ℕ → ℕ → Bool
has [] hart = false
has (first ∷ others) hart = if first == hart then true else has others hart

-- the set with a hart in it
abbrev pub included : List ℕ → ℕ → List ℕ
included harts hart = if has harts hart then harts else hart ∷ harts

-- the set without a hart
abbrev pub excluded : List ℕ → ℕ → List ℕ
excluded [] hart = []
excluded (first ∷ others) hart = if first == hart then excluded others hart else first ∷ excluded others hart

-- the numbers of these origins
abbrev pub numbers : List Origin → List ℕ
numbers origins = map (λ origin. origin.hart.number) origins

-- no hart is listed twice
abbrev pub IsOnceEach : List ℕ → Type 0
IsOnceEach harts = (hart : ℕ) → count_by (λ other. other == hart) harts ≤ 1
