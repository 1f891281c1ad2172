-- The first of several things that may be there.
use Rattle.std.specs.Prelude.{Bool, List, [], ◌∷◌, Option, None, Some, if◌then◌else◌}
use Rattle.std.specs.Option.{option_or}

-- this value where the condition holds, and none elsewhere
abbrev pub some_if : {A : Type 0} → Bool → A → Option A
some_if condition value = if condition then Some value else None

-- the first that is some
abbrev pub first_of : {A : Type 0} → List (Option A) → Option A
first_of [] = None
first_of (found ∷ others) = option_or found (first_of others)
