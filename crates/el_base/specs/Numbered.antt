-- Kinds that are told by a number and a name.
use Rattle.std.specs.Prelude.{ℕ, ◌==◌, List, Option, find, option_map}

-- the name of the kind that has a number, or none
abbrev pub name_by_number : {Kind : Type 0} → (Kind → ℕ) → (Kind → List ℕ) → List Kind → ℕ → Option (List ℕ)
name_by_number number_of name_of kinds number = option_map name_of (find (λ kind. number_of kind == number) kinds)
