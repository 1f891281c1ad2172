-- The three differences between a certificate and a run: their numbers and names.
use Rattle.std.specs.Prelude.{ℕ, List, [], ◌∷◌, Option, codes}
use Rattle.el_base.specs.Numbered.{name_by_number}
use Rattle.run_check.specs.declared.verdict.Difference.{Difference}
use Rattle.run_check.specs.declared.verdict.Difference.TheVariants.{View, Output, Memory}

-- the number of a difference, in the order in which they are judged
abbrev pub number_of : Difference → ℕ
number_of View = 1
number_of Output = 2
number_of Memory = 3

-- the name of a difference
abbrev pub name_of : Difference → List ℕ
name_of View = codes "View"
name_of Output = codes "Output"
name_of Memory = codes "Memory"

-- all differences
abbrev pub differences : List Difference
differences = View ∷ Output ∷ Memory ∷ []

-- the name of the difference that has a number, or none
abbrev pub difference_name : ℕ → Option (List ℕ)
difference_name = name_by_number number_of name_of differences
