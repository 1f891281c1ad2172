-- The nine faults of a certificate: their numbers and names.
use Rattle.std.specs.Prelude.{ℕ, List, [], ◌∷◌, Option, codes}
use Rattle.el_base.specs.Numbered.{name_by_number}
use Rattle.el_base.specs.declared.file_fault.FileFault.{FileFault}
use Rattle.file_numbers.specs.Fields.{fault_of_kind}
use Rattle.run_check.specs.declared.fault.FaultKind.{FaultKind}
use Rattle.run_check.specs.declared.fault.FaultKind.TheVariants.{Short, Magic, Version, Harts, Stretch, View, Output}
use Rattle.run_check.specs.declared.fault.FaultKind.TheVariants.{Lines, Tail}

-- the number of a kind of fault
abbrev pub number_of : FaultKind → ℕ
number_of Short = 1
number_of Magic = 2
number_of Version = 3
number_of Harts = 4
number_of Stretch = 5
number_of View = 6
number_of Output = 7
number_of Lines = 8
number_of Tail = 9

-- the name of a kind of fault
abbrev pub name_of : FaultKind → List ℕ
name_of Short = codes "Short"
name_of Magic = codes "Magic"
name_of Version = codes "Version"
name_of Harts = codes "Harts"
name_of Stretch = codes "Stretch"
name_of View = codes "View"
name_of Output = codes "Output"
name_of Lines = codes "Lines"
name_of Tail = codes "Tail"

-- all kinds of faults
abbrev pub fault_kinds : List FaultKind
fault_kinds = Short ∷ Magic ∷ Version ∷ Harts ∷ Stretch ∷ View ∷ Output ∷ Lines ∷ Tail ∷ []

-- the name of the fault that has a number, or none
abbrev pub fault_name : ℕ → Option (List ℕ)
fault_name = name_by_number number_of name_of fault_kinds

-- the fault of a kind that a place of the file shows
abbrev pub fault_of : FaultKind → ℕ → FileFault
fault_of = fault_of_kind number_of
