-- The six faults of a configuration: their numbers and names.
use Rattle.std.specs.Prelude.{ℕ, List, [], ◌∷◌, codes}
use Rattle.el_base.specs.declared.config.ConfigFault.{ConfigFault}
use Rattle.el_base.specs.declared.config.ConfigFault.TheVariants.{Harts, Sets, Ways, Lines, Long, Steps}

-- the number of a fault, in the order in which they are judged
abbrev pub number_of : ConfigFault → ℕ
number_of Harts = 1
number_of Sets = 2
number_of Ways = 3
number_of Lines = 4
number_of Long = 5
number_of Steps = 6

-- the name of a fault
abbrev pub name_of : ConfigFault → List ℕ
name_of Harts = codes "Harts"
name_of Sets = codes "Sets"
name_of Ways = codes "Ways"
name_of Lines = codes "Lines"
name_of Long = codes "Long"
name_of Steps = codes "Steps"

-- all faults
abbrev pub config_faults : List ConfigFault
config_faults = Harts ∷ Sets ∷ Ways ∷ Lines ∷ Long ∷ Steps ∷ []
