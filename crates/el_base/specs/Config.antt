-- The ranges of a machine's configuration.
use Rattle.std.specs.Prelude.{ℕ, Bool, List, [], ◌∷◌, ◌≡◌, Option, None, ◌==◌, ◌&&◌, nat_le, not}
use Rattle.std.specs.List.{list_any}
use Rattle.el_base.specs.Firsts.{first_of, some_if}
use Rattle.el_base.specs.declared.hart_id.TheConstants.{MAX_HARTS}
use Rattle.el_base.specs.declared.config.TheConstants.{MAX_STEPS}
use Rattle.el_base.specs.declared.config.Config.{Config}
use Rattle.el_base.specs.declared.config.Mode.TheVariants.{Tlr}
use Rattle.el_base.specs.declared.config.ConfigFault.{ConfigFault}
use Rattle.el_base.specs.declared.config.ConfigFault.TheVariants.{Harts, Sets, Ways, Lines, Long, Steps}

-- the configuration of a machine of which nothing was asked
abbrev pub usual : Config
usual = record { harts = 1; mode = Tlr; sets = 16; ways = 4; lines = 16; long = 2000; steps = 4000000 }

-- from the first number to the second
abbrev pub within : ℕ → ℕ → ℕ → Bool
within low high n = nat_le low n && nat_le n high

-- the numbers of sets that a cache may have
abbrev pub set_counts : List ℕ
set_counts = 1 ∷ 2 ∷ 4 ∷ 8 ∷ 16 ∷ 32 ∷ 64 ∷ []

-- whether the field that a fault names may have this number
abbrev pub allows : ConfigFault → ℕ → Bool
allows Harts n = within 1 MAX_HARTS n
allows Sets n = list_any (λ count. count == n) set_counts
allows Ways n = within 1 8 n
allows Lines n = within 1 32 n
allows Long n = within 2 65536 n
allows Steps n = within 1 MAX_STEPS n

-- the fault of a field with this number, if it has one
abbrev pub field_fault : ConfigFault → ℕ → Option ConfigFault
field_fault fault n = some_if (not (allows fault n)) fault

-- the first field that is out of its range, if there is one
abbrev pub config_fault : Config → Option ConfigFault
config_fault config =
    first_of
    (field_fault Harts config.harts
    ∷ field_fault Sets config.sets
    ∷ field_fault Ways config.ways
    ∷ field_fault Lines config.lines
    ∷ field_fault Long config.long
    ∷ field_fault Steps config.steps
    ∷ [])

-- each field is in its range
abbrev pub IsInRange : Config → Type 0
IsInRange config = config_fault config ≡ None
