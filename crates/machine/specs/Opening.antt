-- what a machine began with, as a list of numbers
use Rattle.std.specs.Prelude.{ℕ, List, [], ◌∷◌, ◌++◌, length}
use Rattle.std.specs.List.{flat_map}
use Rattle.el_base.specs.Modes.{mode_number}
use Rattle.el_base.specs.declared.config.Config.{Config}
use Rattle.elf_image.specs.Program.{CodeSegment, Program}

-- a list, with its length before it
abbrev pub counted : List ℕ → List ℕ
counted numbers = length numbers ∷ numbers

abbrev pub segment_numbers : CodeSegment → List ℕ
segment_numbers segment = segment.start ∷ counted segment.bytes

abbrev pub program_numbers : Program → List ℕ
program_numbers program =
    program.base ∷ program.entry ∷ program.harts ∷ counted program.bytes
    ++ length program.code ∷ flat_map segment_numbers program.code

abbrev pub config_numbers : Config → List ℕ
config_numbers config =
    config.harts ∷ mode_number config.mode ∷ config.sets ∷ config.ways ∷ config.lines ∷ config.long ∷ config.steps ∷ []

-- the program and the configuration that a machine was made with
unfoldable pub opening_of : Program → Config → List ℕ
opening_of program config = config_numbers config ++ program_numbers program
