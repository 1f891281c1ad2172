-- The sixteen faults of an image: their numbers and names.
use Rattle.std.specs.Prelude.{ℕ, List, [], ◌∷◌, Option, codes}
use Rattle.el_base.specs.Numbered.{name_by_number}
use Rattle.el_base.specs.declared.file_fault.FileFault.{FileFault}
use Rattle.elf_image.specs.declared.fault.FaultKind.{FaultKind}
use Rattle.elf_image.specs.declared.fault.FaultKind.TheVariants.{Short, Magic, Class, ByteOrder, Version, FileKind}
use Rattle.elf_image.specs.declared.fault.FaultKind.TheVariants.{Machine, Flags, Table, Dynamic}
use Rattle.elf_image.specs.declared.fault.FaultKind.TheVariants.{Segment, Overlap, TooWide, TooHigh, Entry, Empty}

-- the number of a kind of fault
abbrev pub number_of : FaultKind → ℕ
number_of Short = 1
number_of Magic = 2
number_of Class = 3
number_of ByteOrder = 4
number_of Version = 5
number_of FileKind = 6
number_of Machine = 7
number_of Flags = 8
number_of Table = 9
number_of Dynamic = 10
number_of Segment = 11
number_of Overlap = 12
number_of TooWide = 13
number_of TooHigh = 14
number_of Entry = 15
number_of Empty = 16

-- the name of a kind of fault
abbrev pub name_of : FaultKind → List ℕ
name_of Short = codes "Short"
name_of Magic = codes "Magic"
name_of Class = codes "Class"
name_of ByteOrder = codes "ByteOrder"
name_of Version = codes "Version"
name_of FileKind = codes "FileKind"
name_of Machine = codes "Machine"
name_of Flags = codes "Flags"
name_of Table = codes "Table"
name_of Dynamic = codes "Dynamic"
name_of Segment = codes "Segment"
name_of Overlap = codes "Overlap"
name_of TooWide = codes "TooWide"
name_of TooHigh = codes "TooHigh"
name_of Entry = codes "Entry"
name_of Empty = codes "Empty"

-- all kinds of faults
abbrev pub fault_kinds : List FaultKind
fault_kinds =
    Short ∷ Magic ∷ Class ∷ ByteOrder ∷ Version ∷ FileKind ∷ Machine ∷ Flags ∷ Table ∷ Dynamic ∷ Segment
    ∷ Overlap ∷ TooWide ∷ TooHigh ∷ Entry ∷ Empty ∷ []

-- the name of the fault that has a number, or none
abbrev pub fault_name : ℕ → Option (List ℕ)
fault_name = name_by_number number_of name_of fault_kinds

-- the fault of a kind that a place of the file shows
abbrev pub fault_of : FaultKind → ℕ → FileFault
fault_of kind place = record { number = number_of kind; place = place }
