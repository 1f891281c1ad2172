-- Fields of a file that is judged from left to right, and their faults, whatever a format's faults are.
use Rattle.std.specs.Prelude.{ℕ, not, ◌==◌, nat_lt, if◌then◌else◌, List, length, slice_index, Option, Some}
use Rattle.el_base.specs.Firsts.{some_if}
use Rattle.el_base.specs.declared.file_fault.FileFault.{FileFault}

-- the fault of a kind that a place of the file shows, by the numbers of its format's kinds
abbrev pub fault_of_kind : {Kind : Type 0} → (Kind → ℕ) → Kind → ℕ → FileFault
fault_of_kind number_of kind place = record { number = number_of kind; place = place }

-- a field that ends at this place: the file ends in it, and is short, or the field has this fault, if it has one
unfoldable pub short_or : (ℕ → FileFault) → List ℕ → ℕ → Option FileFault → Option FileFault
short_or short file end fault = if nat_lt (length file) end then Some (short (length file)) else fault

-- the byte at a place is not the one that is wanted there
abbrev pub wrong_byte : (ℕ → FileFault) → List ℕ → ℕ → ℕ → Option FileFault
wrong_byte fault file place wanted = some_if (not (slice_index file place == wanted)) (fault place)
