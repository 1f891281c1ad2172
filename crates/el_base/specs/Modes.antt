-- Modes of a machine: their numbers and their words.
use Rattle.std.specs.Prelude.{ℕ, List, codes, bytes_eq, Option, None, Some, if◌then◌else◌}
use Rattle.el_base.specs.declared.config.Mode.{Mode}
use Rattle.el_base.specs.declared.config.Mode.TheVariants.{Plain, Sle, Tlr}

-- the number of a mode, which is its code in a trace
abbrev pub mode_number : Mode → ℕ
mode_number Plain = 0
mode_number Sle = 1
mode_number Tlr = 2

-- the word of a mode, on a command line and in a report
abbrev pub mode_word : Mode → List ℕ
mode_word Plain = codes "plain"
mode_word Sle = codes "sle"
mode_word Tlr = codes "tlr"

-- the mode of a word
abbrev pub mode_of : List ℕ → Option Mode
mode_of word =
    if bytes_eq word (codes "plain") then Some Plain
    else if bytes_eq word (codes "sle") then Some Sle
    else if bytes_eq word (codes "tlr") then Some Tlr
    else None
