-- what is left of a hart's reservation after a store to a line
use Rattle.std.specs.Prelude.{ℕ, ◌==◌, Option, None, Some, if◌then◌else◌}
use Rattle.el_base.specs.Line.{line_number}
use Rattle.rv_alu.specs.declared.view.HartView.{HartView}

-- a reservation, unless it is of a word on the line
abbrev pub reserved_off : ℕ → Option ℕ → Option ℕ
reserved_off line None = None
reserved_off line (Some word) = if line_number word == line then None else Some word

-- a view without its reservation of a word on the line
abbrev pub unreserved : ℕ → HartView → HartView
unreserved line view = record view { reserved = reserved_off line view.reserved }
