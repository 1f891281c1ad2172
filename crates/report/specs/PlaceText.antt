-- The text of one place of a run, and of the places at which a hart comes to a pc.
use Rattle.std.specs.Prelude.{ℕ, List, ◌∷◌, ◌++◌, length, codes}
use Rattle.std.specs.Fmt.{decimal}
use Rattle.std.specs.List.{flat_map, range_with_len}
use Rattle.el_base.specs.declared.entries.Entry.{Entry}
use Rattle.elf_image.specs.Program.{Program}
use Rattle.report.specs.Line.{eight_digits, line, number_line}
use Rattle.report.specs.Text.{last_line, status_words}
use Rattle.rv_alu.specs.declared.view.HartStatus.{HartStatus}
use Rattle.rv_alu.specs.declared.view.HartView.{HartView}
use Rattle.rv_flat.specs.FlatState.{view_of}
use Rattle.step_back.specs.Standing.{Standing, places_of, serial_to, state_here}

-- the line of a hart: its number, its committed pc and its status
unfoldable pub pc_line : ℕ → ℕ → HartStatus → List ℕ
pc_line hart pc status = line (codes "hart") (decimal hart ∷ codes "pc" ∷ eight_digits pc ∷ status_words status)

-- that of a hart with this view
abbrev pub view_line : (ℕ → HartView) → ℕ → List ℕ
view_line view hart = pc_line hart (view hart).pc (view hart).status

-- the first harts, so many of them, and the lengths of the serial order and of the output
abbrev pub place_text : ℕ → (ℕ → HartView) → ℕ → ℕ → List ℕ
place_text harts view steps output = flat_map (view_line view) (range_with_len 0 harts) ++ last_line steps output

-- the text of a place of a run
abbrev pub place_of : Standing → List ℕ
place_of standing =
    place_text standing.program.harts (view_of (state_here standing))
    (length (serial_to standing.entries standing.place)) (length (state_here standing).output)

-- the places of a run at which a hart comes to a pc, each on its line
abbrev pub found_text : Program → List Entry → ℕ → ℕ → List ℕ
found_text program entries hart pc = flat_map number_line (places_of program entries hart pc)
