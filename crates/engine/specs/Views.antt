-- what a machine shows of its harts
use Rattle.std.specs.Prelude.{ℕ, List, map}
use Rattle.engine.specs.Parts.{hold_owner}
use Rattle.hart_state.specs.Own.{OwnState, new_own}
use Rattle.elf_image.specs.Program.{Program}
use Rattle.el_base.specs.declared.config.Config.{Config}
use Rattle.reg_mark.specs.Marks.{committed_of}
use Rattle.rv_alu.specs.declared.view.HartView.{HartView}
use Rattle.rv_flat.specs.FlatState.{first_view}

-- the committed view of each hart
abbrev pub committed_views : List OwnState → List HartView
committed_views harts = map (λ own. committed_of own.section.marks) harts

-- what a hart keeps before its first event
abbrev pub first_own : Program → Config → ℕ → OwnState
first_own program config h = new_own (first_view program h) config.lines (hold_owner h)
