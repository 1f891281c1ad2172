-- where memory lies in the states that programs reach
use Rattle.std.proofs.Common.{◌+◌, ◌≤◌, List, length, sym, subst, arith}
use Rattle.chronicle.specs.Serial.{serial}
use Rattle.el_base.specs.declared.config.Config.{Config}
use Rattle.el_base.specs.declared.events.Event.{Event}
use Rattle.el_model.proofs.Laws.Folds.{serial_run}
use Rattle.el_model.specs.Next.{after, entries_from}
use Rattle.el_model.specs.State.{ModelState, begin}
use Rattle.elf_image.specs.Limits.{end_limit}
use Rattle.elf_image.specs.Program.{Program}
use Rattle.engine.specs.Reached.{IsReached}
use Rattle.rv_flat.proofs.Laws.Shapes.{keeps_run}
use Rattle.rv_flat.specs.FlatState.{FlatState, span_of, start}
use Rattle.rv_flat.specs.Laws.{KeepsShape}

-- whatever the events, memory lies where the program's does, and there are as many harts
pub keeps_place : (program : Program) (config : Config) (events : List Event) →
    KeepsShape (start program) (after program config events).committed
unfolding begin
keeps_place program config events =
    subst (KeepsShape (start program)) (sym (serial_run (begin program config) events))
    (keeps_run (start program) (serial (entries_from (begin program config) events)))

-- memory ends below the last address
ends : (program : Program) (state : FlatState) → KeepsShape (start program) state →
    program.base + length program.bytes ≤ end_limit → state.base + length state.bytes ≤ end_limit
unfolding start
ends program state keeps high = omega (arith, keeps.base, keeps.length_of_bytes, high)

pub span_small : (state : ModelState) → IsReached state → (span_of state.committed).end ≤ end_limit
span_small state reached =
    subst (λ s. (span_of s.committed).end ≤ end_limit) (sym reached.state_is)
    (ends reached.program (after reached.program reached.config reached.events).committed
    (keeps_place reached.program reached.config reached.events) reached.is_program.not_high)
