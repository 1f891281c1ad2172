-- the states that programs reach
use Rattle.std.specs.Prelude.{◌≡◌, ◌≤◌, List, length}
use Rattle.coherence.specs.Beginning.{lines_at_first}
use Rattle.el_base.specs.Config.{IsInRange}
use Rattle.el_base.specs.declared.config.Config.{Config}
use Rattle.el_base.specs.declared.events.Event.{Event}
use Rattle.el_model.specs.Next.{after}
use Rattle.el_model.specs.State.{ModelState, begin}
use Rattle.elf_image.specs.Program.{IsProgram, Program}
use Rattle.engine.specs.Parts.{IsInState, Parts}
use Rattle.rv_flat.specs.Memory.{AreBytes}
use Rattle.snoop.specs.Shows.{IsReady}

-- some program, whose memory is bytes, reaches the state under a configuration for as many harts, by
-- no more events than that allows
pub record IsReached (state : ModelState) : Type 0 where
  pub program : Program
  pub config : Config
  pub events : List Event
  pub is_program : IsProgram program
  pub bytes : AreBytes program.bytes
  pub in_range : IsInRange config
  pub one_hart_each : program.harts ≡ config.harts
  pub within : length events ≤ config.steps
  pub state_is : state ≡ after program config events

-- the parts before the first event: the bus is ready, they are in the definition's first state, and main memory is
-- the program's bytes, line by line
pub record Begins (parts : Parts) (program : Program) (config : Config) : Type 0 where
  pub ready : IsReady parts.bus
  pub is_in : IsInState parts (begin program config)
  pub memory : parts.bus.copies.lines ≡ lines_at_first program

-- what each call needs of a machine's parts: the bus is ready, and they are in a state that a program reaches
pub record EngineStands (parts : Parts) : Type 0 where
  pub ready : IsReady parts.bus
  pub state : ModelState
  pub reached : IsReached state
  pub is_in : IsInState parts state
