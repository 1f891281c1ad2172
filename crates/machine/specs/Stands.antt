-- what is true of every machine
use Rattle.std.specs.Prelude.{ℕ, ◌≡◌, ◌<◌, ◌≤◌, All, length}
use Rattle.chronicle.specs.Chronicle.{events}
use Rattle.el_base.specs.Config.{IsInRange}
use Rattle.el_model.specs.Next.{entries_from}
use Rattle.el_model.specs.State.{begin}
use Rattle.elf_image.specs.Program.{IsProgram}
use Rattle.engine.specs.Parts.{IsInState, Parts}
use Rattle.machine.specs.MainMemory.{main_lines}
use Rattle.machine.specs.Story.{Story, state_of}
use Rattle.rv_flat.specs.Memory.{AreBytes}
use Rattle.engine.specs.Shows.{IsReady}

-- a machine was made of a program, whose memory is bytes, and a configuration for as many harts, and was given events
-- of its harts, no more than that allows, with a place in its history for each step
pub record IsGiven (story : Story) (room : ℕ) : Type 0 where
  pub program : IsProgram story.program
  pub bytes : AreBytes story.program.bytes
  pub in_range : IsInRange story.config
  pub one_hart_each : story.program.harts ≡ story.config.harts
  pub places : room ≡ story.config.steps
  pub within : length story.entries ≤ story.config.steps
  pub harts_exist : All (λ event. event.hart.number < story.config.harts) (events story.entries)

-- its bus is ready, its parts are in the state after these events, with main memory as they have left it, and the
-- entries are those of the definition
pub record MachineStands (story : Story) (parts : Parts) (room : ℕ) : Type 0 where
  pub given : IsGiven story room
  pub ready : IsReady parts.bus
  pub is_in : IsInState parts (state_of story)
  pub memory : parts.bus.copies.lines ≡ main_lines story
  pub entries : story.entries ≡ entries_from (begin story.program story.config) (events story.entries)
