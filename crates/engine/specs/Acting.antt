-- a hart that acts: it runs, waits for nothing, and holds nothing any more
use Rattle.std.specs.Prelude.{ℕ, ◌≡◌, ◌<◌, ◌≤◌, false, None, Some, length}
use Rattle.cache_sets.specs.Cached.{Cached}
use Rattle.cache_sets.specs.Slotted.{Slotted, lent}
use Rattle.coherence.specs.Lent.{slotted_at}
use Rattle.el_model.specs.State.{Armed, ModelState, Section, armed_of, has_request, hart_of, section_of, with_hart}
use Rattle.elf_image.specs.Limits.{end_limit}
use Rattle.elf_image.specs.Program.{code_word}
use Rattle.engine.specs.Parts.{IsInState, Parts, committed_at, present_at, room_in}
use Rattle.engine.specs.Reached.{IsReached}
use Rattle.rv_alu.specs.Action.{action_at}
use Rattle.rv_alu.specs.declared.action.Action.{Action}
use Rattle.rv_alu.specs.declared.view.HartStatus.TheVariants.{Running}
use Rattle.snoop.specs.Shows.{IsReady}

-- the state in which a hart has given up the line that it held
abbrev pub freed : ModelState → ℕ → ModelState
freed state h = with_hart state h (record (hart_of state h) { held_line = None })

-- the parts are in such a state, which comes of one that a program reaches; memory lies below the last address
pub record MayAct (parts : Parts) (h : ℕ) (state : ModelState) : Type 0 where
  pub reached : IsReached state
  pub is_in : IsInState parts (freed state h)
  pub ready : IsReady parts.bus
  pub exists : h < length parts.harts
  pub low : parts.span.end ≤ end_limit
  pub running : (committed_at parts.harts h).status ≡ Running
  pub free : has_request state h ≡ false

-- it may so from some state
pub record MayActSomewhere (parts : Parts) (h : ℕ) : Type 0 where
  pub from : ModelState
  pub may : MayAct parts h from

-- it may act outside of a section, in an armed one, or in a live one
pub record ActsOutside (parts : Parts) (h : ℕ) (state : ModelState) : Type 0 where
  pub may : MayAct parts h state
  pub no_section : section_of state h ≡ None
  pub no_armed : armed_of state h ≡ None

pub record ActsArmed (parts : Parts) (h : ℕ) (state : ModelState) (armed : Armed) : Type 0 where
  pub may : MayAct parts h state
  pub no_section : section_of state h ≡ None
  pub armed_is : armed_of state h ≡ Some armed

pub record ActsInside (parts : Parts) (h : ℕ) (state : ModelState) (section : Section) : Type 0 where
  pub may : MayAct parts h state
  pub live : section_of state h ≡ Some section

-- a hart's cache, and the same with the bytes of its lines
abbrev pub sets_in : Parts → ℕ → Slotted
sets_in parts h = slotted_at parts.bus.copies.caches h

abbrev pub cache_in : Parts → ℕ → Cached
cache_in parts h = lent parts.pool (sets_in parts h)

-- the action that a hart comes to next, as it sees itself
abbrev pub next_action : Parts → ℕ → Action
next_action parts h =
    let view = present_at parts.harts h in action_at (code_word parts.code view.pc) view parts.span (room_in parts)
