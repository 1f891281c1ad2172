-- main memory after the events of a story
use Rattle.std.specs.Prelude.{ℕ, List, [], ◌∷◌}
use Rattle.chronicle.specs.Chronicle.{events}
use Rattle.coherence.specs.Beginning.{lines_at_first}
use Rattle.el_base.specs.declared.events.Event.{Event}
use Rattle.el_model.specs.Next.{next}
use Rattle.el_model.specs.State.{ModelState, begin}
use Rattle.engine.specs.MainMemory.{lines_from}
use Rattle.machine.specs.Story.{Story}

-- after these events from a state on, from left to right
abbrev pub lines_through : ModelState → List Event → List (List ℕ) → List (List ℕ)
lines_through state [] lines = lines
lines_through state (event ∷ events) lines =
    lines_through (next state event).state events (lines_from state event lines)

-- before the first event it is the program's bytes, and each event that writes a line back
-- puts the committed bytes there
unfoldable pub main_lines : Story → List (List ℕ)
main_lines story =
    lines_through (begin story.program story.config) (events story.entries) (lines_at_first story.program)
