-- main memory after one event more
use Rattle.std.proofs.Common.{◌≡◌, ◌∙◌, ℕ, List, [], ◌∷◌, ◌++◌, ap, refl}
use Rattle.chronicle.specs.Chronicle.{events}
use Rattle.coherence.specs.Beginning.{lines_at_first}
use Rattle.el_base.specs.declared.config.Config.{Config}
use Rattle.el_base.specs.declared.events.Event.{Event}
use Rattle.el_model.specs.Next.{next, state_after}
use Rattle.el_model.specs.State.{ModelState, begin}
use Rattle.elf_image.specs.Program.{Program}
use Rattle.engine.specs.MainMemory.{lines_from}
use Rattle.machine.specs.MainMemory.{lines_through, main_lines}
use Rattle.machine.specs.Story.{Story, state_of}

-- before the first event
pub first_lines : (program : Program) (config : Config) →
    main_lines (record { program = program; config = config; entries = [] }) ≡ lines_at_first program
unfolding main_lines
first_lines program config = refl

-- one event behind others
lines_through-push : (state : ModelState) (made : List Event) (event : Event) (lines : List (List ℕ)) →
    lines_through state (made ++ event ∷ []) lines ≡ lines_from (state_after state made) event
    (lines_through state made lines)
lines_through-push state [] event lines = refl
lines_through-push state (one ∷ made) event lines =
    lines_through-push (next state one).state made event (lines_from state one lines)

-- a story that goes on by an event
pub more_lines : (story later : Story) (event : Event) → later.program ≡ story.program → later.config ≡ story.config →
    events later.entries ≡ events story.entries ++ event ∷ [] →
    main_lines later ≡ lines_from (state_of story) event (main_lines story)
unfolding main_lines
more_lines story later event program config made =
    ap (λ p. lines_through (begin p later.config) (events later.entries) (lines_at_first p)) program
    ∙ ap (λ c. lines_through (begin story.program c) (events later.entries) (lines_at_first story.program)) config
    ∙ ap (λ list. lines_through (begin story.program story.config) list (lines_at_first story.program)) made
    ∙ lines_through-push (begin story.program story.config) (events story.entries) event (lines_at_first story.program)
