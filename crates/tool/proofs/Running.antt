-- What a run has made, from its parts.
use Rattle.std.proofs.Common.{◌≡◌, ◌∙◌, ℕ, Bool, List, Option, None, Some, ap, sym}
use Rattle.std.specs.Prelude.{IfSome}
use Rattle.elf_image.specs.Program.{Program}
use Rattle.el_base.specs.declared.config.Config.{Config}
use Rattle.drive.specs.Story.{Story}
use Rattle.tool.specs.declared.made.Certified.{Certified}
use Rattle.tool.specs.Answer.{ended}
use Rattle.tool.specs.Jobs.{DriversMade, MakesRun, first_story}

drivers_keep : (threads : Option ℕ) (before driven : Story) → DriversMade threads before driven →
    driven.program ≡ before.program
drivers_keep None before driven same = ap (λ (story : Story). story.program) same
drivers_keep (Some turns) before driven drivers = ap (λ (story : Story). story.program) drivers.by_turns.story

-- a run is of the program that it began with
pub runs_its_program : (threads : Option ℕ) (program : Program) (config : Config) (later : Story) →
    MakesRun threads (first_story program config) later → later.program ≡ program
runs_its_program threads program config later run =
    ap (λ (story : Story). story.program) run.round_robin.story
    ∙ drivers_keep threads (first_story program config) run.driven run.drivers

-- so a copy of the image that was loaded is of the program that has run
pub copies_what_ran : (certified : Option Certified) (threads : Option ℕ) (program : Program) (config : Config)
    (later : Story) → MakesRun threads (first_story program config) later →
    IfSome certified (λ copy. copy.image ≡ program) → IfSome certified (λ copy. copy.image ≡ later.program)
copies_what_ran None threads program config later run copies = copies
copies_what_ran (Some copy) threads program config later run copies =
    copies ∙ sym (runs_its_program threads program config later run)

-- the same files have the same answer
pub same_files : (trace cert given : Option (List ℕ)) (times : Bool) (story : Story) → cert ≡ given →
    ended (record { trace = trace; cert = cert; times = times }) story
    ≡ ended (record { trace = trace; cert = given; times = times }) story
same_files trace cert given times story same =
    ap (λ (one : Option (List ℕ)). ended (record { trace = trace; cert = one; times = times }) story) same
