-- What `look` and `find` answer, from what was found in files.
use Rattle.std.proofs.Common.{◌≡◌, ◌∙◌, ℕ, ◌-◌, ◌<◌, ◌≤◌, ◌^◌, List, [], ◌∷◌, length, Option, None, refl, ap, subst}
use Rattle.std.proofs.Common.{sym, arith}
use Rattle.el_base.proofs.Laws.Ranges.{at_most, ranges}
use Rattle.el_base.specs.declared.config.Config.{Config}
use Rattle.el_base.specs.declared.events.Event.{Event}
use Rattle.el_base.specs.declared.outcomes.Outcome.{Outcome}
use Rattle.command_line.specs.Words.{FindJob, LookJob}
use Rattle.el_io.specs.Shelf.{Contents, Holds}
use Rattle.elf_image.specs.Limits.{file_limit}
use Rattle.elf_image.specs.Loaded.{program_of}
use Rattle.elf_image.specs.Program.{Program}
use Rattle.el_model.proofs.Laws.Folds.{length-entries_from}
use Rattle.el_model.specs.Next.{entries_from}
use Rattle.el_model.specs.State.{begin}
use Rattle.drive.specs.Story.{continued}
use Rattle.trace_file.proofs.Laws.OutcomeLaws.{number_again}
use Rattle.elf_image.specs.Faults.{fault}
use Rattle.elf_image.proofs.Laws.Loading.{loaded_harts}
use Rattle.step_back.specs.Standing.{Standing}
use Rattle.trace_file.specs.Faults.{config_at}
use Rattle.trace_file.specs.Spelling.{IsTrace, body}
use Rattle.el_base.specs.Firsts.{first_of}
use Rattle.tool.specs.declared.refusal.Refusal.{Refusal}
use Rattle.tool.specs.declared.stop.Stop.{Stop}
use Rattle.tool.specs.declared.stop.Stop.TheVariants.{Refused, Failed}
use Rattle.tool.specs.Answer.{found, looked}
use Rattle.tool.specs.Jobs.{IsFindAnswer, IsLookAnswer, IsStoryOf, PlaceAnswer, PlacesAnswer, first_story}
use Rattle.tool.specs.Refusals.{events_at, hart_refusal, image_refusal, place_refusal, trace_refusal}
use Rattle.tool.specs.Stopping.{IsTraceOf, StopsRead, StopsWith, hart_stop, place_stop}
use Rattle.tool.proofs.Files.{some_file}

-- an image that is too big is refused whatever the trace
pub image_not_looked_at : (job : LookJob) (told : Option Contents) (stop : Stop) →
    StopsRead told job.image file_limit stop → StopsWith (IsLookAnswer job told) stop
image_not_looked_at job told (Refused refusal) stopped =
    let file : (bytes : List ℕ) × Holds told job.trace bytes = some_file told job.trace in
    record { image = stopped.0; trace = file.0; image_file = stopped.1; trace_file = file.1; exact = rw stopped.2 refl }
image_not_looked_at job told (Failed fault) stopped = tt

pub image_not_sought_in : (job : FindJob) (told : Option Contents) (stop : Stop) →
    StopsRead told job.image file_limit stop → StopsWith (IsFindAnswer job told) stop
image_not_sought_in job told (Refused refusal) stopped =
    let file : (bytes : List ℕ) × Holds told job.trace bytes = some_file told job.trace in
    record { image = stopped.0; trace = file.0; image_file = stopped.1; trace_file = file.1; exact = rw stopped.2 refl }
image_not_sought_in job told (Failed fault) stopped = tt

-- a trace has as many events as its head says
pub events_counted : (file : List ℕ) (config : Config) (made : List Event) (recorded : Option (List Outcome)) →
    IsTraceOf file config made recorded → length made < 2 ^ 32 → events_at file ≡ length made
unfolding events_at
events_counted file config made recorded trace few =
    ap events_at trace.spelled ∙ number_again (length made) (body made recorded) few

-- of a trace there are few
few_made : {config : Config} {made : List Event} {recorded : Option (List Outcome)} → IsTrace config made recorded →
    length made < 2 ^ 32
few_made {config} trace =
    let inside = ranges config trace.in_range in
    let steps : config.steps ≤ 16777216 = at_most 1 16777216 config.steps inside.steps in
    omega (arith, trace.few)

-- the story that a trace tells of an image
told_of_trace : (image file : List ℕ) (config : Config) (made : List Event) (recorded : Option (List Outcome))
    (program : Program) → program ≡ program_of image config.harts → IsTraceOf file config made recorded →
    IsStoryOf image file
    (record { program = program; config = config; entries = entries_from (begin program config) made })
told_of_trace image file config made recorded program is trace = record {
  config = config;
  made = made;
  recorded = recorded;
  is_trace = trace.is_trace;
  spelled = trace.spelled;
  exact = ap (λ one. continued (first_story one config) made) is;
}

-- of refusals none of which is met the first is none
none_found : (trace image other : Option Refusal) → trace ≡ None → image ≡ None → other ≡ None →
    first_of (first_of (trace ∷ image ∷ []) ∷ other ∷ []) ≡ None
none_found trace image other first second third = rw (first, second, third) refl

-- a file spells a trace, and another is the image of a program for as many harts
pub record AreRead (image file : List ℕ) (config : Config) (made : List Event) (recorded : Option (List Outcome))
    (program : Program) : Type 0 where
  pub trace : IsTraceOf file config made recorded
  pub harts : (config_at file).harts ≡ config.harts
  pub accepted : fault image config.harts ≡ None
  pub program_is : program ≡ program_of image config.harts

-- neither is refused then
trace_accepted : {image file : List ℕ} {config : Config} {made : List Event} {recorded : Option (List Outcome)}
    {program : Program} → AreRead image file config made recorded program → trace_refusal file ≡ None
trace_accepted read = rw read.trace.accepted refl

image_accepted : {image file : List ℕ} {config : Config} {made : List Event} {recorded : Option (List Outcome)}
    {program : Program} → AreRead image file config made recorded program →
    image_refusal image (config_at file).harts ≡ None
image_accepted read = rw (read.harts, read.accepted) refl

-- a place of that story is what is told of it
pub place_shown : (job : LookJob) (image file : List ℕ) (config : Config) (made : List Event)
    (recorded : Option (List Outcome))
    (program : Program) (events place : ℕ) (shown : Standing) → AreRead image file config made recorded program →
    events ≡ length made → place_refusal job events ≡ None → place ≡ job.place - job.back →
    shown ≡ (record { program = program; entries = entries_from (begin program config) made; place = place }) →
    (place_stop job image file ≡ None) × PlaceAnswer job image file (looked shown)
place_shown job image file config made recorded program events place shown read counted passed is standing =
    let head : events_at file ≡ events =
    events_counted file config made recorded read.trace (few_made read.trace.is_trace) ∙ sym counted in (
      none_found (trace_refusal file) (image_refusal image (config_at file).harts) (place_refusal job (events_at file))
          (trace_accepted read) (image_accepted read) (ap (place_refusal job) head ∙ passed),
      record {
        story = record { program = program; config = config; entries = entries_from (begin program config) made };
        told = told_of_trace image file config made recorded program read.program_is read.trace;
        exact =
            ap looked
            (standing
            ∙ ap
            (λ at. record { program = program; entries = entries_from (begin program config) made; place = at })
            is);
      },
    )

-- and so are its places at which a hart comes to a pc
pub places_found : (job : FindJob) (image file : List ℕ) (config : Config) (made : List Event)
    (recorded : Option (List Outcome))
    (program : Program) (hart : ℕ) (standing : Standing) → AreRead image file config made recorded program →
    hart_refusal job config.harts ≡ None → hart ≡ job.hart → hart < config.harts →
    standing ≡ (record { program = program; entries = entries_from (begin program config) made; place = 0 }) →
    (hart_stop job image file ≡ None) × PlacesAnswer job image file
    (found standing.program standing.entries hart job.pc)
    × (hart < standing.program.harts)
places_found job image file config made recorded program hart standing read passed is exists stands =
    let harts : standing.program.harts ≡ config.harts =
    ap (λ (at : Standing). at.program.harts) stands
    ∙ ap (λ (one : Program). one.harts) read.program_is
    ∙ loaded_harts image config.harts in (
      none_found (trace_refusal file) (image_refusal image (config_at file).harts)
          (hart_refusal job (config_at file).harts)
          (trace_accepted read) (image_accepted read) (ap (hart_refusal job) read.harts ∙ passed),
      record {
        story = record { program = program; config = config; entries = entries_from (begin program config) made };
        told = told_of_trace image file config made recorded program read.program_is read.trace;
        exact = ap (λ (at : Standing). found at.program at.entries hart job.pc) stands
            ∙ ap (λ one. found program (entries_from (begin program config) made) one job.pc) is;
      },
      subst (λ number. hart < number) (sym harts) exists,
    )

-- there is an entry for each event
pub as_many_entries : (program : Program) (config : Config) (made : List Event) →
    length (entries_from (begin program config) made) ≡ length made
as_many_entries program config made = length-entries_from (begin program config) made
