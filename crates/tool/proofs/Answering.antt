-- What is an answer, from what was found in files.
use Rattle.std.proofs.Common.{◌≡◌, ℕ, List, Option, Some, refl}
use Rattle.command_line.specs.Settings.{config_of}
use Rattle.command_line.specs.Words.{ReplayJob, RunJob}
use Rattle.el_base.specs.Config.{config_fault}
use Rattle.el_base.specs.declared.config.ConfigFault.{ConfigFault}
use Rattle.el_io.specs.Shelf.{Contents, Holds}
use Rattle.elf_image.specs.Limits.{file_limit}
use Rattle.tool.specs.declared.refusal.Refusal.TheVariants.{Config}
use Rattle.tool.specs.declared.stop.Stop.{Stop}
use Rattle.tool.specs.declared.stop.Stop.TheVariants.{Refused, Failed}
use Rattle.tool.specs.Answer.{refused}
use Rattle.tool.specs.Jobs.{IsCheckAnswer, IsReplayAnswer, IsRunAnswer}
use Rattle.tool.specs.Stopping.{StopsRead, StopsWith}
use Rattle.tool.proofs.Files.{some_file}

-- a configuration is refused whatever the image
pub config_refused : (job : RunJob) (told : Option Contents) (fault : ConfigFault) →
    config_fault (config_of job) ≡ Some fault → IsRunAnswer job told (refused (Config fault))
config_refused job told fault found =
    let image : (file : List ℕ) × Holds told job.image file = some_file told job.image in
    record { image = image.0; image_file = image.1; exact = rw found refl }

-- an image that is too big is refused whatever the trace
pub image_unread : (job : ReplayJob) (told : Option Contents) (stop : Stop) → StopsRead told job.image file_limit stop →
    StopsWith (IsReplayAnswer job told) stop
image_unread job told (Refused refusal) stopped =
    let file : (bytes : List ℕ) × Holds told job.trace bytes = some_file told job.trace in
    record { image = stopped.0; trace = file.0; image_file = stopped.1; trace_file = file.1; exact = rw stopped.2 refl }
image_unread job told (Failed fault) stopped = tt

-- an image that is too big is refused whatever the certificate
pub image_unchecked : (image certificate : List ℕ) (told : Option Contents) (stop : Stop) →
    StopsRead told image file_limit stop → StopsWith (IsCheckAnswer image certificate told) stop
image_unchecked image certificate told (Refused refusal) stopped =
    let file : (bytes : List ℕ) × Holds told certificate bytes = some_file told certificate in
    record {
      image = stopped.0;
      certificate = file.0;
      image_file = stopped.1;
      certificate_file = file.1;
      exact = rw stopped.2 refl;
    }
image_unchecked image certificate told (Failed fault) stopped = tt
