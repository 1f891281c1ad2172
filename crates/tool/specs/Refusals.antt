-- What a command is refused for: of each list, the first.
use Rattle.std.specs.Prelude.{ℕ, List, [], ◌∷◌, length, nat_le, nat_lt, Option}
use Rattle.std.specs.Option.{option_map}
use Rattle.command_line.specs.Settings.{config_of}
use Rattle.command_line.specs.Words.{FindJob, LookJob, RunJob}
use Rattle.el_base.specs.Config.{config_fault}
use Rattle.el_base.specs.Firsts.{first_of, some_if}
use Rattle.el_base.specs.declared.config.Config as settings
use Rattle.elf_image.specs.Faults.{fault}
use Rattle.elf_image.specs.Limits.{file_limit}
use Rattle.file_numbers.specs.Numbers.{number_at}
use Rattle.run_check.specs.Faults.{certificate_fault, harts_of}
use Rattle.trace_file.specs.Faults.{config_at, trace_fault}
use Rattle.tool.specs.declared.refusal.Refusal.{Refusal}
use Rattle.tool.specs.declared.refusal.Refusal.TheVariants.{Config, TooBig, Image, Trace, Certificate, PlaceOverEnd}
use Rattle.tool.specs.declared.refusal.Refusal.TheVariants.{BackOverStart, NoSuchHart}

-- the most bytes that a trace may have
abbrev pub trace_limit : ℕ
trace_limit = 167772182

-- the most bytes that a certificate may have
abbrev pub certificate_limit : ℕ
certificate_limit = 118490210

-- a configuration has a field out of its range
abbrev pub config_refusal : settings.Config → Option Refusal
config_refusal config = option_map Config (config_fault config)

-- a file has more bytes than its limit
abbrev pub size_refusal : ℕ → List ℕ → Option Refusal
size_refusal limit file = some_if (nat_lt limit (length file)) (TooBig limit)

-- a file is no image of a program for so many harts
abbrev pub image_refusal : List ℕ → ℕ → Option Refusal
image_refusal file harts = option_map Image (fault file harts)

-- a file is no trace
abbrev pub trace_refusal : List ℕ → Option Refusal
trace_refusal file =
    option_map (λ found. Trace (record { number = found.number; place = found.place })) (trace_fault file)

-- a file is no certificate
abbrev pub certificate_refusal : List ℕ → Option Refusal
certificate_refusal file = option_map Certificate (certificate_fault file)

-- of a run of an image file
abbrev pub run_refusal : RunJob → List ℕ → Option Refusal
run_refusal job image =
    first_of
    (config_refusal (config_of job)
    ∷ size_refusal file_limit image
    ∷ image_refusal image (config_of job).harts
    ∷ [])

-- of a replay of a trace on an image file
abbrev pub replay_refusal : List ℕ → List ℕ → Option Refusal
replay_refusal image trace =
    first_of
    (size_refusal file_limit image
    ∷ size_refusal trace_limit trace
    ∷ trace_refusal trace
    ∷ image_refusal image (config_at trace).harts
    ∷ [])

-- how many events a trace has, as its head says
unfoldable pub events_at : List ℕ → ℕ
events_at trace = number_at trace 18

-- a place is over the end of a trace of so many events, or so many places back are over its start
unfoldable pub place_refusal : LookJob → ℕ → Option Refusal
place_refusal job events =
    first_of
    (some_if (nat_lt events job.place) (PlaceOverEnd events)
    ∷ some_if (nat_lt job.place job.back) (BackOverStart job.place)
    ∷ [])

-- a trace of so many harts is of no such hart
unfoldable pub hart_refusal : FindJob → ℕ → Option Refusal
hart_refusal job harts = some_if (nat_le harts job.hart) NoSuchHart

-- of a place of a trace on an image file
abbrev pub look_refusal : LookJob → List ℕ → List ℕ → Option Refusal
look_refusal job image trace = first_of (replay_refusal image trace ∷ place_refusal job (events_at trace) ∷ [])

-- of a hart of a trace on an image file
abbrev pub find_refusal : FindJob → List ℕ → List ℕ → Option Refusal
find_refusal job image trace = first_of (replay_refusal image trace ∷ hart_refusal job (config_at trace).harts ∷ [])

-- of a certificate and an image file
abbrev pub check_refusal : List ℕ → List ℕ → Option Refusal
check_refusal image certificate =
    first_of
    (size_refusal file_limit image
    ∷ size_refusal certificate_limit certificate
    ∷ certificate_refusal certificate
    ∷ image_refusal image (harts_of certificate)
    ∷ [])
