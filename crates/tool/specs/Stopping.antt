-- What stopped a command before anything was put.
use Rattle.std.specs.Prelude.{◌≡◌, ℕ, List, [], ◌∷◌, Option, None, Some}
use Rattle.command_line.specs.Words.{FindJob, LookJob}
use Rattle.command_line.specs.declared.fault.WordsFault.{WordsFault}
use Rattle.command_line.specs.declared.fault.WordsFault.TheVariants as words_faults
use Rattle.el_base.specs.Firsts.{first_of}
use Rattle.el_base.specs.declared.config.Config.{Config}
use Rattle.el_base.specs.declared.events.Event.{Event}
use Rattle.el_base.specs.declared.outcomes.Outcome.{Outcome}
use Rattle.el_io.specs.Shelf.{Contents, Holds}
use Rattle.el_io.specs.declared.shelf.ShelfFault.{ShelfFault}
use Rattle.el_io.specs.declared.shelf.ShelfFault.TheVariants as shelf_faults
use Rattle.elf_image.specs.declared.loader.ImageFault.{ImageFault}
use Rattle.elf_image.specs.declared.loader.ImageFault.TheVariants as image_faults
use Rattle.drive.specs.MakeFault.{MakeFault}
use Rattle.drive.specs.MakeFault.TheVariants as make_faults
use Rattle.run_check.specs.Content.{Content}
use Rattle.run_check.specs.Faults.{certificate_fault, harts_of}
use Rattle.run_check.specs.Spelling as certificates
use Rattle.run_check.specs.Spelling.{IsCertificate}
use Rattle.run_check.specs.declared.fault.CertFault.{CertFault}
use Rattle.run_check.specs.declared.fault.CertFault.TheVariants as certificate_faults
use Rattle.trace_file.specs.Faults.{config_at, trace_fault}
use Rattle.trace_file.specs.Spelling.{IsTrace, spelling}
use Rattle.trace_file.specs.declared.fault.TraceFault.{TraceFault}
use Rattle.trace_file.specs.declared.fault.TraceFault.TheVariants as trace_faults
use Rattle.tool.specs.declared.refusal.Refusal.{Refusal}
use Rattle.tool.specs.declared.refusal.Refusal.TheVariants as refusals
use Rattle.tool.specs.declared.stop.Fault.{Fault}
use Rattle.tool.specs.declared.stop.Fault.TheVariants.{Device, NoMemory}
use Rattle.tool.specs.declared.stop.Stop.{Stop}
use Rattle.tool.specs.declared.stop.Stop.TheVariants.{Refused, Failed}
use Rattle.tool.specs.Answer.{Answer, refused}
use Rattle.tool.specs.Refusals.{certificate_refusal, events_at, hart_refusal, image_refusal, place_refusal}
use Rattle.tool.specs.Refusals.{size_refusal, trace_refusal}

-- how each error of a callee stops a command
abbrev pub stop_of_words_fault : WordsFault → Stop
stop_of_words_fault words_faults.Usage = Refused refusals.Usage
stop_of_words_fault words_faults.NoMemory = Failed NoMemory

abbrev pub stop_of_image_fault : ImageFault → Stop
stop_of_image_fault (image_faults.Bad number place) =
    Refused (refusals.Image (record { number = number; place = place }))
stop_of_image_fault image_faults.NoMemory = Failed NoMemory

abbrev pub stop_of_trace_fault : TraceFault → Stop
stop_of_trace_fault (trace_faults.Bad number place) =
    Refused (refusals.Trace (record { number = number; place = place }))
stop_of_trace_fault trace_faults.NoMemory = Failed NoMemory

abbrev pub stop_of_certificate_fault : CertFault → Stop
stop_of_certificate_fault (certificate_faults.Bad number place) =
    Refused (refusals.Certificate (record { number = number; place = place }))
stop_of_certificate_fault certificate_faults.NoMemory = Failed NoMemory

abbrev pub stop_of_make_fault : MakeFault → Stop
stop_of_make_fault (make_faults.Config fault) = Refused (refusals.Config fault)
stop_of_make_fault make_faults.NoMemory = Failed NoMemory

-- how each error of the write of a file does
abbrev pub fault_of_shelf : ShelfFault → Fault
fault_of_shelf shelf_faults.Failed = Device
fault_of_shelf shelf_faults.TooBig = Device
fault_of_shelf shelf_faults.NoMemory = NoMemory

-- a trace, and what it spells
pub record IsTraceOf (file : List ℕ) (config : Config) (made : List Event)
    (recorded : Option (List Outcome)) : Type 0 where
  pub accepted : trace_fault file ≡ None
  pub is_trace : IsTrace config made recorded
  pub spelled : file ≡ spelling config made recorded

-- a certificate, and what it spells
pub record IsCertificateOf (file : List ℕ) (content : Content) : Type 0 where
  pub accepted : certificate_fault file ≡ None
  pub is_certificate : IsCertificate content
  pub spelled : file ≡ certificates.spelling content

-- the refusals of a replay of files within their limits
abbrev pub follow_refusal : List ℕ → List ℕ → Option Refusal
follow_refusal image trace = first_of (trace_refusal trace ∷ image_refusal image (config_at trace).harts ∷ [])

-- the refusals of a place, and of a hart, of files within their limits
abbrev pub place_stop : LookJob → List ℕ → List ℕ → Option Refusal
place_stop job image trace = first_of (follow_refusal image trace ∷ place_refusal job (events_at trace) ∷ [])

abbrev pub hart_stop : FindJob → List ℕ → List ℕ → Option Refusal
hart_stop job image trace = first_of (follow_refusal image trace ∷ hart_refusal job (config_at trace).harts ∷ [])

-- the refusals of the judging of files within their limits
abbrev pub verdict_refusal : List ℕ → List ℕ → Option Refusal
verdict_refusal image certificate =
    first_of (certificate_refusal certificate ∷ image_refusal image (harts_of certificate) ∷ [])

-- this refusal, or out of memory where there is none
abbrev pub StopsBy : Option Refusal → Stop → Type 0
StopsBy found (Refused refusal) = found ≡ Some refusal
StopsBy found (Failed Device) = ⊥
StopsBy found (Failed NoMemory) = found ≡ None

-- this refusal, or out of memory, which does not come in place of the refusal that is judged first
abbrev pub StopsAfter : Option Refusal → Option Refusal → Stop → Type 0
StopsAfter first found (Refused refusal) = found ≡ Some refusal
StopsAfter first found (Failed Device) = ⊥
StopsAfter first found (Failed NoMemory) = first ≡ None

-- running out of memory alone
abbrev pub OnlyMemory : Stop → Type 0
OnlyMemory stop = stop ≡ Failed NoMemory

-- a refusal for the size of a file that the shelf may hold, or a fault
abbrev pub StopsRead : Option Contents → List ℕ → ℕ → Stop → Type 0
StopsRead told name limit (Refused refusal) =
    (file : List ℕ) × Holds told name file × (size_refusal limit file ≡ Some refusal)
StopsRead told name limit (Failed fault) = Unit {0}

-- a refusal that is an answer, or a fault
abbrev pub StopsWith : (Answer → Type 0) → Stop → Type 0
StopsWith Answers (Refused refusal) = Answers (refused refusal)
StopsWith Answers (Failed fault) = Unit {0}
