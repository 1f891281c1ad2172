-- The one line that a refusal or a written image puts to err.
use Rattle.std.specs.Prelude.{ℕ, List, [], ◌∷◌, ◌++◌, codes, unwrap_or}
use Rattle.std.specs.Fmt.{decimal}
use Rattle.el_base.specs.ConfigFaults.{name_of, number_of}
use Rattle.el_base.specs.declared.config.ConfigFault.{ConfigFault}
use Rattle.el_base.specs.declared.file_fault.FileFault.{FileFault}
use Rattle.elf_image.specs.FaultKinds as image_faults
use Rattle.hex.specs.Hex.{encode_lower}
use Rattle.report.specs.Line.{line}
use Rattle.tool.specs.declared.difference.Difference.{Difference}
use Rattle.tool.specs.declared.refusal.Refusal.{Refusal}
use Rattle.tool.specs.declared.refusal.Refusal.TheVariants as refusals
use Rattle.run_check.specs.Differences.{difference_name}
use Rattle.run_check.specs.FaultKinds as certificate_faults
use Rattle.trace_file.specs.FaultKinds as trace_faults
use Rattle.trace_file.specs.Outcomes.{outcome_spelling}

abbrev pub newline : List ℕ
newline = 10 ∷ []

-- the line of a fault of a configuration
abbrev pub config_line : ConfigFault → List ℕ
config_line fault = line (codes "config fault") (decimal (number_of fault) ∷ name_of fault ∷ [])

-- the line of a fault of a file, by what the file is, and the fault with its name
abbrev pub fault_line : List ℕ → FileFault → List ℕ → List ℕ
fault_line file fault name =
    line file (codes "fault" ∷ decimal fault.number ∷ name ∷ codes "at byte" ∷ decimal fault.place ∷ [])

-- the line of a refusal: words with a space between each two, and a newline
unfoldable pub line_of : Refusal → List ℕ
line_of refusals.Usage =
    line (codes "usage: elide run IMAGE [options], elide replay IMAGE TRACE, elide gen KIND NUMBER FILE") []
line_of (refusals.Config fault) = config_line fault
line_of (refusals.TooBig limit) = line (codes "file too big: limit") (decimal limit ∷ [])
line_of (refusals.Image fault) = fault_line (codes "image") fault (unwrap_or (image_faults.fault_name fault.number) [])
line_of (refusals.Certificate fault) =
    fault_line (codes "certificate") fault (unwrap_or (certificate_faults.fault_name fault.number) [])
line_of (refusals.PlaceOverEnd events) = line (codes "place over the end: events") (decimal events ∷ [])
line_of (refusals.BackOverStart place) = line (codes "back over the start: place") (decimal place ∷ [])
line_of refusals.NoSuchHart = line (codes "no such hart") []
line_of (refusals.Trace fault) = fault_line (codes "trace") fault (unwrap_or (trace_faults.fault_name fault.number) [])

-- the line that says how many bytes a file was written with, with its newline
abbrev pub wrote_line : ℕ → List ℕ
wrote_line count = codes "wrote " ++ decimal count ++ codes " bytes" ++ newline

-- the line of a certificate that holds: the steps of its serial order, and the bytes of its output
abbrev pub holds_line : ℕ → ℕ → List ℕ
holds_line serial output =
    codes "certificate holds, serial " ++ decimal serial ++ codes " out " ++ decimal output ++ newline

-- the line of a replay in which another outcome came than the recorded one: at which event, and both by their bytes
-- in a trace, in hexadecimal
unfoldable pub differs_line : Difference → List ℕ
differs_line difference =
    codes "replay differs at event " ++ decimal difference.place
    ++ codes ": recorded " ++ encode_lower (outcome_spelling difference.recorded)
    ++ codes " found " ++ encode_lower (outcome_spelling difference.found) ++ newline

-- the line of one that fails: what differs first, and where
abbrev pub fails_line : ℕ → ℕ → List ℕ
fails_line number place =
    codes "certificate fails " ++ decimal number ++ codes " " ++ unwrap_or (difference_name number) [] ++ codes " at "
    ++ decimal place ++ newline
