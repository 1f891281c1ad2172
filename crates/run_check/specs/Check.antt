-- When a certificate holds for a program, and else where it first differs.
use Rattle.std.specs.Prelude.{◌≡◌, ℕ, ◌+◌, ◌*◌, ◌%◌, ◌<◌, ◌≤◌, ◌==◌, if◌then◌else◌, List, [], ◌∷◌, length, slice_get}
use Rattle.std.specs.Prelude.{slice_index, Option, Some, None}
use Rattle.el_base.specs.Line.{line_number}
use Rattle.el_base.specs.declared.line.TheConstants.{LINE_BYTES}
use Rattle.elf_image.specs.Program.{Program}
use Rattle.rv_flat.specs.FlatState.{FlatState, start}
use Rattle.rv_flat.specs.Memory.{byte_in}
use Rattle.rv_flat.specs.Run.{run}
use Rattle.run_check.specs.Content.{Content, written_out}
use Rattle.run_check.specs.Differences.{number_of}
use Rattle.run_check.specs.declared.content.Patch.{Patch}
use Rattle.run_check.specs.declared.verdict.Difference.{Difference}
use Rattle.run_check.specs.declared.verdict.Difference.TheVariants as kinds
use Rattle.run_check.specs.declared.verdict.Verdict.{Verdict}
use Rattle.run_check.specs.declared.verdict.Verdict.TheVariants.{Holds, Fails}

-- the state of the one run of the program on plain memory, in the certificate's serial order
abbrev pub reached : Program → Content → FlatState
reached program content = run (start program) (written_out content.stretches)

-- the line of this number among those of a certificate
abbrev pub patch_of_line : List Patch → ℕ → Option Patch
patch_of_line [] line = None
patch_of_line (patch ∷ lines) line = if patch.line.number == line then Some patch else patch_of_line lines line

-- the byte at an index of a line that the certificate has, or this byte of the image
abbrev pub byte_from : Option Patch → ℕ → ℕ → ℕ
byte_from None index byte = byte
byte_from (Some patch) index byte = slice_index patch.bytes index

-- the byte at an address: the image's bytes with the lines put over them
abbrev pub said_byte : Program → List Patch → ℕ → ℕ
said_byte program lines address =
    byte_from (patch_of_line lines (line_number address)) (address % LINE_BYTES)
    (byte_in program.base program.bytes address)

-- an address of memory
abbrev pub IsInside : Program → ℕ → Type 0
IsInside program address = (program.base ≤ address) × (address < program.base + length program.bytes)

-- what memory has on a line is what is said; and a line that the certificate has lies in memory
pub record LineHolds (program : Program) (lines : List Patch) (memory : List ℕ) (line : ℕ) : Type 0 where
  pub bytes : (address : ℕ) → line_number address ≡ line → IsInside program address →
      byte_in program.base memory address ≡ said_byte program lines address
  pub inside : (patch : Patch) → patch_of_line lines line ≡ Some patch → IsInside program (LINE_BYTES * line)

-- a state and a certificate agree on the view of a hart, on the output at an index (on its end too), and on a line
-- of memory
abbrev pub Agrees : Difference → Program → Content → FlatState → ℕ → Type 0
Agrees kinds.View program content state hart = slice_get state.harts hart ≡ slice_get content.views hart
Agrees kinds.Output program content state index = slice_get state.output index ≡ slice_get content.output index
Agrees kinds.Memory program content state line = LineHolds program content.lines state.bytes line

-- the certificate holds: the run gives its views, its output and its memory
abbrev pub CertificateHolds : Program → Content → Type 0
CertificateHolds program content = (kind : Difference) (place : ℕ) →
    Agrees kind program content (reached program content) place

-- the first difference: nothing of an earlier kind differs, and nothing of this kind at a lower place
pub record IsFirst (program : Program) (content : Content) (kind : Difference) (place : ℕ) : Type 0 where
  pub earlier : (other : Difference) (at : ℕ) → number_of other < number_of kind →
      Agrees other program content (reached program content) at
  pub before : (at : ℕ) → at < place → Agrees kind program content (reached program content) at
  pub here : ¬ Agrees kind program content (reached program content) place

-- what is answered of a certificate
abbrev pub IsVerdict : Program → Content → Verdict → Type 0
IsVerdict program content (Holds serial) =
    CertificateHolds program content × (serial ≡ length (written_out content.stretches))
IsVerdict program content (Fails number place) =
    (kind : Difference) × (number ≡ number_of kind) × IsFirst program content kind place
