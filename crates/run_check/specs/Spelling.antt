-- The one spelling of a certificate: the concatenation of its fields.
use Rattle.std.specs.Prelude.{◌≡◌, ℕ, ◌^◌, ◌<◌, ◌≤◌, false, List, [], ◌∷◌, ◌++◌, length, drop, slice_index}
use Rattle.std.specs.Prelude.{slice_index_or, Option, Some, None}
use Rattle.std.specs.List.{flat_map}
use Rattle.byteorder.specs.Endian.{little_bytes}
use Rattle.rv_alu.specs.declared.view.HartStatus.{HartStatus}
use Rattle.rv_alu.specs.declared.view.HartStatus.TheVariants.{Running, Exited, Trapped}
use Rattle.rv_alu.specs.declared.view.HartView.{HartView}
use Rattle.rv_flat.specs.FlatState.{no_hart, output_limit}
use Rattle.el_base.specs.HartId.{hart_id}
use Rattle.el_base.specs.LineAddr.{line_addr}
use Rattle.run_check.specs.Content.{Content}
use Rattle.run_check.specs.Rules.{count_wrong, hart_wrong, line_wrong, most_lines}
use Rattle.run_check.specs.declared.content.Patch.{Patch}
use Rattle.run_check.specs.declared.content.Stretch.{Stretch}

-- "ELCT"
abbrev pub magic : List ℕ
magic = 0x45 ∷ 0x4c ∷ 0x43 ∷ 0x54 ∷ []

-- the version of the format
abbrev pub version : ℕ
version = 1

abbrev pub stretch_bytes : Stretch → List ℕ
stretch_bytes stretch = stretch.hart.number ∷ little_bytes 4 stretch.count

-- the word that is reserved
abbrev pub reserved_bytes : Option ℕ → List ℕ
reserved_bytes None = 0 ∷ little_bytes 4 0
reserved_bytes (Some word) = 1 ∷ little_bytes 4 word

-- a trap's pc is the view's
abbrev pub status_bytes : HartStatus → List ℕ
status_bytes Running = 0 ∷ little_bytes 4 0
status_bytes (Exited code) = 1 ∷ little_bytes 4 code
status_bytes (Trapped cause pc) = 2 ∷ little_bytes 4 cause

-- the pc and x1 to x31, the reservation, and the status
abbrev pub view_bytes : HartView → List ℕ
view_bytes view =
    little_bytes 4 view.pc
    ++ (flat_map (little_bytes 4) (drop 1 view.regs) ++ (reserved_bytes view.reserved ++ status_bytes view.status))

abbrev pub patch_bytes : Patch → List ℕ
patch_bytes patch = little_bytes 4 patch.line.number ++ patch.bytes

-- the parts of a certificate in their order
abbrev pub head_bytes : ℕ → ℕ → List ℕ
head_bytes harts stretches = magic ++ version ∷ harts ∷ little_bytes 4 stretches

abbrev pub output_bytes : List ℕ → List ℕ
output_bytes output = little_bytes 4 (length output) ++ output

abbrev pub lines_bytes : List Patch → List ℕ
lines_bytes lines = little_bytes 4 (length lines) ++ flat_map patch_bytes lines

-- the one file of a certificate
abbrev pub spelling : Content → List ℕ
spelling content =
    head_bytes content.harts (length content.stretches)
    ++ (flat_map stretch_bytes content.stretches
    ++ (flat_map view_bytes content.views
    ++ (output_bytes content.output
    ++ lines_bytes content.lines)))

-- ---- what has a spelling

-- the hart and the count of the stretch at an index, and the number of the line
abbrev pub hart_in : List Stretch → ℕ → ℕ
hart_in stretches index = (slice_index_or stretches index (record { hart = hart_id 0; count = 0 })).hart.number

abbrev pub count_in : List Stretch → ℕ → ℕ
count_in stretches index = (slice_index_or stretches index (record { hart = hart_id 0; count = 0 })).count

abbrev pub patch_in : List Patch → ℕ → Patch
patch_in lines index = slice_index_or lines index (record { line = line_addr 0; bytes = [] })

abbrev pub line_in : List Patch → ℕ → ℕ
line_in lines index = (patch_in lines index).line.number

-- what a view may say of a reservation and of a status: words, and a trap at the hart's own pc
abbrev pub IsReserved : Option ℕ → Type 0
IsReserved None = Unit {0}
IsReserved (Some word) = word < 2 ^ 32

abbrev pub IsStatus : ℕ → HartStatus → Type 0
IsStatus pc Running = Unit {0}
IsStatus pc (Exited code) = code < 2 ^ 32
IsStatus pc (Trapped cause at) = (cause < 256) × (at ≡ pc)

pub record IsView (view : HartView) : Type 0 where
  pub pc : view.pc < 2 ^ 32
  pub registers : length view.regs ≡ 32
  pub zero_is_0 : slice_index view.regs 0 ≡ 0
  pub words : (register : ℕ) → slice_index view.regs register < 2 ^ 32
  pub reserved : IsReserved view.reserved
  pub status : IsStatus view.pc view.status

pub record IsCertificate (content : Content) : Type 0 where
  pub some_hart : 1 ≤ content.harts
  pub few_harts : content.harts ≤ 8
  pub harts : (index : ℕ) → index < length content.stretches →
      hart_wrong content.harts (hart_in content.stretches) index ≡ false
  pub counts : (index : ℕ) → index < length content.stretches → count_wrong (count_in content.stretches) index ≡ false
  pub one_view_each : length content.views ≡ content.harts
  pub views : (hart : ℕ) → hart < length content.views → IsView (slice_index_or content.views hart no_hart)
  pub output : length content.output ≤ output_limit
  pub few_lines : length content.lines ≤ most_lines
  pub lines : (index : ℕ) → index < length content.lines → line_wrong (line_in content.lines) index ≡ false
  pub line_bytes : (index : ℕ) → index < length content.lines → length (patch_in content.lines index).bytes ≡ 64
