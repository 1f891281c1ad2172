-- The certificate of a history and of a state that it led to.
use Rattle.std.specs.Prelude.{◌≡◌, ◌≢◌, ℕ, zero, suc, ◌+◌, ◌*◌, ◌/◌, ◌<◌, ◌≤◌, Bool, ◌==◌, not, if◌then◌else◌, List, []}
use Rattle.std.specs.Prelude.{◌∷◌, ◌++◌, length, take, drop, All, Option, None, Some}
use Rattle.std.specs.Str.{bytes_eq}
use Rattle.chronicle.specs.Serial.{serial}
use Rattle.el_base.specs.HartId.{hart_id}
use Rattle.el_base.specs.LineAddr.{line_addr}
use Rattle.el_base.specs.declared.entries.Entry.{Entry}
use Rattle.el_base.specs.declared.line.TheConstants.{LINE_BYTES}
use Rattle.elf_image.specs.Program.{Program}
use Rattle.rv_alu.specs.declared.view.HartStatus.{HartStatus}
use Rattle.rv_alu.specs.declared.view.HartStatus.TheVariants.{Running, Exited, Trapped}
use Rattle.rv_flat.specs.FlatState.{FlatState, output_limit, view_of}
use Rattle.run_check.specs.Content.{Content}
use Rattle.run_check.specs.Rules.{most_steps}
use Rattle.run_check.specs.declared.content.Patch.{Patch}
use Rattle.run_check.specs.declared.content.Stretch.{Stretch}

-- ---- stretches: the run-length code of a serial order

-- stretches with one step of a hart before them: in the first, where that is the hart's, and else in one of its own
abbrev pub step_before : ℕ → List Stretch → List Stretch
step_before hart [] = record { hart = hart_id hart; count = 1 } ∷ []
step_before hart (stretch ∷ stretches) =
    if stretch.hart.number == hart
    then record { hart = stretch.hart; count = stretch.count + 1 } ∷ stretches
    else record { hart = hart_id hart; count = 1 } ∷ stretch ∷ stretches

abbrev pub stretches_of : List ℕ → List Stretch
stretches_of [] = []
stretches_of (hart ∷ harts) = step_before hart (stretches_of harts)

-- a run-length code: each stretch has a step, and neighbours have different harts
abbrev pub IsCode : List Stretch → Type 0
IsCode [] = Unit {0}
IsCode (stretch ∷ []) = 1 ≤ stretch.count
IsCode (stretch ∷ next ∷ stretches) =
    (1 ≤ stretch.count) × (stretch.hart.number ≢ next.hart.number) × IsCode (next ∷ stretches)

-- stretches with one more behind them, if there is one
abbrev pub with_pending : List Stretch → Option Stretch → List Stretch
with_pending stretches None = stretches
with_pending stretches (Some last) = stretches ++ last ∷ []

-- stretches that still grow are a run-length code; there are none before the first pending one
pub record IsGrowing (stretches : List Stretch) (pending : Option Stretch) : Type 0 where
  pub code : IsCode (with_pending stretches pending)
  pub none_before : pending ≡ None → stretches ≡ []

-- ---- lines that differ from the image

-- the line at an index of memory
abbrev pub line_of_memory : List ℕ → ℕ → List ℕ
line_of_memory memory index = take LINE_BYTES (drop (LINE_BYTES * index) memory)

-- it has a byte unlike the image's
abbrev pub changed : Program → List ℕ → ℕ → Bool
changed program memory index = not (bytes_eq (line_of_memory memory index) (line_of_memory program.bytes index))

abbrev pub patch_of : Program → List ℕ → ℕ → Patch
patch_of program memory index =
    record { line = line_addr (program.base / LINE_BYTES + index); bytes = line_of_memory memory index }

-- those of the first lines that differ
abbrev pub changed_below : Program → List ℕ → ℕ → List Patch
changed_below program memory zero = []
changed_below program memory (suc count) =
    changed_below program memory count ++ (if changed program memory count then patch_of program memory count
    ∷ [] else [])

abbrev pub changed_lines : Program → List ℕ → List Patch
changed_lines program memory = changed_below program memory (length program.bytes / LINE_BYTES)

-- ---- the certificate

-- its stretches are those of the serial order, its views and output those of the state, and its lines those that
-- the state has unlike the image
unfoldable pub certificate_of : Program → List Entry → FlatState → Content
certificate_of program entries state = record {
  harts = program.harts;
  stretches = stretches_of (serial entries);
  views = state.harts;
  output = state.output;
  lines = changed_lines program state.bytes;
}

-- a trapped hart stands at its trap
abbrev pub StandsAtTrap : ℕ → HartStatus → Type 0
StandsAtTrap pc Running = Unit {0}
StandsAtTrap pc (Exited code) = Unit {0}
StandsAtTrap pc (Trapped cause at) = at ≡ pc

-- a state that may come of a run of the program
pub record IsStateOf (program : Program) (state : FlatState) : Type 0 where
  pub base : state.base ≡ program.base
  pub size : length state.bytes ≡ length program.bytes
  pub one_view_each : length state.harts ≡ program.harts
  pub output : length state.output ≤ output_limit
  pub traps : (hart : ℕ) → hart < length state.harts → StandsAtTrap (view_of state hart).pc (view_of state hart).status

-- a history whose serial order fits a certificate: its harts are the program's, and it is not too long
pub record IsHistoryOf (program : Program) (entries : List Entry) : Type 0 where
  pub harts : All (λ hart. hart < program.harts) (serial entries)
  pub few : length (serial entries) ≤ most_steps
