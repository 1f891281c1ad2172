-- harts over plain shared memory, and how they start
use Rattle.std.specs.Prelude.{ℕ, ◌+◌, ◌-◌, ◌*◌, List, [], length, map, None, replicate, slice_index_or}
use Rattle.std.specs.List.{range_with_len}
use Rattle.elf_image.specs.Limits.{stack_size}
use Rattle.elf_image.specs.Program.{CodeSegment, Program}
use Rattle.rv_alu.specs.declared.span.Span.{Span}
use Rattle.rv_alu.specs.declared.view.HartStatus.{HartStatus}
use Rattle.rv_alu.specs.declared.view.HartStatus.TheVariants.{Exited, Running}
use Rattle.rv_alu.specs.declared.view.HartView.{HartView}
use Rattle.rv_alu.specs.Regs.{a0, a1, set, sp}

-- the harts, the bytes of memory from a base on, what instructions are fetched from, and the output
pub record FlatState : Type 0 where
  pub harts : List HartView
  pub base : ℕ
  pub bytes : List ℕ
  pub code : List CodeSegment
  pub output : List ℕ

-- the most bytes that a program may write
abbrev pub output_limit : ℕ
output_limit = 16777216

-- the addresses of memory
abbrev pub span_of : FlatState → Span
span_of state = record { base = state.base; end = state.base + length state.bytes }

-- how many bytes the output has room for
abbrev pub room_of : FlatState → ℕ
room_of state = output_limit - length state.output

-- stands where there is no hart: one that has stopped
abbrev pub no_hart : HartView
no_hart = record { pc = 0; regs = []; reserved = None; status = Exited 0 }

-- what the program sees of a hart
abbrev pub view_of : FlatState → ℕ → HartView
view_of state hart = slice_index_or state.harts hart no_hart

-- whether a hart runs, or how it stopped
abbrev pub status_of : FlatState → ℕ → HartStatus
status_of state hart = (view_of state hart).status

-- the registers of a hart before its first step: its number, the number of harts, and its stack pointer
abbrev pub first_regs : Program → ℕ → List ℕ
first_regs program hart =
    set (set (set (replicate 32 0) a0 hart) a1 program.harts) sp
    (program.base + length program.bytes - stack_size * hart)

-- a hart before its first step
unfoldable pub first_view : Program → ℕ → HartView
first_view program hart =
    record { pc = program.entry; regs = first_regs program hart; reserved = None; status = Running }

-- a program before its first step
unfoldable pub start : Program → FlatState
start program =
    record {
      harts = map (first_view program) (range_with_len 0 program.harts);
      base = program.base;
      bytes = program.bytes;
      code = program.code;
      output = [];
    }
