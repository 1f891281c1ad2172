-- how a row is told: each hart with its own instructions and registers, over memory of zeros
use Rattle.std.proofs.Common.{ℕ, suc, ◌+◌, ◌*◌, ◌/◌, ◌%◌, List, [], ◌∷◌, None, replicate}
use Rattle.el_base.specs.declared.config.Config.{Config}
use Rattle.el_base.specs.declared.config.Mode.{Mode}
use Rattle.computed_runs.proofs.Given.{bytes_of, patched}
use Rattle.el_model.specs.State.{ModelState, new_hart}
use Rattle.elf_image.specs.Program.{CodeSegment}
use Rattle.rv_alu.specs.declared.view.HartStatus.TheVariants.{Running}
use Rattle.rv_alu.specs.declared.view.HartView.{HartView}

-- the words of the instructions that rows use, with the numbers of their registers; `at`
-- is the register with the address
abbrev pub load_word : ℕ → ℕ → ℕ
load_word rd at = 8195 + 128 * rd + 32768 * at

abbrev pub store_word : ℕ → ℕ → ℕ
store_word source at = 8227 + 32768 * at + 1048576 * source

-- a store at an offset below 2048 from the address
abbrev pub store_beyond : ℕ → ℕ → ℕ → ℕ
store_beyond offset source at = store_word source at + 128 * (offset % 32) + 33554432 * (offset / 32)

abbrev pub store_byte : ℕ → ℕ → ℕ
store_byte source at = 35 + 32768 * at + 1048576 * source

abbrev pub atomic : ℕ → ℕ → ℕ → ℕ → ℕ
atomic operation rd source at = 8239 + 128 * rd + 32768 * at + 1048576 * source + 134217728 * operation

abbrev pub atomic_add : ℕ → ℕ → ℕ → ℕ
atomic_add rd source at = atomic 0 rd source at

abbrev pub swap : ℕ → ℕ → ℕ → ℕ
swap rd source at = atomic 1 rd source at

abbrev pub load_reserved : ℕ → ℕ → ℕ
load_reserved rd at = atomic 2 rd 0 at

abbrev pub store_conditional : ℕ → ℕ → ℕ → ℕ
store_conditional rd source at = atomic 3 rd source at

-- a branch that is taken where two registers differ, over one instruction
abbrev pub skip_unless_same : ℕ → ℕ → ℕ
skip_unless_same left right = 5219 + 32768 * left + 1048576 * right

abbrev pub system_call : ℕ
system_call = 115

-- a hart's instructions, and its registers that are not 0, each with its number
pub record Worker : Type 0 where
  pub words : List ℕ
  pub registers : List (ℕ × ℕ)

-- line A is the first line of memory, with number 1024, and line B the next. Register 5 is the value 1 of a lock that
-- is taken, 6 the value 5 of a piece of data, 10 an address on A, 11 one on B, and 12 one on the line after them
abbrev pub usual : List (ℕ × ℕ)
usual = (5, 1) ∷ (6, 5) ∷ (10, 65536) ∷ (11, 65600) ∷ (12, 65664) ∷ []

-- where the instructions of a hart begin
abbrev pub code_at : ℕ → ℕ
code_at h = 131072 + 4096 * h

abbrev pub views_from : ℕ → List Worker → List HartView
views_from h [] = []
views_from h (worker ∷ workers) =
    record { pc = code_at h; regs = patched (replicate 32 0) worker.registers; reserved = None; status = Running }
    ∷ views_from (suc h) workers

abbrev pub code_from : ℕ → List Worker → List CodeSegment
code_from h [] = []
code_from h (worker ∷ workers) =
    record { start = code_at h; bytes = bytes_of worker.words } ∷ code_from (suc h) workers

abbrev pub settings : ℕ → Mode → ℕ → ℕ → ℕ → ℕ → Config
settings harts mode sets ways lines long =
    record { harts = harts; mode = mode; sets = sets; ways = ways; lines = lines; long = long; steps = 4000000 }

-- the machine of these harts before its first event, with so many bytes of memory
abbrev pub machine_of : Config → ℕ → List Worker → ModelState
machine_of config len workers = record {
  config = config;
  committed = record {
    harts = views_from 0 workers;
    base = 65536;
    bytes = replicate len 0;
    code = code_from 0 workers;
    output = [];
  };
  harts = replicate config.harts (new_hart config.sets);
  order = [];
}
