use Rattle.std.proofs.Common.{◌≡◌, ℕ, ◌<◌, length}
use Rattle.std.specs.Prelude.{slice_index}
use Rattle.run_check.specs.Faults.{register_at}
use Rattle.run_check.proofs.reading.registers_at.Given as goal

abbrev pub invariant-loop-number : goal.invariant-loop-number
invariant-loop-number l = record {
  all : length l.regs ≡ 32;
  read : (register : ℕ) → register < l.number → slice_index l.regs register ≡ register_at l.file l.place register;
}
