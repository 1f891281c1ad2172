use Rattle.std.proofs.Common.{◌≡◌, ◌+◌, length}
use Rattle.instruction_vectors.proofs.assembly.put.Given as goal

abbrev pub invariant-loop-row : goal.invariant-loop-row
invariant-loop-row l = record {
  places : l.asm.places ≡ l.initial.asm.places;
  items : length l.asm.items ≡ length l.initial.asm.items + l.row-index;
}
