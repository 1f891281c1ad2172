use Rattle.std.proofs.Common.{◌≡◌, ◌+◌, length}
use Rattle.instruction_vectors.proofs.assembly.fill.Given as goal

abbrev pub invariant-loop-place : goal.invariant-loop-place
invariant-loop-place l = record {
  places : l.asm.places ≡ l.initial.asm.places;
  items : length l.asm.items ≡ length l.initial.asm.items + l._place;
}
