-- the events so far
use Rattle.std.proofs.Common.{◌≡◌, length, take}
use Rattle.machine.proofs.copies.copy_of.Given as goal

abbrev pub invariant-loop-place : goal.invariant-loop-place
invariant-loop-place l = record {
  so_far : l.copy.entries ≡ take l.place l.history.entries;
  room : l.copy.places ≡ length l.history.entries;
}
