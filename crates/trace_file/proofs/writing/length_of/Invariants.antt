use Rattle.std.proofs.Common.{◌≡◌, ◌≤◌, ◌*◌, length}
use Rattle.trace_file.specs.Stretches.{between, bytes_of}
use Rattle.trace_file.proofs.writing.length_of.Given as goal

abbrev pub invariant-loop-place : goal.invariant-loop-place
invariant-loop-place l = record {
  total : l.total ≡ length (bytes_of (between l.from l.place l.history.entries));
  small : l.total ≤ 10 * l.place;
}
