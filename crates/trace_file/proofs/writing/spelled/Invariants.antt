use Rattle.std.proofs.Common.{◌≡◌, ◌≤◌, ◌+◌, ◌*◌, ◌++◌, length, vec_capacity}
use Rattle.trace_file.specs.Spelling.{head}
use Rattle.trace_file.specs.Stretches.{between, bytes_of}
use Rattle.trace_file.proofs.writing.spelled.Given as goal

abbrev pub invariant-loop-four : goal.invariant-loop-four
invariant-loop-four l = record {
  items : l.bytes.items ≡
      head 2 l.config (length l.history.entries) ++ bytes_of (between 0 (4 * l.four) l.history.entries);
  room : 22 + length (bytes_of l.history.entries) ≤ vec_capacity l.bytes;
}
