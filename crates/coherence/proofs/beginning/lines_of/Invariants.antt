-- the lines so far
use Rattle.std.proofs.Common.{◌≡◌, map}
use Rattle.std.specs.List.{range_with_len}
use Rattle.coherence.specs.Beginning.{line_in}
use Rattle.coherence.proofs.beginning.lines_of.Given as goal

abbrev pub invariant-loop-place : goal.invariant-loop-place
invariant-loop-place l = l.lines.items ≡ map (line_in l.bytes) (range_with_len 0 l.place)
