use Rattle.std.proofs.Common.{◌≤◌, ℕ, ◌<◌}
use Rattle.el_base.specs.NibblePairs.{nibble_in}
use Rattle.trace_file.specs.Fields.{most_for}
use Rattle.trace_file.proofs.outcome_fields.are_nibbles.Given as goal

abbrev pub invariant-loop-hart : goal.invariant-loop-hart
invariant-loop-hart l = (h : ℕ) → h < l.hart → nibble_in l.bytes h ≤ most_for l.harts l.most h
