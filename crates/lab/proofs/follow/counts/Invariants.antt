use Rattle.std.proofs.Common.{◌≡◌, ℕ, ◌<◌, ◌≤◌, length, slice_index}
use Rattle.lab.proofs.follow.counts.Given as goal
use Rattle.lab.specs.Tries.{ran_in}
use Rattle.machine.specs.Story.{state_of}

abbrev pub invariant-loop-number : goal.invariant-loop-number
invariant-loop-number l =
    (length l.counts ≡ 8)
    × ((h : ℕ) → h < l.number → slice_index l.counts h ≡ ran_in (state_of l.machine) h)
    × ((h : ℕ) → l.number ≤ h → slice_index l.counts h ≡ 0)
