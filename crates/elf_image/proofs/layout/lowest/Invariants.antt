use Rattle.std.proofs.Common.{◌≡◌, ◌≤◌, ◌^◌, take}
use Rattle.elf_image.specs.Layout.{lowest}
use Rattle.elf_image.proofs.layout.lowest.Given as goal

abbrev pub invariant-loop-segment : goal.invariant-loop-segment
invariant-loop-segment l = (l.low ≡ lowest (take l.segment-index l.segments)) × (l.low ≤ 2 ^ 32)
