use Rattle.std.proofs.Common.{◌≡◌, ◌≤◌, ◌^◌, take}
use Rattle.elf_image.specs.Layout.{highest}
use Rattle.elf_image.proofs.layout.highest.Given as goal

abbrev pub invariant-loop-segment : goal.invariant-loop-segment
invariant-loop-segment l = (l.high ≡ highest (take l.segment-index l.segments)) × (l.high ≤ 2 ^ 33)
