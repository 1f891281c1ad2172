use Rattle.std.proofs.Common.{◌≡◌, take, drop}
use Rattle.elf_image.specs.Layout.{first_overlap, overlap_after}
use Rattle.elf_image.proofs.layout.check_overlap.Given as goal

-- what is left decides
abbrev pub invariant-loop-i : goal.invariant-loop-i
invariant-loop-i l = overlap_after (take l.i l.segments) (drop l.i l.segments) ≡ first_overlap l.segments
