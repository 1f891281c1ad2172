use Rattle.std.proofs.Common.{◌≡◌, ◌≤◌, take}
use Rattle.std.specs.List.{filter}
use Rattle.arrayvec.specs.ArrayVec.{array_vec_len}
use Rattle.elf_image.specs.Layout.{is_segment}
use Rattle.elf_image.proofs.table.segments_of.Given as goal

abbrev pub invariant-loop-header : goal.invariant-loop-header
invariant-loop-header l =
    (l.segments.items ≡ filter is_segment (take l.header-index l.headers))
    × (array_vec_len l.segments ≤ l.header-index)
