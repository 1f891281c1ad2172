use Rattle.std.proofs.Common.{◌≡◌, drop}
use Rattle.elf_image.specs.Faults.{segments_fault}
use Rattle.elf_image.proofs.table.check_segments.Given as goal

-- what is left decides
abbrev pub invariant-loop-header : goal.invariant-loop-header
invariant-loop-header l =
    segments_fault (drop l.header-index l.headers) l.file_len ≡ segments_fault l.headers l.file_len
