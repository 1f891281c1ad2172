use Rattle.std.proofs.Common.{◌≡◌, map, take}
use Rattle.std.specs.List.{filter}
use Rattle.elf_image.specs.Layout.{is_executable}
use Rattle.elf_image.specs.Loaded.{code_segment}
use Rattle.elf_image.proofs.loaded.load_code.Given as goal

abbrev pub invariant-loop-segment : goal.invariant-loop-segment
invariant-loop-segment l =
    l.code.items ≡ map (code_segment l.base l.bytes) (filter is_executable (take l.segment-index l.segments))
