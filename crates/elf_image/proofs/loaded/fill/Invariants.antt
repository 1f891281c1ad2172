use Rattle.std.proofs.Common.{◌≡◌, ◌<◌, ◌+◌, ℕ, length, take, slice_index}
use Rattle.elf_image.specs.Loaded.{loaded_byte}
use Rattle.elf_image.proofs.loaded.fill.Given as goal

abbrev pub invariant-loop-segment : goal.invariant-loop-segment
invariant-loop-segment l =
    (k : ℕ) → k < length l.bytes →
    slice_index l.bytes k ≡ loaded_byte l.file (take l.segment-index l.segments) (l.base + k)
