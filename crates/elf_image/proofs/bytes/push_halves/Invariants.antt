use Rattle.std.proofs.Common.{◌≡◌, ◌++◌, take}
use Rattle.elf_image.specs.Numbers.{half_bytes}
use Rattle.elf_image.proofs.bytes.push_halves.Given as goal

abbrev pub invariant-loop-half : goal.invariant-loop-half
invariant-loop-half l = l.bytes.items ≡ l.initial.bytes.items ++ half_bytes (take l.half-index l.halves)
