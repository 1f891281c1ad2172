use Rattle.std.proofs.Common.{◌≡◌, ◌≤◌}
use Rattle.std.specs.List.{All}
use Rattle.arrayvec.specs.ArrayVec.{array_vec_len}
use Rattle.elf_image.specs.Header.{headers_at}
use Rattle.elf_image.specs.Limits.{file_limit}
use Rattle.elf_image.proofs.table.headers_at.Given as goal

abbrev pub invariant-loop-index : goal.invariant-loop-index
invariant-loop-index l =
    (l.headers.items ≡ headers_at l.file l.place l.index)
    × (array_vec_len l.headers ≡ l.index)
    × All (λ header. header.place ≤ file_limit) l.headers.items
