-- One more program header.
use Rattle.std.proofs.Common.{◌≡◌, ℕ, ◌+◌, ◌*◌, List, [], ◌∷◌, ◌++◌, refl, arith}
use Rattle.std.proofs.lemmas.List.FromFn.{map-range_with_len_more}
use Rattle.elf_image.specs.Header.{program_header, headers_at}

pub headers_more : (file : List ℕ) (place count : ℕ)
    → headers_at file place (count + 1) ≡ headers_at file place count ++ program_header file (place + 32 * count) ∷ []
unfolding headers_at
headers_more file place count =
    map-range_with_len_more (λ index. program_header file (place + 32 * index)) 0 count count (omega arith)

pub header_place : (file : List ℕ) (place : ℕ) → (program_header file place).place ≡ place
unfolding program_header
header_place file place = refl
