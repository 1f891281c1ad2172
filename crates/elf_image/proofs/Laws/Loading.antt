-- What is read of an image file.
use Rattle.std.proofs.Common.{◌≡◌, ℕ, List, refl}
use Rattle.elf_image.specs.Loaded.{program_of}

-- an image is loaded for as many harts as asked for
pub loaded_harts : (file : List ℕ) (harts : ℕ) → (program_of file harts).harts ≡ harts
unfolding program_of
loaded_harts file harts = refl
