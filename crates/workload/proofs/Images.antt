-- The image of a workload.
use Rattle.std.proofs.Common.{◌≡◌, ℕ, ◌+◌, List, length}
use Rattle.elf_image.specs.Built.{built_program, image_file}
use Rattle.elf_image.specs.Loaded.{program_of}
use Rattle.elf_image.specs.declared.built.Built.{Built}
use Rattle.rv_asm.specs.Finished.{IsAssembled}
use Rattle.workload.specs.declared.layout.TheConstants.{BASE, DATA_LEN}
use Rattle.workload.specs.declared.work.Work.{Work}
use Rattle.workload.specs.Data.{data_of}
use Rattle.workload.specs.Image.{IsImageOf, IsWorkload}
use Rattle.workload.specs.Listing.{listing}

-- what is written of words and bytes is their image
pub is_image : (built : Built) (words bytes file : List ℕ) → file ≡ image_file built →
    ((harts : ℕ) → program_of file harts ≡ built_program built harts) → built.words.items ≡ words →
    built.bytes.items ≡ bytes → length bytes + built.zeros ≡ DATA_LEN → built.base ≡ BASE → built.entry ≡ BASE + 12 →
    IsImageOf words bytes file
is_image built words bytes file exact loads has_words has_bytes has_zeros at_base begins = record {
  built = built;
  has_words = has_words;
  has_bytes = has_bytes;
  has_zeros = has_zeros;
  at_base = at_base;
  begins_behind_three = begins;
  exact = exact;
  loads = loads;
}

-- the words of a kind's listing and the data of the kind make its image
pub is_workload : (kind : Work) (number : ℕ) (words bytes file : List ℕ) → IsAssembled (listing kind) words →
    bytes ≡ data_of kind number → IsImageOf words bytes file → IsWorkload kind number file
is_workload kind number words bytes file assembled same image =
    record { words = words; assembled = assembled; image = rw same at image }
