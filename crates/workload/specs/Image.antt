-- The image of a workload.
use Rattle.std.specs.Prelude.{◌≡◌, ℕ, ◌+◌, ◌-◌, List, length}
use Rattle.elf_image.specs.Built.{built_program, image_file}
use Rattle.elf_image.specs.Loaded.{program_of}
use Rattle.elf_image.specs.Numbers.{word_at}
use Rattle.elf_image.specs.declared.built.Built.{Built}
use Rattle.rv_asm.specs.Finished.{IsAssembled}
use Rattle.workload.specs.declared.layout.TheConstants.{BASE, DATA_LEN, DATA_START}
use Rattle.workload.specs.declared.work.Work.{Work}
use Rattle.workload.specs.Data.{data_of}
use Rattle.workload.specs.Listing.{listing}

-- a file is the image of words and of data that begins with bytes, and loads them for any number of harts
pub record IsImageOf (words bytes file : List ℕ) : Type 0 where
  pub built : Built
  pub has_words : built.words.items ≡ words
  pub has_bytes : built.bytes.items ≡ bytes
  pub has_zeros : length bytes + built.zeros ≡ DATA_LEN
  pub at_base : built.base ≡ BASE
  pub begins_behind_three : built.entry ≡ BASE + 12
  pub exact : file ≡ image_file built
  pub loads : (harts : ℕ) → program_of file harts ≡ built_program built harts

-- a file is the image of the words of a kind's listing, and of its data with a number
pub record IsWorkload (kind : Work) (number : ℕ) (file : List ℕ) : Type 0 where
  pub words : List ℕ
  pub assembled : IsAssembled (listing kind) words
  pub image : IsImageOf words (data_of kind number) file

-- the word that the image puts at the start of the data
abbrev pub number_in : List ℕ → ℕ
number_in file = word_at (program_of file 1).bytes (DATA_START - BASE)
