-- How long a program is.
use Rattle.std.specs.Prelude.{◌≤◌, ℕ, ◌+◌, length}
use Rattle.rv_asm.specs.Assembly.{Assembly}
use Rattle.workload.specs.declared.program.TheConstants.{MOST_WORDS}

-- its words, and the labels among them
pub record Extent : Type 0 where
  pub words : ℕ
  pub labels : ℕ

unfoldable pub extent : Assembly → Extent
extent program = record { words = length program.items; labels = length program.places }

-- with so many words and labels more
abbrev pub grown : Extent → ℕ → ℕ → Extent
grown old words labels = record { words = old.words + words; labels = old.labels + labels }

-- there is room for so many words and labels more
pub record HasRoom (old : Extent) (more_words more_labels : ℕ) : Type 0 where
  pub words : old.words + more_words ≤ MOST_WORDS
  pub labels : old.labels + more_labels ≤ MOST_WORDS

-- it grows by at most so many words and labels
pub record GrowsWithin (old : Extent) (most_words most_labels : ℕ) (new : Extent) : Type 0 where
  pub few_words : new.words ≤ old.words + most_words
  pub few_labels : new.labels ≤ old.labels + most_labels
  pub keeps_words : old.words ≤ new.words
  pub keeps_labels : old.labels ≤ new.labels
