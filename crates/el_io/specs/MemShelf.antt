-- A shelf in memory that fails where it is told to, as callers see it.
use Rattle.std.specs.Prelude.{◌≡◌, ◌≢◌, ℕ, ◌<◌, ◌≤◌, ◌⊎◌, List, length, Option, None, Some, Result, Ok, Err}
use Rattle.std.specs.Global.{Vec}
use Rattle.el_io.specs.declared.shelf.ShelfFault.{ShelfFault}
use Rattle.el_io.specs.declared.shelf.ShelfFault.TheVariants.{Failed, TooBig, NoMemory}
use Rattle.el_io.specs.declared.mem_shelf.MemShelf.{MemShelf}
use Rattle.el_io.specs.FailurePlan.{Plan, NextFails, after_call}
use Rattle.el_io.specs.Shelf.{Contents, NamedCall}
use Rattle.el_io.specs.Files as files

-- the bytes of the file of this name, if there is one
abbrev pub file : MemShelf → List ℕ → Option (List ℕ)
file shelf name = files.file_of shelf.files name

-- the bytes of each name; a name without a file has none
abbrev pub contents : MemShelf → Contents
contents shelf = files.contents_of shelf.files

-- which calls fail
abbrev pub plan : MemShelf → Plan
plan shelf = shelf.plan

-- the calls that failed
abbrev pub failed_calls : MemShelf → List NamedCall
failed_calls shelf = shelf.failures

-- the files are as they were, and so are the bytes of each name
pub record SameFiles (before now : MemShelf) : Type 0 where
  pub files : file now ≡ file before
  pub bytes : contents now ≡ contents before

-- the name has a file with these bytes, and nothing changed under the other names
pub record OneFileWritten (before now : MemShelf) (name bytes : List ℕ) : Type 0 where
  pub written : file now name ≡ Some bytes
  pub others : (other : List ℕ) → other ≢ name → file now other ≡ file before other

-- a read of this name fails: it is planned to, or there is no such file
abbrev pub ReadFails : MemShelf → List ℕ → Type 0
ReadFails shelf name = NextFails (plan shelf) ⊎ (file shelf name ≡ None)

-- what a read answers, but for running out of memory
abbrev pub ReadAnswers : MemShelf → List ℕ → ℕ → Result (Vec ℕ) ShelfFault → Type 0
ReadAnswers shelf name limit (Ok bytes) =
    (¬ ReadFails shelf name) × (file shelf name ≡ Some bytes.items) × (length bytes.items ≤ limit)
ReadAnswers shelf name limit (Err TooBig) = (¬ ReadFails shelf name) × (limit < length (contents shelf name))
ReadAnswers shelf name limit (Err Failed) = ReadFails shelf name
ReadAnswers shelf name limit (Err NoMemory) = Unit {0}

-- what a write answers, but for running out of memory
abbrev pub WriteAnswers : MemShelf → Result (Unit {0}) ShelfFault → Type 0
WriteAnswers shelf (Ok _) = ¬ NextFails (plan shelf)
WriteAnswers shelf (Err Failed) = NextFails (plan shelf)
WriteAnswers shelf (Err TooBig) = ⊥
WriteAnswers shelf (Err NoMemory) = Unit {0}

-- each call is counted, but for one that found no memory
abbrev pub Counts : {T : Type 0} → Result T ShelfFault → MemShelf → MemShelf → Type 0
Counts (Err NoMemory) before now = plan now ≡ plan before
Counts (Err Failed) before now = plan now ≡ after_call (plan before)
Counts (Err TooBig) before now = plan now ≡ after_call (plan before)
Counts (Ok _) before now = plan now ≡ after_call (plan before)
