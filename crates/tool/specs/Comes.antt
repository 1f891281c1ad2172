-- What was put and written when the program ended with a status.
use Rattle.std.specs.Prelude.{◌≡◌, ℕ, ◌⊎◌, List, [], ◌∷◌, take, Option}
use Rattle.el_io.specs.Shelf.{Contents, Holds, KeepsOthers}
use Rattle.el_io.specs.Sink.{TookAll, TookPart}
use Rattle.tool.specs.declared.status.Status.{Status}
use Rattle.tool.specs.declared.status.Status.TheVariants.{DeviceFault, NoMemory}
use Rattle.tool.specs.declared.stop.Fault.{Fault}
use Rattle.tool.specs.declared.stop.Fault.TheVariants as faults
use Rattle.tool.specs.Answer.{Answer, WrittenFile}

-- what out, err and the shelf tell
pub record Told : Type 0 where
  pub out : Option (List ℕ)
  pub err : Option (List ℕ)
  pub files : Option Contents

-- a sink took some of these bytes, from the first on
pub record TookSome (before now : Option (List ℕ)) (bytes : List ℕ) : Type 0 where
  pub count : ℕ
  pub part : TookAll before now (take count bytes)

-- a file has these bytes, and every other is as it was
abbrev pub WroteFile : Option Contents → Option Contents → WrittenFile → Type 0
WroteFile before now file = KeepsOthers before now file.name × Holds now file.name file.bytes

-- these files were written, one after the other
abbrev pub Wrote : Option Contents → Option Contents → List WrittenFile → Type 0
Wrote before now [] = now ≡ before
Wrote before now (file ∷ files) = (between : Option Contents) × WroteFile before between file × Wrote between now files

-- the first of these files were written, or none
abbrev pub WroteFirst : Option Contents → Option Contents → List WrittenFile → Type 0
WroteFirst before now [] = now ≡ before
WroteFirst before now (file ∷ files) =
    (now ≡ before) ⊎ ((between : Option Contents) × WroteFile before between file × WroteFirst between now files)

-- one of these files was to be written, those before it were, and every other is as it was
abbrev pub TriedToWrite : Option Contents → Option Contents → List WrittenFile → Type 0
TriedToWrite before now [] = ⊥
TriedToWrite before now (file ∷ files) =
    KeepsOthers before now file.name
    ⊎ ((between : Option Contents) × WroteFile before between file × TriedToWrite between now files)

-- a fault cut off what was put to a sink
abbrev pub Untold : Option (List ℕ) → Option (List ℕ) → List ℕ → Fault → Type 0
Untold before now bytes faults.Device = TookPart before now bytes
Untold before now bytes faults.NoMemory = now ≡ before

-- all of an answer was put and written
pub record PutAll (before now : Told) (answer : Answer) : Type 0 where
  pub out : TookAll before.out now.out answer.out
  pub written : Wrote before.files now.files answer.written
  pub err : TookAll before.err now.err answer.err

-- some was put to out, and nothing after that
pub record PutOut (before now : Told) (answer : Answer) : Type 0 where
  pub out : TookSome before.out now.out answer.out
  pub written : now.files ≡ before.files
  pub err : now.err ≡ before.err

-- all was put to out, the first of the files were written, and nothing after that
pub record PutFiles (before now : Told) (answer : Answer) : Type 0 where
  pub out : TookAll before.out now.out answer.out
  pub written : WroteFirst before.files now.files answer.written
  pub err : now.err ≡ before.err

-- all was put to out, the write of a file failed, and nothing after that
pub record PutFile (before now : Told) (answer : Answer) : Type 0 where
  pub out : TookAll before.out now.out answer.out
  pub written : TriedToWrite before.files now.files answer.written
  pub err : now.err ≡ before.err

-- all was put to out, the files were written, and some was put to err
pub record PutErr (before now : Told) (answer : Answer) : Type 0 where
  pub out : TookAll before.out now.out answer.out
  pub written : Wrote before.files now.files answer.written
  pub err : TookSome before.err now.err answer.err

-- an answer was put and written up to a fault
abbrev pub PutPart : Told → Told → Answer → Type 0
PutPart before now answer = PutOut before now answer ⊎ (PutFile before now answer ⊎ PutErr before now answer)

-- nothing was put or written
pub record PutNothing (before now : Told) : Type 0 where
  pub out : now.out ≡ before.out
  pub err : now.err ≡ before.err
  pub written : now.files ≡ before.files

-- a call that ended with this status gave exactly one of these answers; after running out of memory or a fault of
-- a device, it gave nothing or the beginning of one
abbrev pub Comes : (Answer → Type 0) → Status → Told → Told → Type 0
Comes Answers NoMemory before now =
    PutNothing before now
    ⊎ ((answer : Answer) × Answers answer × (PutOut before now answer ⊎ PutFiles before now answer))
Comes Answers DeviceFault before now =
    PutNothing before now ⊎ ((answer : Answer) × Answers answer × PutPart before now answer)
Comes Answers status before now =
    (answer : Answer) × Answers answer × (status ≡ answer.status) × PutAll before now answer
