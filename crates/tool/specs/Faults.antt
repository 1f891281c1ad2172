-- A fault of a device: which call failed, and what had been put and written by then.
use Rattle.std.specs.Prelude.{◌≡◌, ◌⊎◌, List, [], ◌∷◌, ◌++◌, Option}
use Rattle.el_io.specs.Counts.{one_more}
use Rattle.el_io.specs.Shelf.{Contents, KeepsOthers, NamedCall}
use Rattle.el_io.specs.Sink.{TookAll, TookPart}
use Rattle.el_io.specs.declared.shelf.Call.TheVariants.{Write}
use Rattle.tool.specs.declared.status.Status.{Status}
use Rattle.tool.specs.declared.status.Status.TheVariants.{DeviceFault}
use Rattle.tool.specs.Answer.{Answer, WrittenFile}
use Rattle.tool.specs.Causes.{Failures, FileRead, ReadFailed}
use Rattle.tool.specs.declared.stop.Fault.{Fault}
use Rattle.tool.specs.declared.stop.Fault.TheVariants.{Device, NoMemory}
use Rattle.tool.specs.Comes.{PutNothing, Told, Wrote, WroteFile, WroteFirst}

-- the read of one of these files failed, and nothing was put or written
pub record FailedRead (reads : List FileRead) (had has : Failures) (before now : Told) : Type 0 where
  pub read : ReadFailed before.files reads had.shelf has.shelf
  pub alone : has ≡ record had { shelf = has.shelf }
  pub nothing : PutNothing before now

-- the write of one of these files failed: those before it were written, and every other is as it was
abbrev pub WriteFailed : List WrittenFile → List NamedCall → List NamedCall → Option Contents → Option Contents → Type 0
WriteFailed [] had has before now = ⊥
WriteFailed (file ∷ files) had has before now =
    ((has ≡ had ++ (Write, file.name) ∷ []) × KeepsOthers before now file.name)
    ⊎ ((between : Option Contents) × WroteFile before between file × WriteFailed files had has between now)

-- the files were left unwritten by a fault: at one whose write failed, or behind the first of them
abbrev pub Unwritten : List WrittenFile → List NamedCall → List NamedCall → Option Contents →
    Option Contents → Fault → Type 0
Unwritten files had has before now Device = WriteFailed files had has before now
Unwritten files had has before now NoMemory = (has ≡ had) × WroteFirst before now files

-- a put to out failed
abbrev pub OutFailed : Failures → Failures → Type 0
OutFailed had has = has ≡ record had { out = one_more had.out }

-- a put to err failed
abbrev pub ErrFailed : Failures → Failures → Type 0
ErrFailed had has = has ≡ record had { err = one_more had.err }

-- out took only a part, and nothing came after that
pub record CutInOut (before now : Told) (answer : Answer) : Type 0 where
  pub out : TookPart before.out now.out answer.out
  pub written : now.files ≡ before.files
  pub err : now.err ≡ before.err

-- all was put to out, and the write of a file failed
pub record CutInFiles (had has : Failures) (before now : Told) (answer : Answer) : Type 0 where
  pub out : TookAll before.out now.out answer.out
  pub written : WriteFailed answer.written had.shelf has.shelf before.files now.files
  pub failed : has ≡ record had { shelf = has.shelf }
  pub err : now.err ≡ before.err

-- all was put to out, the files were written, and err took only a part
pub record CutInErr (before now : Told) (answer : Answer) : Type 0 where
  pub out : TookAll before.out now.out answer.out
  pub written : Wrote before.files now.files answer.written
  pub err : TookPart before.err now.err answer.err

-- an answer was cut off at the call that failed: in out, at the write of a file, or in err
abbrev pub CutOff : Failures → Failures → Told → Told → Answer → Type 0
CutOff had has before now answer =
    (OutFailed had has × CutInOut before now answer)
    ⊎ (CutInFiles had has before now answer
    ⊎ (ErrFailed had has × CutInErr before now answer))

-- where a call of the program ended with a fault of a device: one of these reads failed, and nothing was put or
-- written, or an answer was cut off
abbrev pub Faulted : List FileRead → (Answer → Type 0) → Status → Failures → Failures → Told → Told → Type 0
Faulted reads Answers DeviceFault had has before now =
    FailedRead reads had has before now
    ⊎ ((answer : Answer) × Answers answer × CutOff had has before now answer)
Faulted reads Answers status had has before now = Unit {0}
