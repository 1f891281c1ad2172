-- What is told of one answer, and what was written of its files.
use Rattle.std.specs.Prelude.{◌≡◌, List, Option, Result, MatchResult}
use Rattle.el_io.specs.Shelf.{Contents, NamedCall}
use Rattle.tool.specs.declared.stop.Fault.{Fault}
use Rattle.tool.specs.Answer.{Answer, WrittenFile}
use Rattle.tool.specs.Comes.{Wrote}
use Rattle.tool.specs.Faults.{Unwritten}

-- this answer and no other
abbrev pub Only : Answer → Answer → Type 0
Only wanted answer = answer ≡ wanted

-- these files were written, and no call failed; or they were left unwritten by a fault
abbrev pub Writes : {T : Type 0} → Result T Fault → List WrittenFile → List NamedCall → List NamedCall →
    Option Contents → Option Contents → Type 0
Writes result files had has before now =
    MatchResult result (λ _. Wrote before now files × (has ≡ had)) (Unwritten files had has before now)
