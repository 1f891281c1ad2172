-- The program of each kind of workload.
use Rattle.std.specs.Prelude.{ℤ, pos}
use Rattle.rv_asm.specs.Assembly.{Assembly}
use Rattle.workload.specs.declared.work.Work.{Work}
use Rattle.workload.specs.declared.work.Work.TheVariants.{Bank, Buckets, Counter, Locks, Overflow, Pairs}
use Rattle.workload.specs.Ending.{ending}
use Rattle.workload.specs.Parts.{leave, start}
use Rattle.workload.specs.Putting.{empty, next_label, ◌▹◌}
use Rattle.workload.specs.Rounds.{rounds}

-- how many words are added up at the end
abbrev pub words_of : Work → ℤ
words_of Counter = pos 1
words_of Bank = pos 64
words_of Buckets = pos 16
words_of Locks = pos 2
words_of Overflow = pos 20
words_of Pairs = pos 1

-- the program of a kind: its first three words end a hart, and each hart begins at the fourth
unfoldable pub listing : Work → Assembly
listing kind =
    let exit = next_label empty in
    empty
    ▹ leave
    ▹ start
    ▹ rounds kind
    ▹ ending (words_of kind) exit
