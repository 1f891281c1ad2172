use Rattle.std.proofs.Common.{◌≡◌, ◌≤◌, ◌-◌, length, take}
use Rattle.el_io.specs.Sink.{TookAll}
use Rattle.el_io.proofs.sink.put_all.Given as goal

abbrev pub invariant-loop-taken : goal.invariant-loop-taken
invariant-loop-taken g l =
    (l.taken ≤ length l.bytes)
    × (g.S.Sink.faults l.sink ≡ g.S.Sink.faults l.initial.sink)
    × TookAll (g.S.Sink.taken l.initial.sink) (g.S.Sink.taken l.sink) (take l.taken l.bytes)

abbrev pub decreases-loop-taken : goal.decreases-loop-taken
decreases-loop-taken g l = length l.bytes - l.taken
