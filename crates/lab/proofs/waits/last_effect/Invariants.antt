use Rattle.std.proofs.Common.{◌≡◌, None, take}
use Rattle.lab.proofs.waits.last_effect.Given as goal
use Rattle.lab.specs.Waits.{last_from}

abbrev pub invariant-loop-place : goal.invariant-loop-place
invariant-loop-place l = l.last ≡ last_from l.hart.number 0 None (take l.place l.machine.entries)
