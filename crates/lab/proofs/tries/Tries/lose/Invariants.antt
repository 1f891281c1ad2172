use Rattle.std.proofs.Common.{◌≡◌, map, slice_index}
use Rattle.el_base.specs.Losers.{beaten_by}
use Rattle.lab.proofs.Noting.{lost_below}
use Rattle.lab.proofs.tries.Tries.lose.Given as goal
use Rattle.machine.specs.Story.{state_of}

abbrev pub invariant-loop-number : goal.invariant-loop-number
invariant-loop-number l =
    l.self ≡ map (lost_below l.place (slice_index l.ran) (state_of l.machine) (beaten_by l.losers) l.number)
    l.initial.self
