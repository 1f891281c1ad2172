use Rattle.std.proofs.Common.{◌≡◌, ◌++◌}
use Rattle.el_base.specs.Losers.{beaten_by}
use Rattle.lab.proofs.lines.note_losses.Given as goal
use Rattle.lab.specs.Lines.{losses_below}
use Rattle.machine.specs.Story.{state_of}

abbrev pub invariant-loop-number : goal.invariant-loop-number
invariant-loop-number l =
    l.facts.items ≡ l.initial.facts.items ++ losses_below l.place (state_of l.machine) (beaten_by l.losers) l.number
