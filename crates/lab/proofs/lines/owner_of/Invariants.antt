use Rattle.std.proofs.Common.{◌≡◌}
use Rattle.std.specs.Option.{option_map}
use Rattle.lab.proofs.lines.owner_of.Given as goal
use Rattle.lab.specs.Lines.{letter_at, owner_below}
use Rattle.machine.specs.Story.{state_of}

abbrev pub invariant-loop-number : goal.invariant-loop-number
invariant-loop-number l =
    option_map (λ hart. hart.number) l.owner ≡ owner_below (letter_at (state_of l.machine) l.line.number) l.number
