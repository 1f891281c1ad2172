-- all harts were asked
use Rattle.std.proofs.Common.{◌≡◌, ◌∙◌, ap, arith}
use Rattle.lab.proofs.lines.owner_of.Goals as goal
use Rattle.lab.specs.Lines.{letter_at, owner_below}
use Rattle.machine.specs.Story.{state_of}

pub returns : goal.returns
returns c =
    let all : c.loop-number.number ≡ 8 = omega (arith, c.loop-number-test.false, c.loop-number.auto.number-end) in
    c.loop-number.invariant ∙ ap (owner_below (letter_at (state_of c.args.machine.now) c.args.line.number)) all
