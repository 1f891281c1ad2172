-- one hart more, which is there or not
use Rattle.std.proofs.Common.{◌∙◌, ◌+◌, ◌≤◌, ℕ, ap, arith, length, subst, sym}
use Rattle.residency.specs.Cache.{letter_of}
use Rattle.el_model.specs.State.{cache_of}
use Rattle.lab.proofs.Lettering.{AreBelow, letter_passed, letter_put}
use Rattle.lab.proofs.showing.letters_of.Goals as goal
use Rattle.lab.proofs.showing.letters_of.Goals.{then-from-harts, else-from-harts}
use Rattle.machine.specs.Story.{state_of}
use Rattle.moesi.specs.declared.letter.Letter.{Letter}

pub loop-number-preserved : goal.loop-number-preserved
loop-number-preserved c =
    let state = state_of c.args.machine.now in
    let wanted : ℕ → Letter = λ h. letter_of (cache_of state h) c.args.line.number in
    elim c.if-from-harts.branch [
      | then-from-harts w ↦
          subst (λ letters. AreBelow wanted (length state.harts) letters (c.loop-number.number + 1)) (sym w.letters-is)
          (letter_put wanted (length state.harts) c.loop-number.letters c.loop-number.number
          w.from-then-from-harts.result w.letter.result
          c.loop-number-test.true w.from-then-from-harts.ensures
          (w.letter.ensures.exact ∙ ap (λ r. letter_of r c.args.line.number)
          (w.sets.ensures.shown state c.bus-bus.ensures.shows))
          c.loop-number.invariant)
      | else-from-harts w ↦
          let past : length state.harts ≤ c.loop-number.number =
          (omega (
            arith,
            w.if-from-harts.false,
            c.from.ensures,
            c.harts-harts.ensures,
            c.bus-bus.ensures.shows.agent_each,
          )) in
          subst (λ letters. AreBelow wanted (length state.harts) letters (c.loop-number.number + 1)) (sym w.letters-is)
          (letter_passed wanted (length state.harts) c.loop-number.letters c.loop-number.number past
          c.loop-number.invariant)
    ]
