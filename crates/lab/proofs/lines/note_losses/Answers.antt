-- the losers, one hart after another
use Rattle.std.proofs.Common.{◌∙◌, ap}
use Rattle.el_base.specs.Losers.{beaten_by}
use Rattle.lab.proofs.Lining.{loss_told, none_told}
use Rattle.lab.proofs.Noting.{unbeaten}
use Rattle.lab.proofs.lines.note_losses.Goals as goal
use Rattle.lab.proofs.lines.note_losses.Goals.{in-Some+in_ok-push, in_default}
use Rattle.machine.specs.Story.{state_of}

pub loop-number-preserved : goal.loop-number-preserved
loop-number-preserved c =
    elim c.match-winner_of.branch [
      | in-Some+in_ok-push w ↦
          ap (λ v. v.items) w.facts-is
          ∙ loss_told c.args.place (state_of c.args.machine.now) (beaten_by c.args.losers) _ w.in-Some.winner
          w.waited_for-line.result
          c.args.facts.now.items c.loop-number.facts.items w.push.new.self.items c.loop-number.invariant
          w.in-Some.ensures
          w.waited_for-line.ensures w.in_ok-push.ensures.items
      | in_default w ↦
          ap (λ v. v.items) w.facts-is
          ∙ none_told c.args.place (state_of c.args.machine.now) (beaten_by c.args.losers) c.loop-number.number
          c.args.facts.now.items
          c.loop-number.facts.items c.loop-number.invariant
          (unbeaten c.winner_of.result _ c.winner_of.ensures w.in_default.not-Some)
    ]
