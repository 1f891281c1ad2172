-- the losers, one hart after another
use Rattle.std.proofs.Common.{◌∙◌, ap, map, slice_index}
use Rattle.el_base.specs.Losers.{beaten_by}
use Rattle.lab.proofs.Noting.{loser_passed, loss_is, none_lost, unbeaten, winner_passed}
use Rattle.lab.proofs.tries.Tries.lose.Goals as goal
use Rattle.lab.proofs.tries.Tries.lose.Goals.{in-Some, in_default}
use Rattle.lab.specs.Tries.{ended_for}
use Rattle.lab.specs.declared.tries.Ended.TheVariants.{LostTo}
use Rattle.machine.specs.Story.{state_of}

pub loop-number-init : goal.loop-number-init
loop-number-init c =
    none_lost c.args.place (slice_index c.args.ran.now) (state_of c.args.machine.now)
    (beaten_by c.args.losers) c.args.self.now

pub loop-number-preserved : goal.loop-number-preserved
loop-number-preserved c =
    elim c.match-winner_of.branch [
      | in-Some w ↦ w.self-is
          ∙ loser_passed c.args.place (slice_index c.args.ran.now) (state_of c.args.machine.now)
          (beaten_by c.args.losers)
          c.loop-number.number c.args.self.now c.loop-number.self w.end.new.self c.loop-number.invariant
          (w.end.ensures
          ∙ ap (λ ended. map (ended_for c.loop-number.number ended) c.loop-number.self)
          (ap (λ n. LostTo c.args.place (slice_index c.args.ran.now n) w.in-Some.winner w.waited_for.result)
          w.from.ensures
          ∙ loss_is c.args.place (slice_index c.args.ran.now c.loop-number.number) (state_of c.args.machine.now)
          w.in-Some.winner
          w.waited_for.result (beaten_by c.args.losers c.loop-number.number) w.in-Some.ensures w.waited_for.ensures))
      | in_default w ↦ w.self-is
          ∙ winner_passed c.args.place (slice_index c.args.ran.now) (state_of c.args.machine.now)
          (beaten_by c.args.losers)
          c.loop-number.number c.args.self.now c.loop-number.self c.loop-number.invariant
          (unbeaten c.winner_of.result _ c.winner_of.ensures w.in_default.not-Some)
    ]
