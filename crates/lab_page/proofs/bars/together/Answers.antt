-- one piece more
use Rattle.std.proofs.Common.{arith}
use Rattle.lab_page.proofs.Barring.{count_fits, piece_passed, piece_put}
use Rattle.lab_page.proofs.bars.together.Goals as goal
use Rattle.lab_page.proofs.bars.together.Goals.{then-piece-hart+then-column-len, else-piece-hart}
use Rattle.lab_page.proofs.bars.together.Goals.{else-piece-hart-via-then-piece-hart+else-column-len}
use Rattle.lab_page.proofs.bars.together.Goals.{else-piece-hart-via-else-piece-hart}

pub put-requires-clause-fits : goal.put-requires-clause-fits
put-requires-clause-fits c =
    count_fits c.args.hart.number c.args.width c.loop-piece.piece-index c.args.pieces.now c.loop-piece.bars.items
    c.piece-item.result.first c.piece-item.result.kind c.loop-piece-test.true (omega arith)
    c.loop-piece.invariant (omega (arith, c.if-column-len.true, c.len.ensures))

pub loop-piece-preserved : goal.loop-piece-preserved
loop-piece-preserved c =
    elim c.if-piece-hart.branch [
      | then-piece-hart+then-column-len w ↦
          rw (w.bars-is, w.put.ensures)
          (piece_put c.args.hart.number c.args.width c.loop-piece.piece-index c.args.pieces.now c.piece-item.result
          c.loop-piece.bars.items c.loop-piece-test.true c.piece-item.is (omega (arith, w.if-piece-hart.true))
          (omega (arith, w.if-column-len.true, w.len.ensures)) c.loop-piece.invariant)
      | else-piece-hart w ↦
          rw (w.bars-is)
          (piece_passed c.args.hart.number c.args.width c.loop-piece.piece-index c.args.pieces.now c.piece-item.result
          c.loop-piece.bars.items c.loop-piece-test.true c.piece-item.is
          (λ own below.
          elim w.else-piece-hart.branch [
            | else-piece-hart-via-then-piece-hart+else-column-len v ↦
                absurd (omega (arith, v.if-column-len.false, v.len.ensures, below))
            | else-piece-hart-via-else-piece-hart v ↦ v.if-piece-hart.false own
          ])
          c.loop-piece.invariant)
    ]
