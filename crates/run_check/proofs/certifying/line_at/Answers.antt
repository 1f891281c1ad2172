use Rattle.std.proofs.Common.{arith, ◌∙◌, length-set, refl}
use Rattle.run_check.proofs.Gathering.{byte_got, byte_set, line_is}
use Rattle.run_check.proofs.certifying.line_at.Goals as goal

pub loop-place-preserved : goal.loop-place-preserved
loop-place-preserved g c =
    let state = g.R.Reached.state c.args.reached.now in
    record {
      long = length-set c.loop-place.bytes c.loop-place.place c.unwrap.result ∙ c.loop-place.invariant.long;
      read =
          byte_set c.loop-place.bytes state.bytes c.args.index c.loop-place.place c.unwrap.result
          c.loop-place.invariant.long c.loop-place-test.true
          c.loop-place.invariant.read
          (byte_got state.bytes c.args.base state.base _ c.loop-place.place c.args.index c.unwrap.result c.byte.result
          c.unwrap.ensures
          c.byte.ensures.exact c.requires.base refl);
    }

pub returns : goal.returns
returns g c =
    line_is (g.R.Reached.state c.args.reached.now).bytes c.loop-place.bytes c.args.index c.loop-place.invariant.long
    c.requires.inside
    (λ k low. c.loop-place.invariant.read k (omega (arith, c.loop-place-test.false)))
