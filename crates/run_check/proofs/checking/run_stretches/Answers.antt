use Rattle.std.proofs.Common.{◌∙◌, sym, arith, length, ◌≡◌}
use Rattle.std.proofs.lemmas.List.{get_or_read}
use Rattle.el_base.specs.HartId.{hart_id}
use Rattle.run_check.specs.declared.content.Stretch.{Stretch}
use Rattle.run_check.proofs.Runs.{length_all_written, steps_at, step_counts, stretch_more}
use Rattle.run_check.proofs.checking.run_stretches.Goals as goal

pub loop-stretch-preserved : goal.loop-stretch-preserved
loop-stretch-preserved c =
    let xs = c.args.stretches.now in
    let i = c.loop-stretch.stretch-index in
    let d : Stretch = record { hart = hart_id 0; count = 0 } in
    let is = sym (get_or_read xs i c.stretch-item.result c.loop-stretch-test.true c.stretch-item.is d) in
    record {
      ran =
          stretch_more c.args.flat.now c.loop-stretch.flat c.run_stretch.new.flat xs i c.stretch-item.result d
          c.loop-stretch-test.true is
          c.loop-stretch.invariant.ran c.run_stretch.ensures.ran;
      serial =
          step_counts xs i c.stretch-item.result c.loop-stretch.serial c.from-serial.result is
          c.loop-stretch.invariant.serial c.from-serial.ensures;
      harts = c.run_stretch.ensures.harts ∙ c.loop-stretch.invariant.harts;
    }

pub returns-clause-serial : goal.returns-clause-serial
returns-clause-serial c =
    let xs = c.args.stretches.now in
    let end : c.loop-stretch.stretch-index ≡ length xs =
    omega (arith, c.loop-stretch-test.false, c.loop-stretch.auto.stretch-index-end) in
    c.loop-stretch.invariant.serial ∙ steps_at xs end ∙ sym (length_all_written xs)
