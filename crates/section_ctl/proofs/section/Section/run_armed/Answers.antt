-- an armed section goes on
use Rattle.std.proofs.Common.{◌∙◌, ap, arith}
use Rattle.section_ctl.proofs.Arming.{quiet_continues}
use Rattle.section_ctl.proofs.Laws.Begins.{is_armed}
use Rattle.section_ctl.specs.State.{reserved_of}
use Rattle.section_ctl.proofs.section.Section.run_armed.Goals as goal

pub invariant_of-self : goal.invariant_of-self
invariant_of-self c =
    let inside = c.self.inside in
    let was = is_armed inside.marks inside.hold inside.private (reserved_of c.args.reserved) c.self.invariant
    (ap (λ state. state.armed) c.self.view_is ∙ c.requires.is) in
    let counted = c.requires.quiet.counted in
    record {
      mark = was.mark;
      running =
          quiet_continues c.args.action inside.marks.present c.perform.new.view c.requires.quiet.quiet was.running
          c.perform.ensures.view;
      aligned = was.aligned;
      empty = was.empty;
      counted = omega (arith, counted);
    }
