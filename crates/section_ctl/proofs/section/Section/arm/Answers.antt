-- a section arms
use Rattle.std.proofs.Common.{◌∙◌, None, Some, ap, arith, refl, subst, sym}
use Rattle.std.specs.Prelude.{IsSome}
use Rattle.section_ctl.proofs.Arming.{armed_view, arms_run}
use Rattle.section_ctl.proofs.Laws.Begins.{nothing_held}
use Rattle.section_ctl.specs.Calls.{armed_state}
use Rattle.section_view.specs.ArmedLaws.{reserved_view}
use Rattle.section_ctl.proofs.section.Section.arm.Goals as goal

pub invariant_of-self : goal.invariant_of-self
invariant_of-self c =
    let view =
    armed_view c.args.rd c.args.word c.args.old c.mark.new.self.present c.perform.new.view c.ranges.old.fits
    c.perform.ensures.view in
    let none = ap (λ state. state.live) c.self.view_is ∙ c.requires.none in
    record {
      mark = subst (λ m. IsSome m.mark) (sym c.mark.ensures) refl;
      running =
          ap (λ v. v.status) view ∙ ap (λ m. m.present.status) c.mark.ensures
          ∙ ap (λ state. state.marks.present.status) c.self.view_is
          ∙ c.requires.running;
      aligned = c.requires.aligned;
      empty = nothing_held c.self.inside.marks c.self.inside.hold _ c.self.invariant none;
      counted = omega arith;
    }

pub returns-clause-armed : goal.returns-clause-armed
returns-clause-armed c =
    let view =
    armed_view c.args.rd c.args.word c.args.old c.mark.new.self.present c.perform.new.view c.ranges.old.fits
    c.perform.ensures.view in
    let present = view ∙ ap (λ m. reserved_view m.present c.args.rd.number c.args.word c.args.old) c.mark.ensures in
    let mark = ap (λ m. m.mark) c.mark.ensures in
    (λ k. record {
      marks = record { present = present k; mark = mark k };
      hold = c.self.inside.hold;
      live = None;
      armed = Some (record { armed = record { count = 1; word = c.args.word }; old = c.args.old });
    })
    ∙ ap (λ state. armed_state state c.args.word c.args.old c.args.rd.number) c.self.view_is

pub returns-clause-shows : goal.returns-clause-shows
returns-clause-shows c =
    arms_run c.args.self.now _ c.args.word c.args.old c.args.rd c.requires.running (returns-clause-armed c)
