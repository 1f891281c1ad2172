-- a section begins
use Rattle.std.proofs.Common.{◌∙◌, ap, refl, sym, subst}
use Rattle.std.specs.Prelude.{IsSome, None, Some}
use Rattle.rv_alu.specs.Execution.{put_of, release_of}
use Rattle.section_ctl.proofs.Laws.Begins.{begun_view, held_none, nothing_held}
use Rattle.section_ctl.proofs.Laws.Shows.{begins_run}
use Rattle.section_ctl.specs.Calls.{begun_state}
use Rattle.section_ctl.proofs.section.Section.begin.Goals as goal

pub invariant_of-self : goal.invariant_of-self
invariant_of-self c =
    let marks = c.self.inside.marks in
    let view =
    begun_view c.args.rd c.args.word c.args.old c.args.new c.mark.new.self.present c.perform.new.view
    c.ranges.old.fits c.perform.ensures.view in
    let none = ap (λ state. state.live) c.self.view_is ∙ c.requires.none in
    let empty = nothing_held marks c.self.inside.hold _ c.self.invariant none in
    record {
      mark = subst (λ m. IsSome m.mark) (sym c.mark.ensures) refl;
      running =
          ap (λ v. v.status) view ∙ ap (λ m. m.present.status) c.mark.ensures
          ∙ ap (λ state. state.marks.present.status) c.self.view_is
          ∙ c.requires.running;
      aligned = c.requires.aligned;
      free = λ pool address low high. held_none c.self.inside.hold.entries empty pool address;
    }

pub returns-clause-begun : goal.returns-clause-begun
returns-clause-begun c =
    let view =
    begun_view c.args.rd c.args.word c.args.old c.args.new c.mark.new.self.present c.perform.new.view
    c.ranges.old.fits c.perform.ensures.view in
    let present = view ∙ ap (λ m. release_of (put_of m.present c.args.rd.number c.args.old)) c.mark.ensures in
    let mark = ap (λ m. m.mark) c.mark.ensures in
    (λ k. record {
      marks = record { present = present k; mark = mark k };
      hold = c.self.inside.hold;
      live = Some (record { count = 1; word = c.args.word; old = c.args.old; new = c.args.new });
      armed = None;
    })
    ∙ ap (λ state. begun_state state c.args.word c.args.old c.args.new c.args.rd.number) c.self.view_is

pub returns-clause-shows : goal.returns-clause-shows
returns-clause-shows c =
    let none = ap (λ state. state.live) c.self.view_is ∙ c.requires.none in
    let empty =
    ap (λ state. state.hold.entries) (sym c.self.view_is) ∙ nothing_held c.self.inside.marks c.self.inside.hold _
    c.self.invariant none in
    begins_run c.args.self.now _ c.args.word c.args.old c.args.new c.args.rd c.requires.running empty
    (returns-clause-begun c)
