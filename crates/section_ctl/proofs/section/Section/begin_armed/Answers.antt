-- an armed section becomes a live one
use Rattle.std.proofs.Common.{◌≡◌, ◌∙◌, ◌+◌, None, Some, ap, subst, sym}
use Rattle.rv_alu.specs.Execution.{put_of, release_of}
use Rattle.section_ctl.proofs.Arming.{elided_view, elides_run}
use Rattle.section_ctl.proofs.Laws.Begins.{held_none}
use Rattle.section_ctl.proofs.Laws.Shows.{at_some}
use Rattle.section_ctl.specs.Calls.{elided_state}
use Rattle.section_ctl.specs.PrivateRuns.{ElidesRun}
use Rattle.section_ctl.specs.State.{IsArmed, SectionStands, armed_in, reserved_of, shown_state}
use Rattle.section_ctl.specs.declared.private.Private.TheVariants as privates
use Rattle.section_ctl.proofs.section.Section.begin_armed.Goals as goal

armed : (c : goal.After-self-1) → IsArmed c.self.inside.marks c.self.inside.hold (reserved_of c.in-Armed.reserved)
armed c = subst (SectionStands c.self.inside.marks c.self.inside.hold) c.in-Armed.is c.self.invariant

view : (c : goal.After-self-1) → c.perform.new.view ≡ release_of (put_of c.self.inside.marks.present c.args.rd.number 0)
view c =
    elided_view c.args.rd c.in-Armed.reserved.armed.word c.args.new c.self.inside.marks.present c.perform.new.view
    c.perform.ensures.view

shown : (c : goal.After-self-1) → c.args.self.now.armed ≡ Some (reserved_of c.in-Armed.reserved)
shown c = ap (λ state. state.armed) (sym c.self.view_is) ∙ ap armed_in c.in-Armed.is

begun : (c : goal.After-self-1) →
    shown_state (record { present = c.perform.new.view; mark = c.self.inside.marks.mark }) c.self.inside.hold
    (privates.Live (record {
      count = c.in-Armed.reserved.armed.count + 1;
      word = c.in-Armed.reserved.armed.word;
      old = c.in-Armed.reserved.old;
      new = c.args.new;
    }))
    ≡ elided_state c.args.self.now (reserved_of c.in-Armed.reserved) c.args.new c.args.rd.number
begun c =
    let reserved = c.in-Armed.reserved in
    (λ k. record {
      marks = record { present = view c k; mark = c.self.inside.marks.mark };
      hold = c.self.inside.hold;
      live =
          Some (record {
            count = reserved.armed.count + 1;
            word = reserved.armed.word;
            old = reserved.old;
            new = c.args.new;
          });
      armed = None;
    })
    ∙ ap (λ state. elided_state state (reserved_of reserved) c.args.new c.args.rd.number) c.self.view_is

pub invariant_of-self : goal.invariant_of-self
invariant_of-self c =
    let was = armed c in
    record {
      mark = was.mark;
      running = ap (λ v. v.status) (view c) ∙ was.running;
      aligned = was.aligned;
      free = λ pool address low high. held_none c.self.inside.hold.entries was.empty pool address;
    }

pub returns-clause-begun : goal.returns-clause-begun
returns-clause-begun c =
    at_some c.args.self.now.armed (reserved_of c.in-Armed.reserved)
    (λ reserved. _ ≡ elided_state c.args.self.now reserved c.args.new c.args.rd.number) (shown c) (begun c)

pub returns-clause-shows : goal.returns-clause-shows
returns-clause-shows c =
    let empty = ap (λ state. state.hold.entries) (sym c.self.view_is) ∙ (armed c).empty in
    at_some c.args.self.now.armed (reserved_of c.in-Armed.reserved)
    (λ reserved. ElidesRun c.args.self.now _ reserved c.args.new c.args.rd) (shown c)
    (elides_run c.args.self.now _ (reserved_of c.in-Armed.reserved) c.args.new c.args.rd empty (begun c))
