-- each place that is found is put behind the earlier ones
use Rattle.std.proofs.Common.{ap, ◌∙◌}
use Rattle.report.proofs.Finding.{all_told, one_failed_to_be_told, one_told, still_within}
use Rattle.report.proofs.Putting.{failed_puts}
use Rattle.step_back.specs.Standing.{Standing}
use Rattle.report.proofs.places.put_found.Goals as goal

pub loop-hart-preserved : goal.loop-hart-preserved
loop-hart-preserved g c =
    let is = c.next_at.ensures.found c.loop-hart-test.true in
    record {
      same = c.next_at.ensures.place
          ∙ ap (λ (one : Standing). record one { place = c.next_at.new.self.place }) c.loop-hart.invariant.same;
      within =
          still_within c.loop-hart.timeline c.next_at.new.self c.args.hart.number c.args.pc c.next_at.ensures.place is;
      put = one_told c.args.timeline.now c.loop-hart.timeline c.args.hart.number c.args.pc c.loop-hart.invariant.same
          c.next_at.new.self c.into.result c.next_at.ensures.place is (c.into.ensures ∙ c.place.ensures.exact) _ _ _
          c.loop-hart.invariant.put c.in_ok-put_number_line.ensures;
    }

pub returns-in_err-put_number_line : goal.returns-in_err-put_number_line
returns-in_err-put_number_line g c =
    failed_puts c.from_residual.result _ _ _ c.from_residual.ensures.0
    (one_failed_to_be_told c.args.timeline.now c.loop-hart.timeline c.args.hart.number c.args.pc
    c.loop-hart.invariant.same
    c.next_at.new.self c.into.result c.next_at.ensures.place (c.next_at.ensures.found c.loop-hart-test.true)
    (c.into.ensures ∙ c.place.ensures.exact) _ _ _ c.loop-hart.invariant.put c.in_err-put_number_line.ensures)

pub returns : goal.returns
returns g c =
    all_told c.args.timeline.now c.loop-hart.timeline c.args.hart.number c.args.pc c.loop-hart.invariant.same _ _
    c.loop-hart.invariant.within (c.next_at.ensures.none c.loop-hart-test.false) c.loop-hart.invariant.put
