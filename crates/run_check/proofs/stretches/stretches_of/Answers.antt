use Rattle.std.proofs.Common.{◌++◌, List, ℕ, length, take, ◌+◌, arith, sym, ap, ◌∙◌}
use Rattle.std.proofs.lemmas.List.{length-append}
use Rattle.chronicle.specs.Serial.{serial, taking_effect}
use Rattle.run_check.specs.Certified.{with_pending}
use Rattle.run_check.proofs.Codes.{code_is, pushed_pending, serial_fits, serial_more}
use Rattle.run_check.proofs.stretches.stretches_of.Goals as goal
use Rattle.run_check.proofs.stretches.stretches_of.Goals.{in-Some+in_ok-push, in_default}

pub extend_by_entry-requires-clause-few : goal.extend_by_entry-requires-clause-few
extend_by_entry-requires-clause-few g c =
    let entries = g.C.Chronicled.entries c.args.history.now in
    let place = c.loop-place.place in
    let entry = c.entry.result in
    let own = taking_effect entry.event.hart.number entry.outcome in
    omega (
      arith,
      c.requires,
      serial_fits entries (place + 1),
      ap length (serial_more entries place entry c.entry.ensures),
      length-append (serial (take place entries)) own,
      ap length c.loop-place.invariant.written,
    )

pub loop-place-preserved : goal.loop-place-preserved
loop-place-preserved g c =
    let entries = g.C.Chronicled.entries c.args.history.now in
    let place = c.loop-place.place in
    let entry = c.entry.result in
    record {
      growing = c.in_ok-pending.ensures.growing;
      written =
          c.in_ok-pending.ensures.grown
          ∙ ap (λ (l : List ℕ). l ++ taking_effect entry.event.hart.number entry.outcome) c.loop-place.invariant.written
          ∙ sym (serial_more entries place entry c.entry.ensures);
    }

pub returns : goal.returns
returns g c =
    let entries = g.C.Chronicled.entries c.args.history.now in
    let items = c.loop-place.stretches.items in
    let pending = c.loop-place.pending in
    code_is items c.match-pending.stretches.items pending entries c.loop-place.place
    (elim c.match-pending.branch [
      | in-Some+in_ok-push w ↦
          ap (λ v. v.items) w.stretches-is
          ∙ pushed_pending items w.push.new.self.items w.in-Some.last pending w.in-Some.is w.in_ok-push.ensures.items
      | in_default w ↦ ap (λ v. v.items) w.stretches-is ∙ sym (ap (with_pending items) w.in_default.is)
    ])
    c.loop-place.invariant.growing.code c.loop-place.invariant.written
    (omega (arith, c.loop-place-test.false, c.length-place-end.ensures))
