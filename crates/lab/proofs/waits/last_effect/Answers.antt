-- one entry after another
use Rattle.std.proofs.Common.{◌∙◌, ◌<◌, Some, ap, arith, cond, length, sym}
use Rattle.std.proofs.lemmas.Option.{get_or_from_slice_get}
use Rattle.lab.proofs.Waiting.{last_more, last_told}
use Rattle.lab.proofs.waits.last_effect.Goals as goal
use Rattle.lab.proofs.waits.last_effect.Goals.{then-acts, else-acts}

pub loop-place-preserved : goal.loop-place-preserved
loop-place-preserved c =
    let entries = c.args.machine.now.entries in
    let place = c.loop-place.place in
    let below : place < length entries =
    omega (arith, c.loop-place-test.true, c.loop-place.auto.place-end, c.length-place-end.ensures) in
    let more = last_more c.args.hart.number entries place c.entry.result c.loop-place.last below
    (sym (get_or_from_slice_get entries place c.entry.result c.entry.result c.entry.ensures)) c.loop-place.invariant in
    elim c.if-acts.branch [
      | then-acts w ↦
          w.last-is ∙ ap (λ b. cond b (Some place) c.loop-place.last) (sym w.if-acts.true ∙ c.acts.ensures) ∙ more
      | else-acts w ↦
          w.last-is ∙ ap (λ b. cond b (Some place) c.loop-place.last) (sym w.if-acts.false ∙ c.acts.ensures) ∙ more
    ]

pub returns : goal.returns
returns c =
    last_told c.args.hart.number c.args.machine.now.entries c.loop-place.place c.loop-place.last
    (omega (arith, c.loop-place-test.false, c.length-place-end.ensures)) c.loop-place.invariant
