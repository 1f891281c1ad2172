use Rattle.std.proofs.Common.{◌≡◌, ap, ◌∙◌, sym, subst, refl}
use Rattle.el_base.specs.Winners.{winner_over}
use Rattle.timetable.specs.Counting.{Follows, after_others}
use Rattle.timetable.specs.Unsettled.{freed_by}
use Rattle.timetable.proofs.Counting.{after_any, event_follows}
use Rattle.timetable.proofs.hart_times.HartTimes.count.Goals.{then-eq, else-eq}
use Rattle.timetable.proofs.hart_times.HartTimes.count.Goals as goal

pub returns : goal.returns
returns c =
    let own : c.if-eq.self ≡ after_any c.eq.result c.args.self.now c.args.entry.outcome =
    elim c.if-eq.branch [
      | then-eq w ↦ w.self-is ∙ w.count_own.ensures ∙ ap (λ own. after_any own c.args.self.now c.args.entry.outcome)
          (sym w.if-eq.true)
      | else-eq w ↦ w.self-is ∙ ap (λ own. after_any own c.args.self.now c.args.entry.outcome) (sym w.if-eq.false)
    ] in
    subst (λ row. Follows c.args.hart.number c.args.entry c.args.self.now row)
    (sym (c.count_others.ensures ∙ ap (λ row. after_others row (winner_over c.args.entry.outcome c.args.hart.number)
    (freed_by c.args.entry.outcome c.args.hart.number)) own))
    (event_follows c.args.hart.number c.args.entry c.args.self.now c.eq.result (sym c.eq.ensures)
    c.requires.places _ refl)
