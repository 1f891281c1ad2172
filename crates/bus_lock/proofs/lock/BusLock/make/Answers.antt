use Rattle.std.proofs.Common.{ap, sym, ◌∙◌, ◌++◌, ◌∷◌, [], Some, length}
use Rattle.bus_lock.specs.Locks.{boxed}
use Rattle.bus_lock.specs.Steps.{first_account}
use Rattle.bus_lock.proofs.Ends.{begins_with}
use Rattle.bus_lock.proofs.lock.BusLock.make.Goals as goal

pub new-requires : goal.new-requires
new-requires g c =
    let entries = g.M.Chronicled.entries in let opening = g.M.Chronicled.opening in
    let home = c.in_ok-put_in_box.field-0 in let back = sym c.in_ok-put_in_box.ensures.put in
    let same = c.of-start.ensures ∙ back in
    begins_with (boxed entries) (boxed opening) home _ _ _ _ (ap opening same) (ap entries same)
    (c.from-count.ensures ∙ (c.length.ensures ∙ ap (λ v. length (entries v)) back))
    (c.push_reserved.ensures.items ∙ ap (λ l. l ++ Some home ∷ []) c.in-Ok.ensures.items)

pub of_seat-requires : goal.of_seat-requires
of_seat-requires g c =
    let start = c.of-start.result.value in (
      first_account c.in-Ok-new.seat.table_id (g.M.Chronicled.opening start) (g.M.Chronicled.entries start),
      c.in-Ok-new.ensures.ok.4,
    )
