use Rattle.std.proofs.Common.{rules, ap, sym, ◌∙◌, ◌∷◌, Some}
use Rattle.atomic_table.specs.Table.{rest}
use Rattle.bus_lock.proofs.lock.BusLock.wait_for_turn.Goals as goal

pub exchange-requires : goal.exchange-requires
exchange-requires g c =
    let taken = c.is_served.ensures.served c.if-is_served.true in
    (search rules, (Some taken.value, taken.holds ∙ ap (λ l. (0, Some taken.value) ∷ rest l) (sym taken.holds)))
