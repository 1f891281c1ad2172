use Rattle.std.proofs.Common.{rules, ap, arith, ◌∙◌}
use Rattle.bus_lock.proofs.Keeps.{draws}
use Rattle.bus_lock.proofs.lock.BusLock.draw.Goals as goal

pub compare_exchange-found-requires : goal.compare_exchange-found-requires
compare_exchange-found-requires g c =
    let idle = ap (λ m. m.0.turn) (c.loop.invariant.1 ∙ c.requires.rests.1) in
    (search rules, search rules, draws _ _ _ _ _ _ _ _ _ _ (omega arith) idle)
